-- Right keys are kept early; with no key left the ranks are right.
use Rattle.std.proofs.Common.{arith, length}
use Rattle.reach_ranks.proofs.GivenLemmas.{ranks-from_none}
use Rattle.reach_ranks.proofs.RepairLemmas.{none-everywhere, empty-from_none}
use Rattle.reach_incremental.specs.Lanes.{lane, world_of, worlds_under}
use Rattle.reach_incremental.proofs.RepairLemmas.{early-none}
use Rattle.reach_incremental.proofs.visits.settle_lanes.Goals as goal

pub visits-init : goal.visits-init
visits-init g c = record {
  keys = c.requires.keys;
  above = c.requires.above;
  steps = omega (
    arith,
    early-none (worlds_under (g.R.Rows.rows c.args.rows.now) c.args.marks) c.args.ranks.now c.args.heap.now c.requires.right,
  );
  later = omega arith;
}

pub returns-clause-ranks : goal.returns-clause-ranks
returns-clause-ranks g c = λ l lt live.
    ranks-from_none
    (world_of (worlds_under (g.R.Rows.rows c.args.rows.now) c.args.marks) l)
    (record { barred = c.requires.marks.barred; granted = c.requires.marks.granted })
    4294967295
    (lane l c.visit_least.new.ranks)
    c.visit_least.new.heap
    (omega arith)
    (c.visit_least.ensures.keys.each l lt live)
    (none-everywhere
    c.visit_least.new.heap
    (length (g.R.Rows.rows c.args.rows.now))
    c.visit_least.ensures.keys.heap_long
    (c.visit_least.ensures.none c.visits-test.false))

pub returns-clause-heap : goal.returns-clause-heap
returns-clause-heap g c =
    empty-from_none
    c.visit_least.new.heap
    (length (g.R.Rows.rows c.args.rows.now))
    c.visit_least.ensures.keys.heap_long
    (c.visit_least.ensures.none c.visits-test.false)
