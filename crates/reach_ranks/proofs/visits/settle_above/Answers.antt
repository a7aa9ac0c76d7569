-- Right keys are kept early; with no key left the ranks are right.
use Rattle.std.proofs.Common.{arith, length}
use Rattle.reach_ranks.specs.Rounds.{world_under}
use Rattle.reach_ranks.proofs.GivenLemmas.{ranks-from_none}
use Rattle.reach_ranks.proofs.MarkLemmas.{bounds-from_keys, early-from_keys}
use Rattle.reach_ranks.proofs.RepairLemmas.{none-everywhere, empty-from_none}
use Rattle.reach_ranks.proofs.visits.settle_above.Goals as goal

pub visits-init : goal.visits-init
visits-init g c = record {
  keys = bounds-from_keys (world_under (g.R.Rows.rows c.args.rows.now) c.args.marks) 4294967295 c.args.ranks.now c.args.heap.now c.requires.keys;
  above = c.requires.above;
  steps = omega (arith, early-from_keys (world_under (g.R.Rows.rows c.args.rows.now) c.args.marks) 4294967295 c.args.ranks.now c.args.heap.now c.requires.keys);
  later = omega arith;
}

pub returns-clause-ranks : goal.returns-clause-ranks
returns-clause-ranks g c =
    ranks-from_none
    (world_under (g.R.Rows.rows c.args.rows.now) c.args.marks)
    c.requires.marks
    4294967295
    c.visit_least.new.ranks
    c.visit_least.new.heap
    (omega arith)
    c.visit_least.ensures.keys
    (none-everywhere
    c.visit_least.new.heap
    (length (g.R.Rows.rows c.args.rows.now))
    c.visit_least.ensures.keys.heap_long
    (c.visit_least.ensures.none c.visits-test.false))

pub returns-clause-heap : goal.returns-clause-heap
returns-clause-heap g c =
    empty-from_none
    c.visit_least.new.heap
    (length (g.R.Rows.rows c.args.rows.now))
    c.visit_least.ensures.keys.heap_long
    (c.visit_least.ensures.none c.visits-test.false)
