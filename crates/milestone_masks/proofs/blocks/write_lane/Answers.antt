-- One rank more is written.
use Rattle.std.proofs.Common.{ap, List, ℕ, get_or, arith}
use Rattle.milestone_masks.proofs.SlotLemmas.{written-all, written-more, written-none}
use Rattle.milestone_masks.proofs.blocks.write_lane.Goals as goal

pub loop-n-init : goal.loop-n-init
loop-n-init c = written-none c.args.l c.args.from.now c.args.to.now c.requires.small

pub loop-n-preserved : goal.loop-n-preserved
loop-n-preserved c =
    written-more
    c.args.l
    c.loop-n.n
    _
    _
    c.put_rank.new.row
    c.args.from.now
    c.args.to.now
    c.loop-n.to
    (omega arith)
    c.put_rank.ensures.here
    c.put_rank.ensures.others
    (ap (λ (xs : List ℕ). get_or xs c.loop-n.n 0) c.as_slice-ranks.ensures)
    (omega arith)
    c.loop-n.invariant

pub returns-clause-here : goal.returns-clause-here
returns-clause-here c =
    written-all c.args.l c.loop-n.n c.args.from.now c.args.to.now c.loop-n.to (omega arith) c.requires.long c.loop-n.invariant
