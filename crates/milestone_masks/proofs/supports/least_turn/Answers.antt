-- One member more.
use Rattle.std.proofs.Common.{◌∙◌, ap, ℕ}
use Rattle.std.specs.Prelude.{min}
use Rattle.milestone_masks.proofs.NumberLemmas.{least-number}
use Rattle.milestone_masks.proofs.supports.least_turn.Goals as goal

pub loop-m-preserved : goal.loop-m-preserved
loop-m-preserved c =
    least-number
    c.args.ranks.now
    c.args.members.now
    c.loop-m.m-index
    c.loop-m.least
    c.min-least.result
    c.loop-m-test.true
    (c.requires c.loop-m.m-index 0 c.loop-m-test.true)
    c.turn_of.ensures.few
    c.turn_of.ensures.small
    (c.min-least.ensures ∙ ap (λ (t : ℕ). min c.loop-m.least t) c.turn_of.ensures.turn)
    c.loop-m.invariant
