use Rattle.std.proofs.Common.{◌∙◌, sym, ap}
use Rattle.fractions.specs.Fraction.{Fraction}
use Rattle.game_types.specs.Steps.{sum_of}
use Rattle.game_types.specs.Beacons.{group_bonus, bonus_sum}
use Rattle.game_types.proofs.Walks.{next, sum_pass, sum_stop, sum_stop_term, sum_end, returned}
use Rattle.beacon_effects.proofs.sums.bonus_sum.Goals as goal

pub loop-group-init : goal.loop-group-init
unfolding bonus_sum
loop-group-init c = ap (λ (sum : Fraction). sum_of 2 (group_bonus c.args.game.now c.args.kind) sum c.args.groups.now) (sym c.zero-sum.ensures)

pub returns-in_err-bonus : goal.returns-in_err-bonus
returns-in_err-bonus c =
    returned c.from_residual.result c.in_err-bonus.field-0.0 c.from_residual.ensures ∙ sym (c.loop-group.invariant ∙ sum_stop_term 2 (group_bonus c.args.game.now c.args.kind) c.loop-group.sum c.in_err-bonus.field-0.0 _ _ _
    (next c.args.groups.now c.loop-group.group-index c.group-item.result c.loop-group-test.true c.group-item.is) c.in_err-bonus.ensures)

pub returns-in_err-sum : goal.returns-in_err-sum
returns-in_err-sum c =
    returned c.from_residual-in_err-sum.result c.in_err-sum.field-0.0 c.from_residual-in_err-sum.ensures ∙ sym (c.loop-group.invariant ∙ sum_stop 2 (group_bonus c.args.game.now c.args.kind) c.loop-group.sum c.in_ok-bonus.bonus c.in_err-sum.field-0.0 _ _ _
    (next c.args.groups.now c.loop-group.group-index c.group-item.result c.loop-group-test.true c.group-item.is) c.in_ok-bonus.ensures c.in_err-sum.ensures)

pub loop-group-preserved : goal.loop-group-preserved
loop-group-preserved c =
    c.loop-group.invariant ∙ sum_pass 2 (group_bonus c.args.game.now c.args.kind) c.loop-group.sum c.in_ok-bonus.bonus c.in_ok-sum.sum _ _ _
    (next c.args.groups.now c.loop-group.group-index c.group-item.result c.loop-group-test.true c.group-item.is) c.in_ok-bonus.ensures c.in_ok-sum.ensures

pub returns : goal.returns
returns c = sym (c.loop-group.invariant ∙ sum_end 2 (group_bonus c.args.game.now c.args.kind) c.loop-group.sum c.args.groups.now c.loop-group.group-index c.loop-group-test.false)
