use Rattle.std.proofs.Common.{◌∙◌, sym, ap}
use Rattle.fractions.specs.Fraction.{Fraction}
use Rattle.game_types.specs.Steps.{sum_of}
use Rattle.game_types.specs.Beacons.{group_power}
use Rattle.game_types.proofs.Walks.{next, sum_pass, sum_stop, sum_stop_term, sum_end, returned}
use Rattle.beacon_effects.proofs.power.power_sum.Goals as goal

pub loop-group-init : goal.loop-group-init
loop-group-init c = ap (λ (sum : Fraction). sum_of 9 (group_power c.args.game.now) sum c.args.groups.now) (sym c.zero-sum.ensures)

pub returns-in_err-power : goal.returns-in_err-power
returns-in_err-power c =
    returned c.from_residual.result c.in_err-power.field-0.0 c.from_residual.ensures ∙ sym (c.loop-group.invariant ∙ sum_stop_term 9 (group_power c.args.game.now) c.loop-group.sum c.in_err-power.field-0.0 _ _ _
    (next c.args.groups.now c.loop-group.group-index c.group-item.result c.loop-group-test.true c.group-item.is) c.in_err-power.ensures)

pub returns-in_err-sum : goal.returns-in_err-sum
returns-in_err-sum c =
    returned c.from_residual-in_err-sum.result c.in_err-sum.field-0.0 c.from_residual-in_err-sum.ensures ∙ sym (c.loop-group.invariant ∙ sum_stop 9 (group_power c.args.game.now) c.loop-group.sum c.in_ok-power.power c.in_err-sum.field-0.0 _ _ _
    (next c.args.groups.now c.loop-group.group-index c.group-item.result c.loop-group-test.true c.group-item.is) c.in_ok-power.ensures c.in_err-sum.ensures)

pub loop-group-preserved : goal.loop-group-preserved
loop-group-preserved c =
    c.loop-group.invariant ∙ sum_pass 9 (group_power c.args.game.now) c.loop-group.sum c.in_ok-power.power c.in_ok-sum.sum _ _ _
    (next c.args.groups.now c.loop-group.group-index c.group-item.result c.loop-group-test.true c.group-item.is) c.in_ok-power.ensures c.in_ok-sum.ensures

pub returns : goal.returns
returns c = sym (c.loop-group.invariant ∙ sum_end 9 (group_power c.args.game.now) c.loop-group.sum c.args.groups.now c.loop-group.group-index c.loop-group-test.false)
