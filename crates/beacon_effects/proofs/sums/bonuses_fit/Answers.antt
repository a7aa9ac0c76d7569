use Rattle.std.proofs.Common.{◌∙◌, sym}
use Rattle.game_types.specs.Beacons.{group_bonuses_fit, bonuses_fit}
use Rattle.game_types.proofs.Walks.{next, fault_pass, fault_stop, fault_end, returned}
use Rattle.beacon_effects.proofs.sums.bonuses_fit.Goals as goal

pub returns-in_err-group_bonuses_fit : goal.returns-in_err-group_bonuses_fit
unfolding bonuses_fit
returns-in_err-group_bonuses_fit c =
    returned c.from_residual.result c.in_err-group_bonuses_fit.field-0.0 c.from_residual.ensures ∙ sym (c.loop-group.invariant ∙ fault_stop (group_bonuses_fit c.args.game.now) _ _ _
    c.in_err-group_bonuses_fit.field-0.0 (next c.args.groups.now c.loop-group.group-index c.group-item.result c.loop-group-test.true c.group-item.is) c.in_err-group_bonuses_fit.ensures)

pub loop-group-preserved : goal.loop-group-preserved
unfolding bonuses_fit
loop-group-preserved c =
    c.loop-group.invariant ∙ fault_pass (group_bonuses_fit c.args.game.now) _ _ _
    (next c.args.groups.now c.loop-group.group-index c.group-item.result c.loop-group-test.true c.group-item.is) c.in_ok-group_bonuses_fit.ensures

pub returns : goal.returns
unfolding bonuses_fit
returns c = sym (c.loop-group.invariant ∙ fault_end (group_bonuses_fit c.args.game.now) c.args.groups.now c.loop-group.group-index c.loop-group-test.false)
