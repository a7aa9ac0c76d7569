use Rattle.std.proofs.Common.{◌∙◌, sym}
use Rattle.game_types.specs.Beacons.{group_fits}
use Rattle.game_types.proofs.Walks.{next, fault_pass, fault_stop, fault_end, returned}
use Rattle.beacon_effects.proofs.checks.groups_fit.Goals as goal

pub returns-in_err-group_fits : goal.returns-in_err-group_fits
returns-in_err-group_fits c =
    returned c.from_residual.result c.in_err-group_fits.field-0.0 c.from_residual.ensures ∙ sym (c.loop-group.invariant ∙ fault_stop (group_fits c.args.game.now c.args.setup.now) _ _ _
    c.in_err-group_fits.field-0.0 (next c.args.groups.now c.loop-group.group-index c.group-item.result c.loop-group-test.true c.group-item.is) c.in_err-group_fits.ensures)

pub loop-group-preserved : goal.loop-group-preserved
loop-group-preserved c =
    c.loop-group.invariant ∙ fault_pass (group_fits c.args.game.now c.args.setup.now) _ _ _
    (next c.args.groups.now c.loop-group.group-index c.group-item.result c.loop-group-test.true c.group-item.is) c.in_ok-group_fits.ensures

pub returns : goal.returns
returns c = sym (c.loop-group.invariant ∙ fault_end (group_fits c.args.game.now c.args.setup.now) c.args.groups.now c.loop-group.group-index c.loop-group-test.false)
