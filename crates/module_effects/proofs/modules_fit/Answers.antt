use Rattle.std.proofs.Common.{◌∙◌, sym}
use Rattle.std.specs.Prelude.{ℕ}
use Rattle.std.proofs.lemmas.List.{drop_more}
use Rattle.plan_base.specs.declared.ids.GoodId.{GoodId}
use Rattle.game_types.specs.Modules.{module_fits, modules_fit}
use Rattle.game_types.proofs.Walks.{fault_pass, fault_stop, fault_end, returned}
use Rattle.module_effects.proofs.modules_fit.Goals as goal

pub returns-in_err-module_fits : goal.returns-in_err-module_fits
unfolding modules_fit
returns-in_err-module_fits c =
    returned c.from_residual.result c.in_err-module_fits.field-0.0 c.from_residual.ensures ∙ sym (c.loop-good.invariant ∙ fault_stop (λ (m : GoodId × ℕ). module_fits c.args.game.now c.args.allowed.now c.args.activity.now m.0) _ _ _
    c.in_err-module_fits.field-0.0 (drop_more c.args.modules.now c.loop-good.good-index (record { 0 = 0 }, 0) c.loop-good-test.true) c.in_err-module_fits.ensures)

pub loop-good-preserved : goal.loop-good-preserved
unfolding modules_fit
loop-good-preserved c =
    c.loop-good.invariant ∙ fault_pass (λ (m : GoodId × ℕ). module_fits c.args.game.now c.args.allowed.now c.args.activity.now m.0) _ _ _
    (drop_more c.args.modules.now c.loop-good.good-index (record { 0 = 0 }, 0) c.loop-good-test.true) c.in_ok-module_fits.ensures

pub returns : goal.returns
unfolding modules_fit
returns c =
    sym (c.loop-good.invariant ∙ fault_end (λ (m : GoodId × ℕ). module_fits c.args.game.now c.args.allowed.now c.args.activity.now m.0) c.args.modules.now c.loop-good.good-index c.loop-good-test.false)
