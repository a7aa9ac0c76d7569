use Rattle.fractions.specs.Fraction.{◌-ʳ◌, negated}
use Rattle.game_types.specs.Steps.{do_fit, subtracted}
use Rattle.game_types.proofs.StepLemmas.{fit_decided, formed_ok, formed_err}
use Rattle.game_types.proofs.steps.subtracted.Goals as goal

pub returns-in_default : goal.returns-in_default
unfolding subtracted
returns-in_default c = formed_err c.args.step (do_fit c.args.left.now (negated c.args.right.now)) (c.args.left.now -ʳ c.args.right.now) (fit_decided c.args.left.now (negated c.args.right.now)) c.in_default.ensures

pub returns : goal.returns
unfolding subtracted
returns c = formed_ok c.args.step (do_fit c.args.left.now (negated c.args.right.now)) (c.args.left.now -ʳ c.args.right.now) c.in-Ok.value (fit_decided c.args.left.now (negated c.args.right.now)) c.in-Ok.ensures.0 c.in-Ok.ensures.1
