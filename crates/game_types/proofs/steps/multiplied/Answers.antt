use Rattle.fractions.specs.Fraction.{◌*ʳ◌}
use Rattle.game_types.specs.Steps.{is_narrow, multiplied}
use Rattle.game_types.proofs.StepLemmas.{narrow_decided, formed_ok, formed_err}
use Rattle.game_types.proofs.steps.multiplied.Goals as goal

pub returns-in_default : goal.returns-in_default
unfolding multiplied
returns-in_default c = formed_err c.args.step (is_narrow (c.args.left.now *ʳ c.args.right.now)) (c.args.left.now *ʳ c.args.right.now) (narrow_decided (c.args.left.now *ʳ c.args.right.now)) c.in_default.ensures

pub returns : goal.returns
unfolding multiplied
returns c = formed_ok c.args.step (is_narrow (c.args.left.now *ʳ c.args.right.now)) (c.args.left.now *ʳ c.args.right.now) c.in-Ok.value (narrow_decided (c.args.left.now *ʳ c.args.right.now)) c.in-Ok.ensures.0 c.in-Ok.ensures.1
