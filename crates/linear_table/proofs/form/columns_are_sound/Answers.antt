use Rattle.std.proofs.Common.{arith, below_more}
use Rattle.linear_table.specs.Form.{IsSoundAt}
use Rattle.linear_table.proofs.form.columns_are_sound.Goals as goal

pub returns-then-not-is_sound_at-clause-not : goal.returns-then-not-is_sound_at-clause-not
returns-then-not-is_sound_at-clause-not c = λ h. c.if-not-is_sound_at.ensures.not (h c.loop-j.j (omega arith))

pub loop-j-preserved : goal.loop-j-preserved
loop-j-preserved c = below_more (IsSoundAt c.args.linear.now) _ c.loop-j.invariant c.if-not-is_sound_at.ensures.yes

pub returns-clause-yes : goal.returns-clause-yes
returns-clause-yes c = λ j h. c.loop-j.invariant j (omega arith)
