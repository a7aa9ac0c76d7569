use Rattle.linear_table.specs.Form.{HasSoundWants}
use Rattle.linear_table.proofs.form.wants_are_sound.Given as goal

abbrev pub invariant-loop-g : goal.invariant-loop-g
invariant-loop-g l = HasSoundWants l.linear l.g
