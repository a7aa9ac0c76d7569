use Rattle.linear_table.specs.Form.{HasSoundColumns}
use Rattle.linear_table.proofs.form.columns_are_sound.Given as goal

abbrev pub invariant-loop-j : goal.invariant-loop-j
invariant-loop-j l = HasSoundColumns l.linear l.j
