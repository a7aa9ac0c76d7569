use Rattle.linear_table.specs.Form.{HasRisingKinds}
use Rattle.linear_table.proofs.form.kinds_rise.Given as goal

abbrev pub invariant-loop-j : goal.invariant-loop-j
invariant-loop-j l = HasRisingKinds l.linear l.j
