use Rattle.linear_table.specs.Form.{IsNewName}
use Rattle.linear_table.proofs.form.is_new_name.Given as goal

abbrev pub invariant-loop-i : goal.invariant-loop-i
invariant-loop-i l = IsNewName l.linear l.place l.i
