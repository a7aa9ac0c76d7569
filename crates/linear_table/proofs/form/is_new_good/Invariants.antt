use Rattle.linear_table.specs.Form.{IsNewGood}
use Rattle.linear_table.proofs.form.is_new_good.Given as goal

abbrev pub invariant-loop-i : goal.invariant-loop-i
invariant-loop-i l = IsNewGood l.linear l.place l.i
