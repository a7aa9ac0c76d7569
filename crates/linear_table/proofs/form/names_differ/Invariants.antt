use Rattle.linear_table.specs.Form.{HasNewNames}
use Rattle.linear_table.proofs.form.names_differ.Given as goal

abbrev pub invariant-loop-j : goal.invariant-loop-j
invariant-loop-j l = HasNewNames l.linear l.j
