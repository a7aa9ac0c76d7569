use Rattle.fractions.specs.Limits.{IsNarrow}
use Rattle.certificate_file.specs.Tree.{fraction_tree}
use Rattle.certificate_file.proofs.Loops.{WroteSoFar}
use Rattle.certificate_file.proofs.writing.fractions_value.Given as goal

abbrev pub invariant-loop-fraction : goal.invariant-loop-fraction
invariant-loop-fraction l = WroteSoFar fraction_tree IsNarrow l.fractions l.fraction-index l.list.items
