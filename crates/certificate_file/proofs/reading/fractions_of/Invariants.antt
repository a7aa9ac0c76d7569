use Rattle.certificate_file.specs.Said.{SaysFraction}
use Rattle.certificate_file.proofs.Loops.{ReadSoFar}
use Rattle.certificate_file.proofs.reading.fractions_of.Given as goal

abbrev pub invariant-loop-value : goal.invariant-loop-value
invariant-loop-value l = ReadSoFar SaysFraction l.values l.value-index l.found.items
