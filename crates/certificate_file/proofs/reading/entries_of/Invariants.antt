use Rattle.certificate_file.specs.Said.{SaysEntry}
use Rattle.certificate_file.proofs.Loops.{ReadSoFar}
use Rattle.certificate_file.proofs.reading.entries_of.Given as goal

abbrev pub invariant-loop-value : goal.invariant-loop-value
invariant-loop-value l = ReadSoFar SaysEntry l.values l.value-index l.found.items
