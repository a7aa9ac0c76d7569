-- The numbers that the program ends with.
use Rattle.std.specs.Prelude.{ℕ}
use Rattle.run_inputs.specs.declared.status.Status.{Status}
use Rattle.run_inputs.specs.declared.status.Status.TheVariants.{Done, SomeRefused, BadWords, BadDump, ReadFault, WriteFault, NoMemory, TooLong, BadCert}

abbrev pub exit_of : Status → ℕ
exit_of Done = 0
exit_of SomeRefused = 1
exit_of BadWords = 2
exit_of (BadDump fault) = 3
exit_of ReadFault = 4
exit_of WriteFault = 5
exit_of NoMemory = 6
exit_of (TooLong long) = 7
exit_of (BadCert fault) = 9
