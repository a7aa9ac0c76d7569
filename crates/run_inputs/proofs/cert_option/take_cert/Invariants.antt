use Rattle.std.proofs.Common.{length}
use Rattle.run_inputs.proofs.OptionLemmas.{Passed}
use Rattle.run_inputs.proofs.cert_option.take_cert.Given as goal

abbrev pub invariant-loop-rest : goal.invariant-loop-rest
invariant-loop-rest l = Passed l.initial.plain.items l.words l.plain.items l.rest

abbrev pub decreases-loop-rest : goal.decreases-loop-rest
decreases-loop-rest l = length l.rest
