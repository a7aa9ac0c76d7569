use Rattle.std.proofs.Common.{◌≡◌, ◌++◌, drop}
use Rattle.run_inputs.proofs.OptionLemmas.{copied_end, copied_next}
use Rattle.run_inputs.proofs.cert_option.append.Given as goal

abbrev pub invariant-loop-word : goal.invariant-loop-word
invariant-loop-word l = l.plain.items ++ drop l.word-index l.words ≡ l.initial.plain.items ++ l.words
