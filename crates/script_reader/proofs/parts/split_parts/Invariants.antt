use Rattle.std.specs.Prelude.{◌≡◌, ◌++◌, length}
use Rattle.script_reader.specs.PartWords.{written_parts}
use Rattle.script_reader.proofs.parts.split_parts.Given as goal

abbrev pub invariant-loop-rest : goal.invariant-loop-rest
invariant-loop-rest l = l.words ≡ written_parts l.parts.items ++ l.rest

abbrev pub decreases-loop-rest : goal.decreases-loop-rest
decreases-loop-rest l = length l.rest
