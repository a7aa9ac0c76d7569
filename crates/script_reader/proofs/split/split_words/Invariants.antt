use Rattle.std.specs.Prelude.{length}
use Rattle.script_reader.proofs.Splits.{SoFar}
use Rattle.script_reader.proofs.split.split_words.Given as goal

abbrev pub invariant-loop-rest : goal.invariant-loop-rest
invariant-loop-rest l = SoFar l.line l.rest l.words.items

abbrev pub decreases-loop-rest : goal.decreases-loop-rest
decreases-loop-rest l = length l.rest
