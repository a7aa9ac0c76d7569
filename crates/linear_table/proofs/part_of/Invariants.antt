use Rattle.std.proofs.Common.{◌≡◌, length}
use Rattle.linear_table.specs.Parts.{part_at}
use Rattle.linear_table.proofs.part_of.Given as goal

abbrev pub invariant-loop-rest : goal.invariant-loop-rest
invariant-loop-rest l = part_at l.rest l.good ≡ part_at l.parts l.good

abbrev pub decreases-loop-rest : goal.decreases-loop-rest
decreases-loop-rest l = length l.rest
