use Rattle.std.proofs.Common.{◌≡◌, length}
use Rattle.std.specs.Prelude.{pos}
use Rattle.number_rows.specs.Places.{HoldsBut}
use Rattle.number_rows.specs.Tops.{top_at}
use Rattle.number_rows.proofs.Lists.{IsCombinedBelow}
use Rattle.number_rows.proofs.tops.combine_at.Given as goal

abbrev pub invariant-loop-rest : goal.invariant-loop-rest
invariant-loop-rest l = HoldsBut (λ k. top_at l.others k ≡ pos 0) l.from l.rest (length l.others) × IsCombinedBelow l.initial.tops l.scale l.others l.factor l.tops l.from

abbrev pub decreases-loop-rest : goal.decreases-loop-rest
decreases-loop-rest l = length l.rest
