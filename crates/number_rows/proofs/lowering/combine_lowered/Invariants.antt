use Rattle.std.proofs.Common.{◌≡◌, ◌≤◌, length}
use Rattle.std.specs.Prelude.{pos}
use Rattle.std.specs.Int.{◌∣◌}
use Rattle.number_rows.specs.Places.{HoldsBut}
use Rattle.number_rows.specs.Lowered.{IsLoweredBelow}
use Rattle.number_rows.specs.Tops.{top_at}
use Rattle.number_rows.proofs.lowering.combine_lowered.Given as goal

abbrev pub invariant-loop-rest : goal.invariant-loop-rest
invariant-loop-rest l = HoldsBut (λ k. (top_at l.tops k ≡ pos 0) × (top_at l.others k ≡ pos 0)) l.from l.rest (length l.tops) × (l.over.divisor ∣ l.bottom) × (length l.quotients ≡ length l.tops) × IsLoweredBelow l.tops l.scale l.others l.factor l.over.divisor l.over.bound l.quotients l.from × (l.from ≤ length l.tops)

abbrev pub decreases-loop-rest : goal.decreases-loop-rest
decreases-loop-rest l = length l.rest
