use Rattle.std.proofs.Common.{◌<◌, ◌^◌, ℕ}
use Rattle.std.specs.Int.{◌∣◌}
use Rattle.linear_table.specs.Plans.{number_at}
use Rattle.number_rows.proofs.bottoms.common_bottom.Given as goal

abbrev pub invariant-loop-k : goal.invariant-loop-k
invariant-loop-k l = (0 < l.bottom) × (l.bottom < 2 ^ 62) × ((j : ℕ) → j < l.k → (number_at l.numbers j).den ∣ l.bottom)
