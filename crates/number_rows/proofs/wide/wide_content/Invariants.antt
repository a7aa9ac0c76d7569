use Rattle.std.proofs.Common.{◌<◌, ◌*ℤ◌, ◌-ℤ◌, ℕ, pos, unsigned_abs}
use Rattle.std.specs.Int.{◌∣◌}
use Rattle.number_rows.specs.Tops.{top_at}
use Rattle.number_rows.proofs.wide.wide_content.Given as goal

abbrev pub invariant-loop-k : goal.invariant-loop-k
invariant-loop-k l = (0 < l.common) × (l.common ∣ l.bottom) × ((j : ℕ) → j < l.k → l.common ∣ unsigned_abs (top_at l.tops j *ℤ pos l.scale -ℤ top_at l.others j *ℤ l.factor))
