use Rattle.std.proofs.Common.{◌<◌, ◌^◌, ℕ, unsigned_abs, length}
use Rattle.number_rows.specs.Tops.{top_at}
use Rattle.number_rows.proofs.Lists.{AreOverTo}
use Rattle.number_rows.proofs.bottoms.write_tops.Given as goal

abbrev pub invariant-loop-k : goal.invariant-loop-k
invariant-loop-k l = AreOverTo l.tops l.bottom l.numbers l.k × ((j : ℕ) → j < length l.tops → unsigned_abs (top_at l.tops j) < 2 ^ 62)
