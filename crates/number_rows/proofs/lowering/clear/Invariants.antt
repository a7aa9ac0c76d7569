use Rattle.std.proofs.Common.{◌≡◌, ℕ, ◌<◌, pos}
use Rattle.number_rows.specs.Tops.{top_at}
use Rattle.number_rows.proofs.lowering.clear.Given as goal

abbrev pub invariant-loop-k : goal.invariant-loop-k
invariant-loop-k l = (j : ℕ) → j < l.k → top_at l.tops j ≡ pos 0
