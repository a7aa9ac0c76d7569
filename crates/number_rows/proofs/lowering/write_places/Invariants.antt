use Rattle.std.proofs.Common.{◌≡◌, ◌≤◌, take, pos}
use Rattle.number_rows.specs.Places.{HoldsBut, FailsAt}
use Rattle.number_rows.specs.Tops.{top_at}
use Rattle.number_rows.proofs.lowering.write_places.Given as goal

abbrev pub invariant-loop-k : goal.invariant-loop-k
invariant-loop-k l = (l.count ≤ l.k) × HoldsBut (λ k. (top_at l.tops k ≡ pos 0) × (top_at l.others k ≡ pos 0)) 0 (take l.count l.places) l.k × FailsAt (λ k. (top_at l.tops k ≡ pos 0) × (top_at l.others k ≡ pos 0)) (take l.count l.places)
