use Rattle.std.proofs.Common.{◌≡◌}
use Rattle.fractions.specs.Fraction.{zero_fraction}
use Rattle.linear_table.specs.Plans.{number_at}
use Rattle.number_rows.specs.Places.{HoldsBut, FailsAt}
use Rattle.number_rows.proofs.row.NumberRow.filled_places.Given as goal

abbrev pub invariant-loop-k : goal.invariant-loop-k
invariant-loop-k l = HoldsBut (λ k. number_at l.self.items k ≡ zero_fraction) 0 l.places.items l.k × FailsAt (λ k. number_at l.self.items k ≡ zero_fraction) l.places.items
