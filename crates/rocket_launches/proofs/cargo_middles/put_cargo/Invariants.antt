use Rattle.std.proofs.Common.{◌≡◌, ℕ, List, length}
use Rattle.std.specs.Prelude.{nat_lt, if◌then◌else◌}
use Rattle.rocket_launches.specs.Clashes.{IsWithin, ends_at, ends_with, joined}
use Rattle.rocket_launches.proofs.cargo_middles.put_cargo.Given as goal

abbrev pub invariant-loop-place : goal.invariant-loop-place
invariant-loop-place l = record {
  within : IsWithin l.table;
  put : (middle : List ℕ) → ends_at l.table middle ≡ (if nat_lt (length middle) l.place then joined (ends_at l.initial.table middle) (ends_with l.game middle l.cargo) else ends_at l.initial.table middle);
}
