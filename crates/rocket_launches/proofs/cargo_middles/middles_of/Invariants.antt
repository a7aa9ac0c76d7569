use Rattle.std.proofs.Common.{◌≡◌, ℕ, List}
use Rattle.rocket_launches.specs.Clashes.{IsWithin, ends_at, ends_among}
use Rattle.rocket_launches.proofs.cargo_middles.middles_of.Given as goal

abbrev pub invariant-loop-good : goal.invariant-loop-good
invariant-loop-good l = record {
  within : IsWithin l.table;
  each : (middle : List ℕ) → ends_at l.table middle ≡ ends_among l.game l.cargo middle l.good-index;
}
