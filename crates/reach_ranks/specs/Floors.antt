-- Ranks below which none can be.
use Rattle.std.specs.Prelude.{ℕ, ◌<◌, ◌≡◌, ◌==◌, ◌&&◌, ◌||◌, Bool, true, List, length, nat_le, nat_lt, slice_index, slice_index_or}
use Rattle.reach_ranks.specs.Rounds.{World}
use Rattle.reach_ranks.specs.Given.{given}

-- whether a rank is no earlier than the floor, where 0 is after all others
abbrev pub is_above : ℕ → ℕ → Bool
is_above floor rank = rank == 0 || (nat_lt 0 floor && nat_le floor rank)

-- no rank is earlier than the floor, which is 1 past its end
abbrev pub AreAbove : List ℕ → List ℕ → Type 0
AreAbove floor ranks = (n : ℕ) → is_above (slice_index_or floor n 1) (slice_index ranks n) ≡ true

-- where no rank is earlier than the floor, no rank that a row gives is
pub record IsFloor (w : World) (limit : ℕ) (floor : List ℕ) : Type 0 where
  pub keeps : (ranks : List ℕ) (n : ℕ) → n < length w.rows → length ranks ≡ length w.rows → AreAbove floor ranks → is_above (slice_index_or floor n 1) (given w limit ranks n) ≡ true
