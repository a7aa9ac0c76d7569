-- The places of records, as they are kept.
use Rattle.std.specs.Prelude.{All, ◌≡◌, ℕ, ◌<◌, ◌≤◌, List, Option, Some, None, length, slice_index_or}
use Rattle.fractions.specs.Fraction.{Fraction}
use Rattle.fluid_variants.specs.Temperatures.{IsRising}
use Rattle.fluid_variants.specs.Records.{record_place}

-- how many items come before the fluids, and the temperatures of each fluid
pub record Listed : Type 0 where
  pub items : ℕ
  pub lists : List (List Fraction)

-- the first record of each fluid, and the place behind all records; the temperatures of each fluid rise, and there are no more
-- records than a game has nodes
pub record ArePlaces (items : ℕ) (lists : List (List Fraction)) (places : List ℕ) (last : ℕ) : Type 0 where
  pub as_long : length places ≡ length lists
  pub each : (k : ℕ) → k < length lists → slice_index_or places k 0 ≡ record_place items lists k
  pub rising : All IsRising lists
  pub ends : last ≡ record_place items lists (length lists)
  pub few : last ≤ 131_072

abbrev pub place_or : ℕ → Option ℕ → ℕ
place_or last None = last
place_or last (Some place) = place
