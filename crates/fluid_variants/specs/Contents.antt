-- What lists of temperatures hold.
use Rattle.std.specs.Prelude.{◌≡◌, ℕ, ◌+◌, ◌<◌, List, [], Vec, length, map, slice_index_or}
use Rattle.std.specs.Global.{Global}
use Rattle.fractions.specs.Fraction.{Fraction}
use Rattle.fluid_variants.specs.declared.made.Made.{Made}
use Rattle.fluid_variants.specs.Temperatures.{temperatures}

abbrev pub contents : List (Vec Fraction Global) → List (List Fraction)
contents lists = map (λ list. list.items) lists

-- each list has the temperatures at which these are made besides, where the first one is of the good with this number
pub record ArePut (items : ℕ) (all : List Made) (old new : List (List Fraction)) : Type 0 where
  pub as_long : length new ≡ length old
  pub each : (k : ℕ) → k < length old → slice_index_or new k [] ≡ temperatures (items + k) (slice_index_or old k []) all

-- so many empty lists
pub record AreEmpty (count : ℕ) (lists : List (List Fraction)) : Type 0 where
  pub as_long : length lists ≡ count
  pub each : (k : ℕ) → slice_index_or lists k [] ≡ []
