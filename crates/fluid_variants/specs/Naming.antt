-- Names of variants among those of fluids.
use Rattle.std.specs.Prelude.{◌≡◌, ℕ, ◌<◌, List, [], ◌∷◌, ◌++◌, Option, Some, None, if◌then◌else◌, is_some, length, nat_lt, slice_index_or}
use Rattle.name_table.specs.Names.{place_of}
use Rattle.fluid_variants.specs.declared.naming.Named.{Named}
use Rattle.fluid_variants.specs.declared.naming.Named.TheVariants.{All, Twice, NoMemory}

-- the lower one of two places, as far as they are there
abbrev pub lower_of : Option ℕ → Option ℕ → Option ℕ
lower_of None other = other
lower_of (Some place) None = Some place
lower_of (Some place) (Some other) = if nat_lt other place then Some other else Some place

-- the first place among names that some of others have
abbrev pub lowest_place : List (List ℕ) → List (List ℕ) → Option ℕ
lowest_place names [] = None
lowest_place names (other ∷ others) = lower_of (place_of names other) (lowest_place names others)

-- the first name that an earlier one is
unfoldable pub first_twice : List (List ℕ) → List (List ℕ) → Option (List ℕ)
first_twice seen [] = None
first_twice seen (name ∷ names) = if is_some (place_of seen name) then Some name else first_twice (seen ++ name ∷ []) names

-- what comes of a table of these names: itself, or the place of the first that is there already
abbrev pub IsNamed : List (List ℕ) → Named → Type 0
IsNamed names (All table) = (first_twice [] names ≡ None) × (table ≡ names)
IsNamed names (Twice place) = (place < length names) × (first_twice [] names ≡ Some (slice_index_or names place []))
IsNamed names NoMemory = Unit {0}
