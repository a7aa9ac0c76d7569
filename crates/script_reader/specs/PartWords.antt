-- How the parts of a row are written. The form is this project's own.
use Rattle.std.specs.Prelude.{◌≡◌, ℕ, ◌≤◌, List, [], ◌∷◌, ◌++◌, codes, Bool, true, false, count_by, Result}
use Rattle.std.specs.List.{before_first, list_any}
use Rattle.script_reader.specs.declared.fault.ScriptFault.{ScriptFault}
use Rattle.script_reader.specs.declared.fault.ScriptFault.TheVariants.{WrongWords}
use Rattle.script_reader.specs.Reading.{the_one}
use Rattle.script_reader.specs.declared.parts.PartWords.{PartWords}
use Rattle.script_reader.specs.declared.parts.PartWords.TheVariants.{Fuel, Module, Beacon, In, At}

-- a part
abbrev pub written_part : PartWords → List (List ℕ)
written_part (Fuel item) = codes "fuel" ∷ item ∷ []
written_part (Module item number) = codes "module" ∷ item ∷ number ∷ []
written_part (Beacon machine number share) = codes "beacon" ∷ machine ∷ number ∷ share ∷ []
written_part (In item number) = codes "in" ∷ item ∷ number ∷ []
written_part (At fluid) = codes "at" ∷ fluid ∷ []

-- parts, one behind another
abbrev pub written_parts : List PartWords → List (List ℕ)
written_parts [] = []
written_parts (part ∷ parts) = written_part part ++ written_parts parts

abbrev pub is_fuel : PartWords → Bool
is_fuel (Fuel item) = true
is_fuel part = false

abbrev pub is_beacon : PartWords → Bool
is_beacon (Beacon machine number share) = true
is_beacon part = false

abbrev pub is_in : PartWords → Bool
is_in (In item number) = true
is_in part = false

-- The words are those of these parts: at most one fuel, and no `in` before the first beacon.
pub record ArePartsOf (words : List (List ℕ)) (parts : List PartWords) : Type 0 where
  pub written : words ≡ written_parts parts
  pub one_fuel : count_by is_fuel parts ≤ 1
  pub beacon_first : list_any is_in (before_first is_beacon parts) ≡ false

-- the part that the words begin with
abbrev pub first_part : List (List ℕ) → Result PartWords ScriptFault → Type 0
first_part words = the_one (λ part. (rest : List (List ℕ)) × (words ≡ written_part part ++ rest)) WrongWords

-- the parts that the words are
abbrev pub all_parts : List (List ℕ) → Result (List PartWords) ScriptFault → Type 0
all_parts words = the_one (λ parts. words ≡ written_parts parts) WrongWords
