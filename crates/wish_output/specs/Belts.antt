-- How many items a full belt carries. The documentation of Factorio's prototypes says of the speed of a belt (TransportBeltConnectablePrototype): times
-- 480 it is items a second, since 4 stand on each of the 2 lanes of a tile, and a second has 60 ticks.
use Rattle.std.specs.Prelude.{◌≡◌, ℕ, pos, List, [], ◌∷◌, Option, None, Some, option_and_then, Result, Ok, Err, codes}
use Rattle.fractions.specs.Fraction.{Fraction, whole_fraction, ◌*ʳ◌}
use Rattle.fractions.specs.declared.numeral.NumeralFault.{NumeralFault}
use Rattle.json_text.specs.Accepted.{IsAccepted}
use Rattle.json_text.specs.Kept.{Kept, Wishes}
use Rattle.prototype_fields.specs.Numbers.{numeral_reading}
use Rattle.prototype_fields.specs.Objects.{as_number, as_object, as_text, value_at}

-- what is kept of a dump
abbrev pub belt_wishes : Wishes
belt_wishes = record { sections = codes "item" ∷ codes "transport-belt" ∷ []; fields = codes "place_result" ∷ codes "speed" ∷ [] }

-- the value under a key of an object
abbrev pub member_at : List ℕ → Kept → Option Kept
member_at key value = option_and_then (value_at key) (as_object value)

-- a field of one of some prototypes, and of a prototype of a section
abbrev pub field_in : List ℕ → List ℕ → Kept → Option Kept
field_in name key prototypes = option_and_then (member_at key) (member_at name prototypes)

abbrev pub field_at : List ℕ → List ℕ → List ℕ → Kept → Option Kept
field_at section name key dump = option_and_then (field_in name key) (member_at section dump)

-- the name of what an item places
abbrev pub placed : List ℕ → Kept → Option (List ℕ)
placed item dump = option_and_then as_text (field_at (codes "item") item (codes "place_result") dump)

-- the number that a value writes
abbrev pub if_read : Result Fraction NumeralFault → Option Fraction
if_read (Ok number) = Some number
if_read (Err fault) = None

abbrev pub number_in : Kept → Option Fraction
number_in value = option_and_then (λ digits. if_read (numeral_reading digits)) (as_number value)

-- the speed of a belt, in tiles a tick
abbrev pub speed_of : Kept → List ℕ → Option Fraction
speed_of dump belt = option_and_then number_in (field_at (codes "transport-belt") belt (codes "speed") dump)

-- the speed of the belt that an item places
abbrev pub speed_in : List ℕ → Kept → Option Fraction
speed_in item dump = option_and_then (speed_of dump) (placed item dump)

-- a belt of a speed carries so many items a second
abbrev pub Carries : Option Fraction → Fraction → Type 0
Carries None rate = ⊥
Carries (Some speed) rate = rate ≡ speed *ʳ whole_fraction (pos 480)

-- by a dump, the belt that an item places carries so many items a second
pub record IsBeltRate (dump item : List ℕ) (rate : Fraction) : Type 0 where
  pub tree : Kept
  pub accepted : IsAccepted belt_wishes dump tree
  pub carries : Carries (speed_in item tree) rate
