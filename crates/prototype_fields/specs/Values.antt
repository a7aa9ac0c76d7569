-- How each kind of field is read: its value, or what is wrong with it. A field that is absent or null has its default,
-- or is missing where it is required. Kinds, defaults and ranges are those of the prototype documentation of Factorio 1.1
-- in the profile of docs/DUMP.md. A number whose spelling is no numeral, and a text that is no UTF-8, are of another
-- kind; they do not stand in the tree of an accepted text.
use Rattle.std.specs.Prelude.{◌≡◌, ◌≢◌, ℕ, ℤ, pos, ◌||◌, Bool, if◌then◌else◌, List, [], ◌∷◌, ◌++◌, Option, None, Some, option_and_then, is_some, unwrap_or, length, nat_le, nat_lt, Result, Ok, Err}
use Rattle.std.specs.Option.{option_to_list}
pub use Rattle.plan_base.specs.Binds.{◌▸◌}
use Rattle.json_text.specs.Kept.{Kept}
use Rattle.name_table.specs.Names.{place_of, with_name}
use Rattle.fractions.specs.Fraction.{Fraction}
use Rattle.fractions.specs.declared.numeral.NumeralFault.{NumeralFault}
use Rattle.fractions.specs.declared.numeral.NumeralFault.TheVariants as numeral_fault
use Rattle.energy_units.specs.declared.EnergyFault.{EnergyFault}
use Rattle.energy_units.specs.declared.Measure.{Measure}
use Rattle.energy_units.specs.declared.Measure.TheVariants.{Joules, Watts}
use Rattle.prototype_fields.specs.declared.names.Key.{Key}
use Rattle.prototype_fields.specs.declared.names.Within.{Within}
use Rattle.prototype_fields.specs.declared.fault.FieldCode.{FieldCode}
use Rattle.prototype_fields.specs.declared.fault.FieldCode.TheVariants.{Missing, WrongKind, Number, Energy, Limit, NoMemory}
use Rattle.prototype_fields.specs.declared.fault.FieldFault.{FieldFault}
use Rattle.prototype_fields.specs.Objects.{Object, Member, as_object, as_list, as_text, as_bytes, as_flag, as_number, field}
use Rattle.fractions.specs.Signs.{is_positive}
use Rattle.prototype_fields.specs.Numbers.{hundredths, numeral_reading, energy_reading, is_amount, small_whole}

-- ---- what reading gives
-- a value, or a fault
abbrev pub Reading : Type 0 → Type 0
Reading A = Result A FieldFault

-- what a call answers that lends its value
abbrev pub seen_as : {A B E : Type 0} → (A → B) → Result A E → Result B E
seen_as view (Ok value) = Ok (view value)
seen_as view (Err fault) = Err fault

-- what a call answers that takes memory: what is meant, unless memory could not be had
abbrev pub Gives : {A : Type 0} → Reading A → Reading A → Type 0
Gives meant (Ok value) = meant ≡ Ok value
Gives meant (Err fault) = fault.code ≢ NoMemory → meant ≡ Err fault

-- ---- faults
abbrev pub fault_at : FieldCode → Object → Key → FieldFault
fault_at code object key = record { code = code; within = object.within; key = Some key }

abbrev pub element_fault : FieldCode → Within → FieldFault
element_fault code within = record { code = code; within = within; key = None }

-- a fault of a field, and of an object or an element of a list
abbrev pub wrong : {A : Type 0} → FieldCode → Object → Key → Reading A
wrong code object key = Err (fault_at code object key)

abbrev pub wrong_element : {A : Type 0} → FieldCode → Within → Reading A
wrong_element code within = Err (element_fault code within)

abbrev pub or_wrong : {A : Type 0} → FieldCode → Object → Key → Option A → Reading A
or_wrong code object key None = wrong code object key
or_wrong code object key (Some value) = Ok value

-- ---- what a value must be
abbrev pub of_kind : {A : Type 0} → Object → Key → Option A → Reading A
of_kind object key found = or_wrong WrongKind object key found

abbrev pub in_range : {A : Type 0} → Object → Key → (A → Bool) → A → Reading A
in_range object key fits value = if fits value then Ok value else wrong Limit object key

unfoldable pub text_in : Object → Key → Kept → Reading (List ℕ)
text_in object key value = of_kind object key (as_text value)

abbrev pub numeral_code : NumeralFault → FieldCode
numeral_code numeral_fault.NotNumeral = WrongKind
numeral_code numeral_fault.TooLarge = Number

abbrev pub numeral_in : Object → Key → Result Fraction NumeralFault → Reading Fraction
numeral_in object key (Ok value) = Ok value
numeral_in object key (Err fault) = wrong (numeral_code fault) object key

unfoldable pub number_in : Object → Key → Kept → Reading Fraction
number_in object key value = of_kind object key (as_number value) ▸ λ digits. numeral_in object key (numeral_reading digits)

abbrev pub measured : Object → Key → Result Fraction EnergyFault → Reading Fraction
measured object key (Ok value) = Ok value
measured object key (Err fault) = wrong Energy object key

unfoldable pub energy_in : Measure → Object → Key → Kept → Reading Fraction
energy_in measure object key value = of_kind object key (as_bytes value) ▸ λ text. measured object key (energy_reading measure text)

unfoldable pub object_in : Within → Object → Key → Kept → Reading Object
object_in within object key value = of_kind object key (as_object value) ▸ λ members. Ok (record { within = within; members = members })

-- a prototype, or an element of a list, that is an object
abbrev pub with_members : Within → Option (List Member) → Reading Object
with_members within None = wrong_element WrongKind within
with_members within (Some members) = Ok (record { within = within; members = members })

unfoldable pub object_element : Within → Kept → Reading Object
object_element within value = with_members within (as_object value)

-- ---- fields
-- a field that may be absent
abbrev pub optional : {A : Type 0} → (Kept → Reading A) → Option Kept → Reading (Option A)
optional read None = Ok None
optional read (Some value) = read value ▸ λ found. Ok (Some found)

-- a field that may not be absent
abbrev pub required : {A : Type 0} → Object → Key → Option A → Reading A
required object key found = or_wrong Missing object key found

-- a field with a default
abbrev pub or_default : {A : Type 0} → A → Option A → Reading A
or_default default found = Ok (unwrap_or found default)

-- texts; a name that is empty counts as absent
unfoldable pub text : Object → Key → Reading (Option (List ℕ))
text object key = optional (text_in object key) (field object key)

abbrev pub unless_empty : List ℕ → Option (List ℕ)
unless_empty [] = None
unless_empty (byte ∷ bytes) = Some (byte ∷ bytes)

unfoldable pub name : Object → Key → Reading (Option (List ℕ))
name object key = text object key ▸ λ found. Ok (option_and_then unless_empty found)

unfoldable pub required_name : Object → Key → Reading (List ℕ)
required_name object key = name object key ▸ required object key

unfoldable pub name_or : Object → Key → List ℕ → Reading (List ℕ)
name_or object key default = name object key ▸ or_default default

-- truth values
unfoldable pub flag_or : Object → Key → Bool → Reading Bool
flag_or object key default = optional (λ value. of_kind object key (as_flag value)) (field object key) ▸ or_default default

-- numbers of any sign
unfoldable pub number : Object → Key → Reading (Option Fraction)
number object key = optional (number_in object key) (field object key)

unfoldable pub number_or : Object → Key → Fraction → Reading Fraction
number_or object key default = number object key ▸ or_default default

-- numbers of at least 0
abbrev pub amount_in : Object → Key → Kept → Reading Fraction
amount_in object key value = number_in object key value ▸ in_range object key is_amount

unfoldable pub amount : Object → Key → Reading (Option Fraction)
amount object key = optional (amount_in object key) (field object key)

unfoldable pub required_amount : Object → Key → Reading Fraction
required_amount object key = amount object key ▸ required object key

unfoldable pub amount_or : Object → Key → Fraction → Reading Fraction
amount_or object key default = amount object key ▸ or_default default

-- numbers above 0
abbrev pub positive_in : Object → Key → Kept → Reading Fraction
positive_in object key value = number_in object key value ▸ in_range object key is_positive

unfoldable pub positive : Object → Key → Reading (Option Fraction)
positive object key = optional (positive_in object key) (field object key)

unfoldable pub required_positive : Object → Key → Reading Fraction
required_positive object key = positive object key ▸ required object key

unfoldable pub positive_or : Object → Key → Fraction → Reading Fraction
positive_or object key default = positive object key ▸ or_default default

-- whole numbers of at most 65,535
unfoldable pub whole_or : Object → Key → ℕ → Reading ℕ
whole_or object key default = optional (λ value. number_in object key value ▸ λ found. or_wrong Limit object key (small_whole found)) (field object key) ▸ or_default default

-- numbers of any sign, of magnitude at most 1,000,000, in hundredths
unfoldable pub hundredths_or_zero : Object → Key → Reading ℤ
hundredths_or_zero object key = optional (λ value. number_in object key value ▸ λ found. or_wrong Limit object key (hundredths found)) (field object key) ▸ or_default (pos 0)

-- energies in joules, and powers in watts
unfoldable pub energy_or : Object → Key → Fraction → Reading Fraction
energy_or object key default = optional (energy_in Joules object key) (field object key) ▸ or_default default

unfoldable pub power : Object → Key → Reading (Option Fraction)
power object key = optional (energy_in Watts object key) (field object key)

unfoldable pub required_power : Object → Key → Reading Fraction
required_power object key = power object key ▸ required object key

-- objects, with the path that they have
unfoldable pub object_at : Object → Key → Within → Reading (Option Object)
object_at object key within = optional (object_in within object key) (field object key)

unfoldable pub required_object : Object → Key → Within → Reading Object
required_object object key within = object_at object key within ▸ required object key

unfoldable pub object_or_empty : Object → Key → Within → Reading Object
object_or_empty object key within = object_at object key within ▸ or_default (record { within = within; members = [] })

-- lists, and lists of at most 1,024 elements
unfoldable pub list : Object → Key → Reading (Option (List Kept))
list object key = optional (λ value. of_kind object key (as_list value)) (field object key)

unfoldable pub required_list : Object → Key → Reading (List Kept)
required_list object key = list object key ▸ required object key

unfoldable pub list_or_empty : Object → Key → Reading (List Kept)
list_or_empty object key = list object key ▸ or_default []

abbrev pub is_short : List Kept → Bool
is_short elements = nat_le (length elements) 1024

abbrev pub optional_short : Object → Key → Option (List Kept) → Reading (Option (List Kept))
optional_short object key None = Ok None
optional_short object key (Some elements) = in_range object key is_short elements ▸ λ found. Ok (Some found)

unfoldable pub short_list : Object → Key → Reading (Option (List Kept))
short_list object key = list object key ▸ optional_short object key

unfoldable pub required_short_list : Object → Key → Reading (List Kept)
required_short_list object key = short_list object key ▸ required object key

unfoldable pub short_list_or_empty : Object → Key → Reading (List Kept)
short_list_or_empty object key = short_list object key ▸ or_default []

-- ---- elements
-- what each element gives
abbrev pub each : {A B : Type 0} → (A → Reading B) → List A → Reading (List B)
each read [] = Ok []
each read (value ∷ values) = read value ▸ λ first. each read values ▸ λ rest. Ok (first ∷ rest)

-- what those elements give that give something
abbrev pub each_found : {A B : Type 0} → (A → Reading (Option B)) → List A → Reading (List B)
each_found read [] = Ok []
each_found read (value ∷ values) = read value ▸ λ first. each_found read values ▸ λ rest. Ok (option_to_list first ++ rest)

-- a name, which may be empty; and the names among the elements of a list
unfoldable pub name_in : Object → Key → Kept → Reading (Option (List ℕ))
name_in object key value = text_in object key value ▸ λ found. Ok (unless_empty found)

unfoldable pub names_in : Object → Key → List Kept → Reading (List (List ℕ))
names_in object key elements = each_found (name_in object key) elements

-- ---- categories, whose numbers are their places among the names that were seen so far
abbrev pub Names : Type 0
Names = List (List ℕ)

-- the number of a category, and the names with it
unfoldable pub category : Object → Key → List ℕ → Names → Reading (ℕ × Names)
category object key name names =
    if is_some (place_of names name) || nat_lt (length names) 131072 then Ok (unwrap_or (place_of (with_name names name) name) 0, with_name names name)
    else wrong Limit object key

-- the value with the names that were seen up to it
abbrev pub with_names : {A : Type 0} → Names → Reading A → Reading (A × Names)
with_names names reading = reading ▸ λ value. Ok (value, names)

-- further names at the end
pub record Extends (old new : Names) : Type 0 where
  pub more : Names
  pub are : new ≡ old ++ more

-- where a name is given
abbrev pub optional_category : Object → Key → Option (List ℕ) → Names → Reading (Option ℕ × Names)
optional_category object key None names = Ok (None, names)
optional_category object key (Some name) names = category object key name names ▸ λ found. Ok (Some found.0, found.1)

-- what those elements give that give something, each read with the names that those before it left
abbrev pub each_with_names : {A B : Type 0} → (A → Names → Reading (Option B × Names)) → List A → Names → Reading (List B × Names)
each_with_names read [] names = Ok ([], names)
each_with_names read (value ∷ values) names = read value names ▸ λ first. each_with_names read values first.1 ▸ λ rest. Ok (option_to_list first.0 ++ rest.0, rest.1)

unfoldable pub category_in : Object → Key → Kept → Names → Reading (Option ℕ × Names)
category_in object key value names = name_in object key value ▸ λ found. optional_category object key found names

-- the categories that a list of texts names
unfoldable pub categories : Object → Key → List Kept → Names → Reading (List ℕ × Names)
categories object key elements = each_with_names (category_in object key) elements
