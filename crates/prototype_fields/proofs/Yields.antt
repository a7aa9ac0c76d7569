-- What holds of the value that reading gives, if it gives one: a number that has a range is within it.
use Rattle.std.specs.Prelude.{◌≡◌, ℕ, ◌≤◌, Bool, true, false, ℤ, pos, negsuc, ◌<ℤ◌, Option, None, Some, IfSome, IfOk, Result, Ok, Err, is_some, unwrap_or, if◌then◌else◌, ◌==◌, nat_le}
use Rattle.std.specs.Int.RustNames.{int_lt}
use Rattle.std.proofs.Common.{refl, arith}
use Rattle.std.proofs.lemmas.Bool.Decides.{nat_tests}
use Rattle.std.proofs.lemmas.Int.{ints}
use Rattle.json_text.specs.Kept.{Kept}
use Rattle.fractions.specs.Fraction.{Fraction, ◌<ʳ◌, zero_fraction}
use Rattle.prototype_fields.specs.declared.names.Key.{Key}
use Rattle.prototype_fields.specs.declared.names.Within.{Within}
use Rattle.prototype_fields.specs.declared.fault.FieldCode.{FieldCode}
use Rattle.prototype_fields.specs.declared.fault.FieldCode.TheVariants.{Missing, Limit}
use Rattle.prototype_fields.specs.Objects.{Object, field}
use Rattle.fractions.specs.Signs.{is_positive}
use Rattle.fractions.proofs.SignLemmas.{positive_is}
use Rattle.prototype_fields.specs.Numbers.{up_to_65535, small_whole}
use Rattle.prototype_fields.specs.Values.{Reading, ◌▸◌, Names, with_names, wrong, in_range, or_wrong, optional, required, or_default, number_in, positive_in, positive, required_positive, positive_or, whole_or, object_in, object_at}

pub record Yields {A E : Type 0} (r : Result A E) (P : A → Type 0) : Type 0 where
  pub holds : IfOk r P

-- ---- one reading behind another
pub and_then : {A B : Type 0} {P : A → Type 0} {Q : B → Type 0} {r : Reading A} {next : A → Reading B} → Yields r P → ((value : A) → P value → Yields (next value) Q) → Yields (r ▸ next) Q
and_then {r = Ok value} h more = more value h.holds
and_then {r = Err fault} h more = record { holds = tt }

-- where nothing need be known of the first
pub whatever : {A B : Type 0} {Q : B → Type 0} {next : A → Reading B} (r : Reading A) → ((value : A) → Yields (next value) Q) → Yields (r ▸ next) Q
whatever (Ok value) more = more value
whatever (Err fault) more = record { holds = tt }

-- where less is asked
pub weaker : {A E : Type 0} {P Q : A → Type 0} {r : Result A E} → Yields r P → ((value : A) → P value → Q value) → Yields r Q
weaker {r = Ok value} h less = record { holds = less value h.holds }
weaker {r = Err fault} h less = record { holds = tt }

pub with_names_yields : {A : Type 0} {P : A → Type 0} {r : Reading A} (names : Names) → Yields r P → Yields (with_names names r) (λ found. P found.0)
with_names_yields names h = and_then h λ value it. record { holds = it }

-- ---- tests
pub in_range_yields : {A : Type 0} {P : A → Type 0} (object : Object) (key : Key) (fits : A → Bool) (value : A) → (fits value ≡ true → P value) → Yields (in_range object key fits value) P
in_range_yields {P = P} object key fits value h = by_test (fits value) h
  where
    by_test : (test : Bool) → (test ≡ true → P value) → Yields (if test then Ok value else wrong Limit object key) P
    by_test true h = record { holds = h refl }
    by_test false h = record { holds = tt }

pub or_wrong_yields : {A : Type 0} {P : A → Type 0} (code : FieldCode) (object : Object) (key : Key) (found : Option A) → IfSome found P → Yields (or_wrong code object key found) P
or_wrong_yields code object key (Some value) h = record { holds = h }
or_wrong_yields code object key None h = record { holds = tt }

-- ---- fields that may be absent
pub optional_yields : {A : Type 0} {P : A → Type 0} (read : Kept → Reading A) (found : Option Kept) → ((value : Kept) → Yields (read value) P) → Yields (optional read found) (λ value. IfSome value P)
optional_yields read None h = record { holds = tt }
optional_yields read (Some value) h = and_then (h value) λ found it. record { holds = it }

pub required_yields : {A : Type 0} {P : A → Type 0} {r : Reading (Option A)} (object : Object) (key : Key) → Yields r (λ value. IfSome value P) → Yields (r ▸ required object key) P
required_yields object key h = and_then h λ found it. or_wrong_yields Missing object key found it

default_holds : {A : Type 0} (P : A → Type 0) (default : A) (found : Option A) → P default → IfSome found P → P (unwrap_or found default)
default_holds P default None d h = d
default_holds P default (Some value) d h = h

pub or_default_yields : {A : Type 0} {P : A → Type 0} {r : Reading (Option A)} (default : A) → P default → Yields r (λ value. IfSome value P) → Yields (r ▸ or_default default) P
or_default_yields {P = P} default d h = and_then h λ found it. record { holds = default_holds P default found d it }

-- something is given exactly where something is there
pub optional_there : {A : Type 0} (read : Kept → Reading A) (found : Option Kept) → Yields (optional read found) (λ value. is_some value ≡ is_some found)
optional_there read None = record { holds = refl }
optional_there read (Some value) = whatever (read value) λ found. record { holds = refl }

pub object_there : (object : Object) (key : Key) (within : Within) → Yields (object_at object key within) (λ found. is_some found ≡ is_some (field object key))
unfolding object_at
object_there object key within = optional_there (object_in within object key) (field object key)

-- ---- numbers above 0
positive_in_yields : (object : Object) (key : Key) (value : Kept) → Yields (positive_in object key value) (λ x. zero_fraction <ʳ x)
positive_in_yields object key value = whatever (number_in object key value) λ x. in_range_yields object key is_positive x (positive_is x)

pub positive_yields : (object : Object) (key : Key) → Yields (positive object key) (λ found. IfSome found (λ x. zero_fraction <ʳ x))
unfolding positive
positive_yields object key = optional_yields (positive_in object key) (field object key) (positive_in_yields object key)

pub required_positive_yields : (object : Object) (key : Key) → Yields (required_positive object key) (λ x. zero_fraction <ʳ x)
unfolding required_positive
required_positive_yields object key = required_yields object key (positive_yields object key)

pub positive_or_yields : (object : Object) (key : Key) (default : Fraction) → zero_fraction <ʳ default → Yields (positive_or object key default) (λ x. zero_fraction <ʳ x)
unfolding positive_or
positive_or_yields object key default d = or_default_yields default d (positive_yields object key)

-- ---- whole numbers of at most 65,535
short_whole : (n : ℤ) → IfSome (up_to_65535 n) (λ k. k ≤ 65535)
short_whole (negsuc n) = tt
short_whole (pos n) = by_test (nat_le n 65535) (λ h. means n h)
  where
    means : (k : ℕ) → nat_le k 65535 ≡ true → k ≤ 65535
    means k h = grind (arith, nat_tests)

    by_test : (test : Bool) → (test ≡ true → n ≤ 65535) → IfSome (if test then Some n else None) (λ k. k ≤ 65535)
    by_test true h = h refl
    by_test false h = tt

small_whole_holds : (x : Fraction) → IfSome (small_whole x) (λ k. k ≤ 65535)
small_whole_holds x = by_test (x.den == 1) (up_to_65535 x.num) (short_whole x.num)
  where
    by_test : (test : Bool) (found : Option ℕ) → IfSome found (λ k. k ≤ 65535) → IfSome (if test then found else None) (λ k. k ≤ 65535)
    by_test true found h = h
    by_test false found h = tt

pub whole_or_yields : (object : Object) (key : Key) (default : ℕ) → default ≤ 65535 → Yields (whole_or object key default) (λ k. k ≤ 65535)
unfolding whole_or
whole_or_yields object key default d =
    or_default_yields default d (optional_yields _ (field object key) λ value. whatever (number_in object key value) λ x. or_wrong_yields Limit object key (small_whole x) (small_whole_holds x))
