-- The number that a word writes, by the test of its digits.
use Rattle.std.proofs.Common.{◌≡◌, ◌<◌, ◌≤◌, ◌&&◌, ℕ, Bool, true, false, List, [], ◌∷◌, nat_le, nat_lt, refl, subst, arith}
use Rattle.std.specs.Prelude.{Option, Some, None, IfSome, cond}
use Rattle.std.specs.Char.{digit_value}
use Rattle.std.specs.Str.Parse.{AllDigits, digits_value}
use Rattle.std.proofs.lemmas.Bool.Decides.{nat_tests}
use Rattle.std.proofs.lemmas.Bool.{and_from, and_parts}
use Rattle.fractions.specs.Split.{is_whole}
use Rattle.fractions.proofs.Grammar.{whole_sound, whole_found}
use Rattle.script_reader.specs.Fields.{WritesCount}
use Rattle.run_inputs.specs.Words.{are_digits, number_in}

below : (a b : ℕ) → nat_lt a b ≡ true → a < b
below a b e = grind (arith, nat_tests, e)

is_below : (a b : ℕ) → a < b → nat_lt a b ≡ true
is_below a b e = grind (arith, nat_tests, e)

within : (a b : ℕ) → nat_le a b ≡ true → a ≤ b
within a b e = grind (arith, nat_tests, e)

is_within : (a b : ℕ) → a ≤ b → nat_le a b ≡ true
is_within a b e = grind (arith, nat_tests, e)

digits_all : (word : List ℕ) → are_digits word ≡ true → AllDigits 10 word
digits_all [] e = tt
digits_all (byte ∷ bytes) e =
    let p = and_parts (nat_lt (digit_value byte) 10) (are_digits bytes) e in
    (below (digit_value byte) 10 p.0, digits_all bytes p.1)

all_digits : (word : List ℕ) → AllDigits 10 word → are_digits word ≡ true
all_digits [] all = refl
all_digits (byte ∷ bytes) all = and_from (nat_lt (digit_value byte) 10) (are_digits bytes) (is_below (digit_value byte) 10 all.0) (all_digits bytes all.1)

abbrev is_number : ℕ → ℕ → List ℕ → Bool
is_number least most word = (are_digits word && is_whole word) && (nat_le least (digits_value 10 word) && nat_le (digits_value 10 word) most)

writes : (least most : ℕ) (word : List ℕ) → is_number least most word ≡ true → WritesCount least most word (digits_value 10 word)
writes least most word e =
    let p = and_parts (are_digits word && is_whole word) (nat_le least (digits_value 10 word) && nat_le (digits_value 10 word) most) e in
    let digits = and_parts (are_digits word) (is_whole word) p.0 in
    let bounds = and_parts (nat_le least (digits_value 10 word)) (nat_le (digits_value 10 word) most) p.1 in
    record {
      digits = whole_sound word (digits_all word digits.0) digits.1;
      value = refl;
      from = within least (digits_value 10 word) bounds.0;
      to = within (digits_value 10 word) most bounds.1;
    }

is_written : (least most : ℕ) (word : List ℕ) (count : ℕ) → WritesCount least most word count → is_number least most word ≡ true
is_written least most word count w =
    and_from (are_digits word && is_whole word) (nat_le least (digits_value 10 word) && nat_le (digits_value 10 word) most)
    (and_from (are_digits word) (is_whole word) (all_digits word w.digits.digits) (whole_found word w.digits))
    (and_from (nat_le least (digits_value 10 word)) (nat_le (digits_value 10 word) most) (is_within least (digits_value 10 word) (subst (λ n. least ≤ n) w.value w.from))
    (is_within (digits_value 10 word) most (subst (λ n. n ≤ most) w.value w.to)))

by_test : (least most : ℕ) (word : List ℕ) (found : Option ℕ) (test : Bool) → is_number least most word ≡ test → IfSome found (WritesCount least most word)
    → ((count : ℕ) → WritesCount least most word count → found ≡ Some count) → found ≡ cond test (Some (digits_value 10 word)) None
by_test least most word found true is holds every = every (digits_value 10 word) (writes least most word is)
by_test least most word None false is holds every = refl
by_test least most word (Some count) false is holds every =
    let also : is_number least most word ≡ true = is_written least most word count holds in
    let never : ⊥ = cc (is, also) in absurd never

-- what is found where the word writes such a number, and only there
pub number_found : (least most : ℕ) (word : List ℕ) (found : Option ℕ) → IfSome found (WritesCount least most word) → ((count : ℕ) → WritesCount least most word count → found ≡ Some count)
    → found ≡ number_in least most word
number_found least most word found = by_test least most word found (is_number least most word) refl
