-- No line end stands in the text of a plain value.
use Rattle.std.proofs.Common.{◌≡◌, ◌∙◌, ◌<◌, ◌≤◌, ℕ, zero, suc, Bool, true, false, List, [], ◌∷◌, ◌++◌, ◌⊎◌, inl, inr, refl, ap, subst, arith, ne_eqb, decimal}
use Rattle.std.specs.Prelude.{◌&&◌, not}
use Rattle.std.specs.Char.{digit_value}
use Rattle.std.specs.Str.Parse.{AllDigits}
use Rattle.std.proofs.lemmas.Bool.{and_from, and_parts, cases_eq, cases_lt}
use Rattle.std.proofs.lemmas.Fmt.{decimal_is_IsNumeral}
use Rattle.std.proofs.lemmas.List.Folds.{list_all-append}
use Rattle.json.specs.Print.{escape, escape_byte, quoted}
use Rattle.json.proofs.Printed.Strings.{escape_byte_plain}
use Rattle.serde_json.specs.Data.{Num, unsigned, negative, float, Data, null, boolean, number, string, array, object, Items, no_items, item, Members, no_members, member}
use Rattle.serde_json.specs.Written.{comma_if, compact_text, items_text, members_text}
use Rattle.catalog_laws.specs.Value.{is_inner, is_one_line}
use Rattle.catalog_laws.proofs.Numbers.{AreSmall, HasSmall, IsSmall}
use Rattle.catalog_laws.proofs.Plain.{ArePlain, HasPlain, IsPlain}

joined_inner : (xs ys : List ℕ) → is_one_line xs ≡ true → is_one_line ys ≡ true → is_one_line (xs ++ ys) ≡ true
joined_inner xs ys h k = list_all-append is_inner xs ys ∙ and_from (is_one_line xs) (is_one_line ys) h k

not_end : (x : ℕ) → (x ≡ 10 → ⊥) → is_inner x ≡ true
not_end x other = ap not (ne_eqb x 10 other)

-- ---- texts
-- the bytes below a number are written with no line end
abbrev all_below : ℕ → Bool
all_below zero = true
all_below (suc n) = is_one_line (escape_byte n) && all_below n

at_or_below : (n x : ℕ) → all_below (suc n) ≡ true → (x < n → is_one_line (escape_byte x) ≡ true) → (x ≡ n) ⊎ (x ≡ n → ⊥) → x < suc n → is_one_line (escape_byte x) ≡ true
at_or_below n x h lower (inl same) below = ap (λ (y : ℕ). is_one_line (escape_byte y)) same ∙ (and_parts (is_one_line (escape_byte n)) (all_below n) h).0
at_or_below n x h lower (inr other) below = lower (omega (arith, below, other))

one_below : (n x : ℕ) → all_below n ≡ true → x < n → is_one_line (escape_byte x) ≡ true
one_below zero x h below = absurd (omega (arith, below))
one_below (suc n) x h below = at_or_below n x h (λ less. one_below n x (and_parts (is_one_line (escape_byte n)) (all_below n) h).1 less) (cases_eq x n) below

controls_inner : all_below 32 ≡ true
unfolding escape_byte
controls_inner = refl

quote_inner : is_one_line (escape_byte 34) ≡ true
unfolding escape_byte
quote_inner = refl

backslash_inner : is_one_line (escape_byte 92) ≡ true
unfolding escape_byte
backslash_inner = refl

byte_by : (x : ℕ) → (x ≡ 34) ⊎ (x ≡ 34 → ⊥) → (x ≡ 92) ⊎ (x ≡ 92 → ⊥) → (x < 32) ⊎ (32 ≤ x) → is_one_line (escape_byte x) ≡ true
byte_by x (inl same) b c = ap (λ (y : ℕ). is_one_line (escape_byte y)) same ∙ quote_inner
byte_by x (inr q) (inl same) c = ap (λ (y : ℕ). is_one_line (escape_byte y)) same ∙ backslash_inner
byte_by x (inr q) (inr b) (inl low) = one_below 32 x controls_inner low
byte_by x (inr q) (inr b) (inr high) = ap is_one_line (escape_byte_plain x q b high) ∙ and_from (is_inner x) true (not_end x (λ e. omega (arith, e, high))) refl

byte_inner : (x : ℕ) → is_one_line (escape_byte x) ≡ true
byte_inner x = byte_by x (cases_eq x 34) (cases_eq x 92) (cases_lt x 32)

escape_inner : (s : List ℕ) → is_one_line (escape s) ≡ true
escape_inner [] = refl
escape_inner (x ∷ xs) = joined_inner (escape_byte x) (escape xs) (byte_inner x) (escape_inner xs)

quoted_inner : (s : List ℕ) → is_one_line (quoted s) ≡ true
quoted_inner s = joined_inner (escape s) (34 ∷ []) (escape_inner s) refl

-- ---- numbers
digit_inner : (c : ℕ) → digit_value c < 10 → c ≡ 10 → ⊥
digit_inner c digit same = let stray : digit_value 10 < 10 = subst (λ (y : ℕ). digit_value y < 10) same digit in omega (arith, stray)

digits_inner : (ds : List ℕ) → AllDigits 10 ds → is_one_line ds ≡ true
digits_inner [] h = refl
digits_inner (c ∷ cs) h = and_from (is_inner c) (is_one_line cs) (not_end c (digit_inner c h.0)) (digits_inner cs h.1)

number_inner : (n : Num) → IsPlain (number n) → IsSmall (number n) → is_one_line (compact_text (number n)) ≡ true
number_inner (unsigned n) plain small = digits_inner (decimal n) (decimal_is_IsNumeral n small).0.1
number_inner (negative z) plain small = absurd plain
number_inner (float x) plain small = absurd plain

-- ---- values
comma_inner : (later : Bool) → is_one_line (comma_if later) ≡ true
comma_inner true = refl
comma_inner false = refl

mutual
  pub value_inner : (d : Data) → IsPlain d → IsSmall d → is_one_line (compact_text d) ≡ true
  value_inner null plain small = refl
  value_inner (boolean true) plain small = refl
  value_inner (boolean false) plain small = refl
  value_inner (number n) plain small = number_inner n plain small
  value_inner (string s) plain small = quoted_inner s
  value_inner (array ds) plain small = items_inner false ds plain small
  value_inner (object ms) plain small = members_inner false ms plain small

  items_inner : (later : Bool) (ds : Items) → ArePlain ds → AreSmall ds → is_one_line (items_text later ds) ≡ true
  items_inner later no_items plain small = refl
  items_inner later (item d ds) plain small =
      joined_inner (comma_if later) (compact_text d ++ items_text true ds) (comma_inner later)
      (joined_inner (compact_text d) (items_text true ds) (value_inner d plain.0 small.0) (items_inner true ds plain.1 small.1))

  members_inner : (later : Bool) (ms : Members) → HasPlain ms → HasSmall ms → is_one_line (members_text later ms) ≡ true
  members_inner later no_members plain small = refl
  members_inner later (member k d ms) plain small =
      joined_inner (comma_if later) (quoted k ++ 58 ∷ (compact_text d ++ members_text true ms)) (comma_inner later)
      (joined_inner (quoted k) (58 ∷ (compact_text d ++ members_text true ms)) (quoted_inner k)
      (joined_inner (compact_text d) (members_text true ms) (value_inner d plain.0 small.0) (members_inner true ms plain.1 small.1)))
