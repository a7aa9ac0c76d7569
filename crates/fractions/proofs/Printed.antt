-- The text of a fraction, read back.
use Rattle.std.specs.Prelude.{◌≡◌, ◌≢◌, ℕ, zero, suc, ◌+◌, ◌*◌, ◌/◌, ◌%◌, ◌<◌, ◌≤◌, ◌^◌, ℤ, pos, negsuc, neg_ℤ, Bool, true, false, cond, if◌then◌else◌, ◌==◌, List, [], ◌∷◌, ◌++◌, length, Option, Some, None, IfSome, ◌⊎◌}
use Rattle.std.specs.Option.{SomeIff}
use Rattle.std.specs.Char.{digit_value}
use Rattle.std.specs.Fmt.{decimal, signed_decimal}
use Rattle.std.specs.Str.Parse.{AllDigits, digits_value, digits_value_after}
use Rattle.std.proofs.Common.{refl, sym, ap, subst, ◌∙◌, arith, inl, inr, ⊎_elim, get_or, length-append, eqb-true, append-nil}
use Rattle.std.proofs.Math.ListN.{get_or-append}
use Rattle.std.proofs.Math.IntN.{nat_abs}
use Rattle.std.proofs.lemmas.Fmt.{decimal_is_IsNumeral_wide, decimal_by_steps_wide, decimal_step_wide, decimal_digit}
use Rattle.std.proofs.lemmas.Str.{digit_value_digit}
use Rattle.std.proofs.lemmas.Str.Parse.{digit_from_value}
use Rattle.fractions.specs.Gcd.{gcd, gcd_comm, gcd-zero}
use Rattle.fractions.specs.Fraction.{Fraction, frac}
use Rattle.fractions.specs.Fracs.{frac_same, negated-frac}
use Rattle.fractions.specs.Limits.{IsNarrow}
use Rattle.fractions.specs.Numeral.{Numeral, IsWholePart, sign_text, part_text, signed, Writes, IsPowerText}
use Rattle.fractions.specs.Quotient.{Quotient, WritesQuotient, quotient_value}
use Rattle.fractions.specs.Plain.{IsPlainQuotient, IsPlainWhole}
use Rattle.fractions.specs.Print.{printed}
use Rattle.fractions.specs.Split.{numeral_of, quotient_of}
use Rattle.fractions.specs.Stored.{num_frac, den_frac}
pub use Rattle.fractions.proofs.Ceiling.{gcd-one}
use Rattle.fractions.proofs.Grammar.{numeral_sound, numeral_found, quotient_sound, quotient_found}
use Rattle.fractions.proofs.ReadsAs.{no_quotient, not_both, no_numeral}

-- ---- the decimal of a number is a whole part, and the only one of its value
lead : (n : ℕ) → n < 10 ^ 64 → (0 < length (decimal n)) × (get_or (decimal n) 0 0 ≡ 48 → length (decimal n) ≡ 1)
lead n h =
    let r : (0 < length (decimal n)) × ((0 < n → 48 < get_or (decimal n) 0 0) × (n < 10 → length (decimal n) ≡ 1)) =
    decimal_by_steps_wide (λ m ds. (0 < length ds) × ((0 < m → 48 < get_or ds 0 0) × (m < 10 → length ds ≡ 1)))
    (λ m l. (omega arith, (λ a. omega arith, λ b. refl)))
    (λ m ds l k. (omega (arith, length-append ds ((48 + m % 10) ∷ [])), (λ a. omega (arith, get_or-append ds ((48 + m % 10) ∷ []) 0 0 k.0, k.1.0 (omega arith)), λ b. absurd (omega arith))))
    n h in (
      r.0,
      λ z. first n r.1.0 r.1.1 z,
    )
  where
    first : (m : ℕ) → (0 < m → 48 < get_or (decimal n) 0 0) → (m < 10 → length (decimal n) ≡ 1) → get_or (decimal n) 0 0 ≡ 48 → length (decimal n) ≡ 1
    first zero p q z = q (omega arith)
    first (suc m) p q z = absurd (omega (arith, p (omega arith), z))

pub decimal_whole : (n : ℕ) → n < 10 ^ 64 → IsWholePart (decimal n)
decimal_whole n h = record { digits = (decimal_is_IsNumeral_wide n h).0.1; some = (lead n h).0; no_leading_zero = (lead n h).1 }

le_value_after : (n : ℕ) (ds : List ℕ) → n ≤ digits_value_after 10 n ds
le_value_after n [] = omega arith
le_value_after n (c ∷ cs) = omega (arith, le_value_after (n * 10 + digit_value c) cs)

append_one : (xs : List ℕ) (c : ℕ) (ys : List ℕ) → (xs ++ (c ∷ [])) ++ ys ≡ xs ++ (c ∷ ys)
append_one [] c ys = refl
append_one (x ∷ xs) c ys = ap (λ zs. x ∷ zs) (append_one xs c ys)

both : {A B C : Type 0} (f : A → B → C) {a b : A} {c d : B} → a ≡ b → c ≡ d → f a c ≡ f b d
both f {b = b} {c = c} p q = ap (λ x. f x c) p ∙ ap (f b) q

value_after : (n : ℕ) (ds : List ℕ) → 0 < n → AllDigits 10 ds → digits_value_after 10 n ds < 10 ^ 64 → decimal (digits_value_after 10 n ds) ≡ decimal n ++ ds
value_after n [] some d small = sym (append-nil (decimal n))
value_after n (c ∷ cs) some d small =
    let m : ℕ = n * 10 + digit_value c in
    let k : digit_value c + 48 ≡ c = digit_value_digit c (digit_from_value c d.0) in
    let front : m / 10 ≡ n = omega (arith, d.0) in
    let end : 48 + m % 10 ≡ c = omega (arith, d.0, k, digit_from_value c d.0) in
    value_after m cs (omega arith) d.1 small
    ∙ (ap (λ x. x ++ cs) (decimal_step_wide m (omega arith) (omega (arith, le_value_after m cs, small)) ∙ both (λ p q. decimal p ++ (q ∷ [])) front end)
    ∙ append_one (decimal n) c cs)

pub decimal_of_value : (ds : List ℕ) → IsWholePart ds → digits_value 10 ds < 10 ^ 64 → decimal (digits_value 10 ds) ≡ ds
decimal_of_value [] w small = absurd (omega (arith, w.some))
decimal_of_value (c ∷ []) w small =
    let k : digit_value c + 48 ≡ c = digit_value_digit c (digit_from_value c w.digits.0) in
    let is : 48 + (0 * 10 + digit_value c) ≡ c = omega (arith, k, digit_from_value c w.digits.0) in
    decimal_digit (0 * 10 + digit_value c) (omega (arith, w.digits.0)) ∙ ap (λ x. x ∷ []) is
decimal_of_value (c ∷ e ∷ cs) w small =
    let k : digit_value c + 48 ≡ c = digit_value_digit c (digit_from_value c w.digits.0) in
    let no : c ≢ 48 = λ z. omega (arith, w.no_leading_zero z) in
    let is : 48 + (0 * 10 + digit_value c) ≡ c = omega (arith, k, digit_from_value c w.digits.0) in
    value_after (0 * 10 + digit_value c) (e ∷ cs) (omega (arith, k, digit_from_value c w.digits.0, no)) w.digits.1 small
    ∙ ap (λ x. x ++ (e ∷ cs)) (decimal_digit (0 * 10 + digit_value c) (omega (arith, w.digits.0)) ∙ ap (λ x. x ∷ []) is)

value_of_decimal : (n : ℕ) → n < 10 ^ 64 → digits_value 10 (decimal n) ≡ n
value_of_decimal n h = (decimal_is_IsNumeral_wide n h).1

-- ---- a sign and a magnitude
abbrev sgn : Bool → ℕ → ℤ
sgn true n = neg_ℤ (pos n)
sgn false n = pos n

sgn_abs : (b : Bool) (n : ℕ) → nat_abs (sgn b n) ≡ n
sgn_abs true zero = refl
sgn_abs true (suc n) = refl
sgn_abs false n = refl

sgn_text : (b : Bool) (n : ℕ) → (b ≡ true → 0 < n) → signed_decimal (sgn b n) ≡ sign_text b ++ decimal n
sgn_text true zero h = absurd (omega (arith, h refl))
sgn_text true (suc n) h = refl
sgn_text false n h = refl

signed_is : (b : Bool) (n d : ℕ) → 0 < d → signed b (frac (pos n) d) ≡ frac (sgn b n) d
signed_is true n d p = negated-frac (pos n) d p
signed_is false n d p = refl

abbrev is_negative : ℤ → Bool
is_negative (pos n) = false
is_negative (negsuc n) = true

sgn_of : (z : ℤ) → sgn (is_negative z) (nat_abs z) ≡ z
sgn_of (pos n) = refl
sgn_of (negsuc n) = refl

sign_some : (z : ℤ) → is_negative z ≡ true → 0 < nat_abs z
sign_some (pos n) e = absurd (let k : false ≡ true = e in cc)
sign_some (negsuc n) e = omega arith

text_of : (z : ℤ) → signed_decimal z ≡ sign_text (is_negative z) ++ decimal (nat_abs z)
text_of (pos n) = refl
text_of (negsuc n) = refl

-- ---- what is printed
den_text : ℕ → List ℕ → List ℕ
den_text d top = if d == 1 then top else (top ++ 47 ∷ decimal d)

printed_by : (x : Fraction) (z : ℤ) (d : ℕ) → x.num ≡ z → x.den ≡ d → printed x ≡ den_text d (signed_decimal z)
unfolding den_text
printed_by x z d en ed = rw (en, ed) refl

whole_text : (d : ℕ) (top : List ℕ) → d ≡ 1 → den_text d top ≡ top
unfolding den_text
whole_text d top e = rw e refl

not_one : (d : ℕ) (b : Bool) → (d == 1) ≡ b → d ≢ 1 → b ≡ false
not_one d true e h = absurd (h (eqb-true d 1 e))
not_one d false e h = refl

quotient_text : (d : ℕ) (top : List ℕ) → d ≢ 1 → den_text d top ≡ top ++ 47 ∷ decimal d
unfolding den_text
quotient_text d top h = ap (λ b. cond b top (top ++ 47 ∷ decimal d)) (not_one d (d == 1) refl h)

append_assoc : (xs ys zs : List ℕ) → (xs ++ ys) ++ zs ≡ xs ++ (ys ++ zs)
append_assoc [] ys zs = refl
append_assoc (x ∷ xs) ys zs = ap (λ t. x ∷ t) (append_assoc xs ys zs)

-- ---- from a fraction to what its text writes
quotient_for : Fraction → Quotient
quotient_for x = record { negative = is_negative x.num; top = decimal (nat_abs x.num); bottom = decimal x.den }

numeral_for : Fraction → Numeral
numeral_for x = record { negative = is_negative x.num; whole = decimal (nat_abs x.num); part = []; power_negative = false; power = [] }

wide : (n : ℕ) → n < 2 ^ 127 → n < 10 ^ 64
wide n h = omega arith

writes_quotient : (text : List ℕ) (x : Fraction) → IsNarrow x → x.den ≢ 1 → text ≡ printed x → WritesQuotient text (quotient_for x)
unfolding quotient_for
writes_quotient text x w h e =
    record {
      top_is = decimal_whole _ (wide _ w.narrow_num);
      bottom_is = decimal_whole _ (wide _ w.narrow_den);
      nonzero = omega (arith, value_of_decimal x.den (wide _ w.narrow_den), x.positive);
      text_is =
          e
          ∙ (printed_by x x.num x.den refl refl
          ∙ (quotient_text x.den (signed_decimal x.num) h
          ∙ (ap (λ t. t ++ 47 ∷ decimal x.den) (text_of x.num) ∙ append_assoc (sign_text (is_negative x.num)) (decimal (nat_abs x.num)) (47 ∷ decimal x.den))));
    }

writes_whole : (text : List ℕ) (x : Fraction) → IsNarrow x → x.den ≡ 1 → text ≡ printed x → Writes text (numeral_for x)
unfolding numeral_for
writes_whole text x w h e =
    record {
      power_text = [];
      whole_is = decimal_whole _ (wide _ w.narrow_num);
      part_is = tt;
      power_is = inl (refl, refl, refl);
      text_is =
          e
          ∙ (printed_by x x.num x.den refl refl
          ∙ (whole_text x.den (signed_decimal x.num) h
          ∙ (text_of x.num ∙ ap (λ t. sign_text (is_negative x.num) ++ t) (sym (append-nil (decimal (nat_abs x.num)))))));
    }

back_by : (x : Fraction) (n d : ℕ) → n ≡ nat_abs x.num → d ≡ x.den → signed (is_negative x.num) (frac (pos n) d) ≡ x
back_by x n d en ed =
    rw (en, ed) (signed_is (is_negative x.num) (nat_abs x.num) x.den x.positive ∙ (ap (λ z. frac z x.den) (sgn_of x.num) ∙ frac_same x))

quotient_back : (x : Fraction) → IsNarrow x → quotient_value (quotient_for x) ≡ x
unfolding quotient_for
quotient_back x w = back_by x _ _ (value_of_decimal _ (wide _ w.narrow_num)) (value_of_decimal _ (wide _ w.narrow_den))

abbrev pub whole_value : Numeral → Fraction
whole_value n = signed n.negative (frac (pos (digits_value 10 n.whole)) 1)

whole_back : (x : Fraction) → IsNarrow x → x.den ≡ 1 → whole_value (numeral_for x) ≡ x
unfolding numeral_for
whole_back x w h = back_by x _ _ (value_of_decimal _ (wide _ w.narrow_num)) (sym h)

plain_quotient_for : (x : Fraction) → IsNarrow x → x.den ≢ 1 → IsPlainQuotient (quotient_for x)
unfolding quotient_for
plain_quotient_for x w h =
    let n : digits_value 10 (decimal (nat_abs x.num)) ≡ nat_abs x.num = value_of_decimal _ (wide _ w.narrow_num) in
    let d : digits_value 10 (decimal x.den) ≡ x.den = value_of_decimal _ (wide _ w.narrow_den) in
    record {
      top_narrow = subst (λ (k : ℕ). k < 2 ^ 127) (sym n) w.narrow_num;
      bottom_narrow = subst (λ (k : ℕ). k < 2 ^ 127) (sym d) w.narrow_den;
      not_whole = λ e. h (sym d ∙ e);
      lowest = both gcd n d ∙ x.lowest;
    }

plain_whole_for : (x : Fraction) → IsNarrow x → IsPlainWhole (numeral_for x)
unfolding numeral_for
plain_whole_for x w =
    let n : digits_value 10 (decimal (nat_abs x.num)) ≡ nat_abs x.num = value_of_decimal _ (wide _ w.narrow_num) in
    record {
      no_part = refl;
      no_power = refl;
      narrow = subst (λ (k : ℕ). k < 2 ^ 127) (sym n) w.narrow_num;
      not_minus_zero = λ e. subst (λ (k : ℕ). 0 < k) (sym n) (sign_some x.num e);
    }

one_or_not : (d : ℕ) (b : Bool) → (d == 1) ≡ b → (d ≡ 1) ⊎ (d ≢ 1)
one_or_not d true e = inl (eqb-true d 1 e)
one_or_not d false e = inr (λ h. let f : (d == 1) ≡ true = ap (λ k. k == 1) h in cc)

some_by : (r : Option Fraction) (P : Type 0) (v x : Fraction) → SomeIff r P v → P → v ≡ x → r ≡ Some x
some_by None P v x h p e = absurd (h p)
some_by (Some y) P v x h p e = ap Some (h.1 ∙ e)

-- ---- the two clauses of the reader
pub every_quotient : (text : List ℕ) (q : Quotient) (r : Option Fraction) → quotient_of text ≡ Some q → SomeIff r (IsPlainQuotient q) (quotient_value q) → (x : Fraction) → IsNarrow x → text ≡ printed x → r ≡ Some x
every_quotient text q r e h x w t =
    ⊎_elim
    (λ one. absurd (not_both text (numeral_for x) q (writes_whole text x w one t) (quotient_sound text q e)))
    (λ no.
    let same : quotient_for x ≡ q = same_quotient' text (quotient_for x) q e (writes_quotient text x w no t) in
    some_by r (IsPlainQuotient (quotient_for x)) (quotient_value (quotient_for x)) x (subst (λ (p : Quotient). SomeIff r (IsPlainQuotient p) (quotient_value p)) (sym same) h) (plain_quotient_for x w no) (quotient_back x w))
    (one_or_not x.den (x.den == 1) refl)
  where
    same_quotient' : (text : List ℕ) (p q : Quotient) → quotient_of text ≡ Some q → WritesQuotient text p → p ≡ q
    same_quotient' text p q e w = let f : quotient_of text ≡ Some p = quotient_found text p w in cc

pub every_whole : (text : List ℕ) (n : Numeral) (r : Option Fraction) → quotient_of text ≡ None → numeral_of text ≡ Some n → SomeIff r (IsPlainWhole n) (whole_value n) → (x : Fraction) → IsNarrow x → text ≡ printed x → r ≡ Some x
every_whole text n r q e h x w t =
    ⊎_elim
    (λ one.
    let same : numeral_for x ≡ n = same_numeral' text (numeral_for x) n e (writes_whole text x w one t) in
    some_by r (IsPlainWhole (numeral_for x)) (whole_value (numeral_for x)) x (subst (λ (m : Numeral). SomeIff r (IsPlainWhole m) (whole_value m)) (sym same) h) (plain_whole_for x w) (whole_back x w one))
    (λ no. absurd (no_quotient text (quotient_for x) q (writes_quotient text x w no t)))
    (one_or_not x.den (x.den == 1) refl)
  where
    same_numeral' : (text : List ℕ) (m n : Numeral) → numeral_of text ≡ Some n → Writes text m → m ≡ n
    same_numeral' text m n e w = let f : numeral_of text ≡ Some m = numeral_found text m w in cc

pub every_none : (text : List ℕ) → quotient_of text ≡ None → numeral_of text ≡ None → (x : Fraction) → IsNarrow x → text ≡ printed x → ⊥
every_none text q e x w t =
    ⊎_elim
    (λ one. no_numeral text (numeral_for x) e (writes_whole text x w one t))
    (λ no. no_quotient text (quotient_for x) q (writes_quotient text x w no t))
    (one_or_not x.den (x.den == 1) refl)

-- the value of a sign, a magnitude and a denominator in lowest terms
value_num : (b : Bool) (n d : ℕ) → 0 < d → gcd n d ≡ 1 → (signed b (frac (pos n) d)).num ≡ sgn b n
value_num b n d p l = ap (λ (x : Fraction). x.num) (signed_is b n d p) ∙ num_frac (sgn b n) d p (ap (λ k. gcd k d) (sgn_abs b n) ∙ l)

value_den : (b : Bool) (n d : ℕ) → 0 < d → gcd n d ≡ 1 → (signed b (frac (pos n) d)).den ≡ d
value_den b n d p l = ap (λ (x : Fraction). x.den) (signed_is b n d p) ∙ den_frac (sgn b n) d p (ap (λ k. gcd k d) (sgn_abs b n) ∙ l)

value_narrow : (b : Bool) (n d : ℕ) → 0 < d → gcd n d ≡ 1 → n < 2 ^ 127 → d < 2 ^ 127 → IsNarrow (signed b (frac (pos n) d))
value_narrow b n d p l hn hd =
    record {
      narrow_num = subst (λ (k : ℕ). k < 2 ^ 127) (sym (ap nat_abs (value_num b n d p l) ∙ sgn_abs b n)) hn;
      narrow_den = subst (λ (k : ℕ). k < 2 ^ 127) (sym (value_den b n d p l)) hd;
    }

some_top : (n d : ℕ) → gcd n d ≡ 1 → d ≢ 1 → 0 < n
some_top zero d l h = absurd (h (sym (gcd-zero d) ∙ (gcd_comm d 0 ∙ l)))
some_top (suc n) d l h = omega arith

quotient_printed : (text : List ℕ) (q : Quotient) → WritesQuotient text q → IsPlainQuotient q → (text ≡ printed (quotient_value q)) × IsNarrow (quotient_value q)
quotient_printed text q w p =
    let n : ℕ = digits_value 10 q.top in
    let d : ℕ = digits_value 10 q.bottom in
    let v : Fraction = quotient_value q in
    let t : printed v ≡ sign_text q.negative ++ (q.top ++ 47 ∷ q.bottom) =
    printed_by v (sgn q.negative n) d (value_num q.negative n d w.nonzero p.lowest) (value_den q.negative n d w.nonzero p.lowest)
    ∙ (quotient_text d (signed_decimal (sgn q.negative n)) p.not_whole
    ∙ (ap (λ s. s ++ 47 ∷ decimal d) (sgn_text q.negative n (λ e. some_top n d p.lowest p.not_whole))
    ∙ (append_assoc (sign_text q.negative) (decimal n) (47 ∷ decimal d)
    ∙ both (λ s u. sign_text q.negative ++ (s ++ 47 ∷ u)) (decimal_of_value q.top w.top_is (wide _ p.top_narrow)) (decimal_of_value q.bottom w.bottom_is (wide _ p.bottom_narrow))))) in
    (w.text_is ∙ sym t, value_narrow q.negative n d w.nonzero p.lowest p.top_narrow p.bottom_narrow)

no_power_text : (text : List ℕ) (b : Bool) (ds : List ℕ) → IsPowerText text b ds → ds ≡ [] → text ≡ []
no_power_text text b ds h e = ⊎_elim (λ k. k.0) (λ k. absurd (omega (arith, k.some, ap length e))) h

whole_printed : (text : List ℕ) (n : Numeral) → Writes text n → IsPlainWhole n → (text ≡ printed (whole_value n)) × IsNarrow (whole_value n)
whole_printed text n w p =
    let k : ℕ = digits_value 10 n.whole in
    let v : Fraction = whole_value n in
    let t : printed v ≡ sign_text n.negative ++ n.whole =
    printed_by v (sgn n.negative k) 1 (value_num n.negative k 1 (omega arith) (gcd-one k)) (value_den n.negative k 1 (omega arith) (gcd-one k))
    ∙ (whole_text 1 (signed_decimal (sgn n.negative k)) refl
    ∙ (sgn_text n.negative k p.not_minus_zero ∙ ap (λ s. sign_text n.negative ++ s) (decimal_of_value n.whole w.whole_is (wide _ p.narrow)))) in
    let rest : part_text n.part ++ w.power_text ≡ [] = both (λ s u. part_text s ++ u) p.no_part (no_power_text w.power_text n.power_negative n.power w.power_is p.no_power) in (
      w.text_is ∙ (ap (λ s. sign_text n.negative ++ (n.whole ++ s)) rest ∙ (ap (λ s. sign_text n.negative ++ s) (append-nil n.whole) ∙ sym t)),
      value_narrow n.negative k 1 (omega arith) (gcd-one k) p.narrow (omega arith),
    )

found_by : (text : List ℕ) (r : Option Fraction) (P : Type 0) (v : Fraction) → SomeIff r P v → (P → (text ≡ printed v) × IsNarrow v) → IfSome r (λ x. (text ≡ printed x) × IsNarrow x)
found_by text None P v h f = tt
found_by text (Some x) P v h f = subst (λ (y : Fraction). (text ≡ printed y) × IsNarrow y) (sym h.1) (f h.0)

pub found_quotient : (text : List ℕ) (q : Quotient) (r : Option Fraction) → quotient_of text ≡ Some q → SomeIff r (IsPlainQuotient q) (quotient_value q) → IfSome r (λ x. (text ≡ printed x) × IsNarrow x)
found_quotient text q r e h = found_by text r (IsPlainQuotient q) (quotient_value q) h (quotient_printed text q (quotient_sound text q e))

pub found_whole : (text : List ℕ) (n : Numeral) (r : Option Fraction) → numeral_of text ≡ Some n → SomeIff r (IsPlainWhole n) (whole_value n) → IfSome r (λ x. (text ≡ printed x) × IsNarrow x)
found_whole text n r e h = found_by text r (IsPlainWhole n) (whole_value n) h (whole_printed text n (numeral_sound text n e))

-- a text is printed of one fraction at most
pub printed_once : (x y : Fraction) → IsNarrow x → IsNarrow y → printed x ≡ printed y → x ≡ y
printed_once x y w v e =
    ⊎_elim
    (λ one.
    let n : numeral_of (printed x) ≡ Some (numeral_for x) = numeral_found (printed x) (numeral_for x) (writes_whole (printed x) x w one refl) in
    ⊎_elim
    (λ other.
    let m : numeral_of (printed x) ≡ Some (numeral_for y) = numeral_found (printed x) (numeral_for y) (writes_whole (printed x) y v other e) in
    let same : numeral_for x ≡ numeral_for y = cc in
    sym (whole_back x w one) ∙ (ap whole_value same ∙ whole_back y v other))
    (λ no. absurd (not_both (printed x) (numeral_for x) (quotient_for y) (writes_whole (printed x) x w one refl) (writes_quotient (printed x) y v no e)))
    (one_or_not y.den (y.den == 1) refl))
    (λ no.
    let n : quotient_of (printed x) ≡ Some (quotient_for x) = quotient_found (printed x) (quotient_for x) (writes_quotient (printed x) x w no refl) in
    ⊎_elim
    (λ other. absurd (not_both (printed x) (numeral_for y) (quotient_for x) (writes_whole (printed x) y v other e) (writes_quotient (printed x) x w no refl)))
    (λ none.
    let m : quotient_of (printed x) ≡ Some (quotient_for y) = quotient_found (printed x) (quotient_for y) (writes_quotient (printed x) y v none e) in
    let same : quotient_for x ≡ quotient_for y = cc in
    sym (quotient_back x w) ∙ (ap quotient_value same ∙ quotient_back y v))
    (one_or_not y.den (y.den == 1) refl))
    (one_or_not x.den (x.den == 1) refl)
