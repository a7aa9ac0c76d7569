-- The value of a numeral, from its first digits and the place of the first one.
use Rattle.std.specs.Prelude.{◌≡◌, ◌≢◌, ℕ, suc, ◌+◌, ◌-◌, ◌/◌, ◌^◌, ◌<◌, ◌≤◌, ℤ, pos, negsuc, ◌+ℤ◌, ◌-ℤ◌, neg_ℤ, ◌≤ℤ◌, Bool, true, false, List, [], ◌∷◌, ◌++◌, length, take, min, if◌then◌else◌, Result}
use Rattle.std.specs.Int.{int_max}
use Rattle.std.specs.Str.Parse.{AllDigits, digits_value}
use Rattle.std.proofs.Common.{refl, sym, ap, subst, ◌∙◌, arith, ⊎_elim, length-append}
use Rattle.std.proofs.lemmas.Bool.{cases_lt}
use Rattle.std.proofs.lemmas.Int.{ints, clamps}
use Rattle.std.proofs.lemmas.Int.Digits.{digits_value-lt}
use Rattle.std.proofs.lemmas.List.{take_all}
use Rattle.fractions.specs.Fraction.{Fraction, zero_fraction, ◌≤ʳ◌}
use Rattle.fractions.specs.Numeral.{Numeral, mantissa, scale, significant, first_place, place, rounded_at, magnitude, limit}
use Rattle.fractions.specs.Leading.{IsLeading, near_place}
use Rattle.fractions.specs.declared.numeral.Leading.{Leading}
use Rattle.fractions.specs.declared.numeral.NumeralFault.{NumeralFault}
use Rattle.fractions.specs.Reading.{GivesMagnitude}
use Rattle.fractions.proofs.Significant.{AllDigits-append, AllDigits-significant, value-significant, significant_first, value-ge, value-take, leading_room}
use Rattle.fractions.proofs.Magnitude.{zero_rounded, huge, tiny, near_short, near_long}

abbrev pub digits_of : Numeral → List ℕ
digits_of n = significant (n.whole ++ n.part)

-- the place by the kept exponent is the place, or both are beyond 17 or below -16
pub record IsNear (near first : ℤ) : Type 0 where
  pub high : pos 18 ≤ℤ near → pos 18 ≤ℤ first
  pub low : near ≤ℤ neg_ℤ (pos 17) → first ≤ℤ neg_ℤ (pos 17)
  pub same : neg_ℤ (pos 16) ≤ℤ near → near ≤ℤ pos 17 → near ≡ first

near_by : (b : Bool) (v count len : ℕ) → count < 2 ^ 64 → len < 2 ^ 64 → IsNear (pos count -ℤ pos 1 +ℤ (if b then neg_ℤ (pos (min v (10 ^ 20))) else pos (min v (10 ^ 20))) -ℤ pos len) (pos count -ℤ pos 1 +ℤ ((if b then neg_ℤ (pos v) else pos v) -ℤ pos len))
near_by true v count len p q = record { high = λ h. omega (arith, ints); low = λ h. omega (arith, ints); same = λ h k. omega (arith, ints) }
near_by false v count len p q = record { high = λ h. omega (arith, ints); low = λ h. omega (arith, ints); same = λ h k. omega (arith, ints) }

pub near_first : (n : Numeral) (count : ℕ) → count < 2 ^ 64 → length n.part < 2 ^ 64 → count ≡ length (digits_of n) → IsNear (near_place n count) (first_place n)
near_first n count p q e =
    subst (λ (k : ℕ). IsNear (near_place n count) (pos k -ℤ pos 1 +ℤ scale n)) e (near_by n.power_negative (digits_value 10 n.power) count (length n.part) p q)

-- ---- no nonzero digit
pub nothing_counted : (n : Numeral) → length (digits_of n) ≡ 0 → magnitude n ≡ zero_fraction
nothing_counted n e =
    let none : mantissa n ≡ 0 = sym (value-significant (n.whole ++ n.part)) ∙ ap (digits_value 10) (nothing (digits_of n) e) in
    ap (λ m. rounded_at m (scale n) (place n) (place n -ℤ scale n)) none ∙ zero_rounded (scale n) (place n) (place n -ℤ scale n)
  where
    nothing : (xs : List ℕ) → length xs ≡ 0 → xs ≡ []
    nothing [] h = refl
    nothing (x ∷ xs) h = absurd (omega arith)

-- ---- some nonzero digit
pub record IsSized (n : Numeral) (k : ℕ) : Type 0 where
  pub digits : AllDigits 10 (digits_of n)
  pub long : length (digits_of n) ≡ suc k
  pub above : 10 ^ k ≤ mantissa n
  pub below : mantissa n < 10 ^ suc k

pub sized : (n : Numeral) (k : ℕ) → AllDigits 10 n.whole → AllDigits 10 n.part → length (digits_of n) ≡ suc k → IsSized n k
sized n k w p e =
    let d : AllDigits 10 (digits_of n) = AllDigits-significant (n.whole ++ n.part) (AllDigits-append n.whole n.part w p) in
    let same : digits_value 10 (digits_of n) ≡ mantissa n = value-significant (n.whole ++ n.part) in
    record {
      digits = d;
      long = e;
      above = subst (λ (m : ℕ). 10 ^ k ≤ m) same (value-ge (digits_of n) k d (significant_first (n.whole ++ n.part)) e);
      below = subst (λ (m : ℕ). m < 10 ^ suc k) same (subst (λ (j : ℕ). digits_value 10 (digits_of n) < 10 ^ j) e (digits_value-lt 10 (digits_of n) d));
    }

-- the first place
at_first : (n : Numeral) (k : ℕ) → IsSized n k → first_place n ≡ pos k +ℤ scale n
at_first n k h = ap (λ j. pos j -ℤ pos 1 +ℤ scale n) h.long ∙ less_one k (scale n)
  where
    less_one : (k : ℕ) (s : ℤ) → pos (suc k) -ℤ pos 1 +ℤ s ≡ pos k +ℤ s
    less_one k s = omega (arith, ints)

max_high : (f : ℤ) → pos 18 ≤ℤ f → int_max (f -ℤ pos 14) (negsuc 14) ≡ f -ℤ pos 14
max_high f h = omega (arith, ints, clamps)

max_low : (f : ℤ) → f ≤ℤ neg_ℤ (pos 17) → int_max (f -ℤ pos 14) (negsuc 14) ≡ negsuc 14
max_low f h = omega (arith, ints, clamps)

pub large_numeral : (n : Numeral) (k : ℕ) → IsSized n k → pos 18 ≤ℤ first_place n → limit ≤ʳ magnitude n
large_numeral n k h l =
    let f : first_place n ≡ pos k +ℤ scale n = at_first n k h in
    huge (mantissa n) k (scale n) (place n) (place n -ℤ scale n) h.above (subst (λ (z : ℤ). pos 18 ≤ℤ z) f l) (max_high (first_place n) l ∙ ap (λ z. z -ℤ pos 14) f) refl

pub small_numeral : (n : Numeral) (k : ℕ) → IsSized n k → first_place n ≤ℤ neg_ℤ (pos 17) → magnitude n ≡ zero_fraction
small_numeral n k h l =
    let f : first_place n ≡ pos k +ℤ scale n = at_first n k h in
    let p : place n ≡ negsuc 14 = max_low (first_place n) l in
    ap (λ z. rounded_at (mantissa n) (scale n) z (z -ℤ scale n)) p
    ∙ tiny (mantissa n) k (scale n) (negsuc 14 -ℤ scale n) h.below (subst (λ (z : ℤ). z ≤ℤ neg_ℤ (pos 17)) f l) refl

max_le : (f : ℤ) → (f -ℤ pos 14) ≤ℤ int_max (f -ℤ pos 14) (negsuc 14)
max_le f = omega (arith, ints, clamps)

short_value : (n : Numeral) (k v : ℕ) → suc k ≤ 16 → IsSized n k → v ≡ digits_value 10 (take 16 (digits_of n)) → v ≡ mantissa n
short_value n k v l h e =
    e ∙ (ap (digits_value 10) (take_all 16 (digits_of n) (omega (arith, h.long))) ∙ value-significant (n.whole ++ n.part))

long_value : (n : Numeral) (k t v : ℕ) → suc k ≡ 16 + t → IsSized n k → v ≡ digits_value 10 (take 16 (digits_of n)) → v ≡ mantissa n / 10 ^ t
long_value n k t v l h e =
    e ∙ (value-take (digits_of n) 16 t h.digits (h.long ∙ l) ∙ ap (λ m. m / 10 ^ t) (value-significant (n.whole ++ n.part)))

short_numeral : (n : Numeral) (k v : ℕ) (low : ℤ) → suc k ≤ 16 → IsSized n k → v ≡ digits_value 10 (take 16 (digits_of n)) → low ≡ first_place n +ℤ pos 1 -ℤ pos (min (suc k) 16) → magnitude n ≡ rounded_at v low (place n) (place n -ℤ low)
short_numeral n k v low l h e el =
    let m : min (suc k) 16 ≡ suc k = omega arith in
    near_short (mantissa n) k (scale n) low (place n)
    (el ∙ (ap (λ z. z +ℤ pos 1 -ℤ pos (min (suc k) 16)) (at_first n k h) ∙ ap (λ j. pos k +ℤ scale n +ℤ pos 1 -ℤ pos j) m))
    ∙ ap (λ m. rounded_at m low (place n) (place n -ℤ low)) (sym (short_value n k v l h e))

long_numeral : (n : Numeral) (k v t : ℕ) (low : ℤ) → suc k ≡ 16 + t → IsSized n k → v ≡ digits_value 10 (take 16 (digits_of n)) → low ≡ first_place n +ℤ pos 1 -ℤ pos (min (suc k) 16) → magnitude n ≡ rounded_at v low (place n) (place n -ℤ low)
long_numeral n k v t low l h e el =
    let f : first_place n ≡ pos k +ℤ scale n = at_first n k h in
    let m : min (suc k) 16 ≡ 16 = omega arith in
    near_long (mantissa n) k t (scale n) low (place n) l
    (el ∙ (ap (λ z. z +ℤ pos 1 -ℤ pos (min (suc k) 16)) f ∙ ap (λ j. pos k +ℤ scale n +ℤ pos 1 -ℤ pos j) m))
    (subst (λ (z : ℤ). (z -ℤ pos 14) ≤ℤ place n) f (max_le (first_place n)))
    ∙ ap (λ m. rounded_at m low (place n) (place n -ℤ low)) (sym (long_value n k t v l h e))

pub near_numeral : (n : Numeral) (k v : ℕ) (low : ℤ) → IsSized n k → v ≡ digits_value 10 (take 16 (digits_of n)) → low ≡ first_place n +ℤ pos 1 -ℤ pos (min (suc k) 16) → magnitude n ≡ rounded_at v low (place n) (place n -ℤ low)
near_numeral n k v low h e el =
    ⊎_elim
    (λ l. short_numeral n k v low (omega arith) h e el)
    (λ l. long_numeral n k v (suc k - 16) low (omega arith) h e el)
    (cases_lt k 16)

-- ---- what the code knows
pub record Facts (n : Numeral) (l : Leading) (f : ℤ) : Type 0 where
  pub whole : AllDigits 10 n.whole
  pub part : AllDigits 10 n.part
  pub room : length n.whole + length n.part < 2 ^ 64
  pub leading : IsLeading (n.whole ++ n.part) l
  pub near : f ≡ near_place n l.count

pub leading_is : (n m : Numeral) (l : Leading) → n ≡ m → IsLeading (n.whole ++ n.part) l → IsLeading (m.whole ++ m.part) l
leading_is n m l e h = subst (λ (k : Numeral). IsLeading (k.whole ++ k.part) l) e h

facts_near : (n : Numeral) (l : Leading) (f : ℤ) → Facts n l f → IsNear f (first_place n)
facts_near n l f h =
    subst (λ (z : ℤ). IsNear z (first_place n)) (sym h.near)
    (near_first n l.count (omega (arith, leading_room (n.whole ++ n.part) l h.leading, length-append n.whole n.part, h.room)) (omega (arith, h.room)) h.leading.count_is)

facts_sized : (n : Numeral) (l : Leading) (f : ℤ) (k : ℕ) → l.count ≡ suc k → Facts n l f → IsSized n k
facts_sized n l f k e h = sized n k h.whole h.part (sym h.leading.count_is ∙ e)

counted : (c : ℕ) → c ≢ 0 → c ≡ suc (c - 1)
counted c h = omega arith

pub facts_zero : (n : Numeral) (l : Leading) → IsLeading (n.whole ++ n.part) l → l.count ≡ 0 → magnitude n ≡ zero_fraction
facts_zero n l h e = nothing_counted n (sym h.count_is ∙ e)

pub facts_high : (n : Numeral) (l : Leading) (f : ℤ) → Facts n l f → l.count ≢ 0 → pos 18 ≤ℤ f → limit ≤ʳ magnitude n
facts_high n l f h c b =
    large_numeral n (l.count - 1) (facts_sized n l f (l.count - 1) (counted l.count c) h) ((facts_near n l f h).high b)

pub facts_low : (n : Numeral) (l : Leading) (f : ℤ) → Facts n l f → l.count ≢ 0 → f ≤ℤ neg_ℤ (pos 17) → magnitude n ≡ zero_fraction
facts_low n l f h c b =
    small_numeral n (l.count - 1) (facts_sized n l f (l.count - 1) (counted l.count c) h) ((facts_near n l f h).low b)

same_rounding : (v : ℕ) (low p p' : ℤ) → p ≡ p' → rounded_at v low p (p -ℤ low) ≡ rounded_at v low p' (p' -ℤ low)
same_rounding v low p p' e = ap (λ z. rounded_at v low z (z -ℤ low)) e

pub facts_middle : (n : Numeral) (l : Leading) (f low p : ℤ) (r : Result Fraction NumeralFault) → Facts n l f → l.count ≢ 0 → neg_ℤ (pos 16) ≤ℤ f → f ≤ℤ pos 17 → low ≡ f +ℤ pos 1 -ℤ pos (min l.count 16) → p ≡ int_max (f -ℤ pos 14) (negsuc 14) → GivesMagnitude r (rounded_at l.value low p (p -ℤ low)) → GivesMagnitude r (magnitude n)
facts_middle n l f low p r h c b t el ep g =
    let same : f ≡ first_place n = (facts_near n l f h).same b t in
    let one : l.count ≡ suc (l.count - 1) = counted l.count c in
    let lows : low ≡ first_place n +ℤ pos 1 -ℤ pos (min (suc (l.count - 1)) 16) = el ∙ (ap (λ z. z +ℤ pos 1 -ℤ pos (min l.count 16)) same ∙ ap (λ j. first_place n +ℤ pos 1 -ℤ pos (min j 16)) one) in
    let places : p ≡ place n = ep ∙ ap (λ z. int_max (z -ℤ pos 14) (negsuc 14)) same in
    subst (λ (x : Fraction). GivesMagnitude r x)
    (same_rounding l.value low p (place n) places ∙ sym (near_numeral n (l.count - 1) l.value low (facts_sized n l f (l.count - 1) one h) h.leading.value_is lows))
    g
