-- The functions of numerals and energies are what the readers answer.
use Rattle.std.specs.Prelude.{◌≡◌, ◌≢◌, ℕ, suc, ◌*◌, ◌^◌, ◌<◌, ◌≤◌, ◌==◌, Bool, true, false, cond, ℤ, pos, negsuc, ◌+ℤ◌, ◌≤ℤ◌, ◌<ℤ◌, IfOk, List, Option, Some, None, take, drop, Result, Ok, Err}
use Rattle.std.specs.Int.RustNames.{int_lt}
use Rattle.std.proofs.Common.{refl, sym, ap, subst, ◌∙◌, arith, ⊎_elim, lit<}
use Rattle.std.proofs.Math.Nat.{mul-le-mul_left, pow-le-pow_right, one-le-pow}
use Rattle.std.proofs.lemmas.Bool.{cases_lt}
use Rattle.std.proofs.lemmas.Bool.Decides.{nat_tests}
use Rattle.std.proofs.lemmas.Int.{ints}
use Rattle.std.proofs.lemmas.List.{take-append-drop}
use Rattle.fractions.specs.Fraction.{Fraction, frac, whole_fraction, zero_fraction, inverse, turned, ◌*ʳ◌, ◌/ʳ◌, ◌<ʳ◌, ◌≤ʳ◌}
use Rattle.fractions.specs.Limits.{IsNarrow, IsBelow}
use Rattle.fractions.specs.Numeral.{Numeral, Writes, magnitude, numeral_value, signed, limit, times_ten, IsShort}
use Rattle.fractions.specs.Split.{numeral_of}
use Rattle.fractions.specs.Reading.{ReadsNumeral}
use Rattle.fractions.specs.declared.numeral.NumeralFault.{NumeralFault}
use Rattle.fractions.specs.declared.numeral.NumeralFault.TheVariants as numeral_fault
use Rattle.fractions.proofs.Grammar.{numeral_found, numeral_sound}
use Rattle.fractions.proofs.Bounds.{num-frac-le, den-frac-le, product_below, negated_below}
use Rattle.fractions.proofs.Ceiling.{num-whole, den-whole}
use Rattle.fractions.proofs.Magnitude.{whole_le}
use Rattle.fractions.proofs.Order.{<ʳ_not_≤ʳ}
use Rattle.fractions.proofs.Short.{short_magnitude}
use Rattle.energy_units.specs.Energy.{Energy, WritesEnergy, BeginsWithNumber, IsModerate, prefixed, unit_factor, Reads}
use Rattle.energy_units.specs.Split.{whole_len, number_len, behind_prefix, factor_of}
use Rattle.energy_units.specs.declared.EnergyFault.{EnergyFault}
use Rattle.energy_units.specs.declared.EnergyFault.TheVariants as energy_fault
use Rattle.energy_units.specs.declared.Measure.{Measure}
use Rattle.energy_units.specs.declared.Measure.TheVariants.{Joules, Watts}
use Rattle.energy_units.proofs.Front.{front_number, number_front, begins_whole, energy_front, energy_found, IsFound}
use Rattle.energy_units.proofs.Outcome.{unsigned_value}
use Rattle.energy_units.proofs.Scale.{shift, times_factor}
use Rattle.prototype_fields.specs.Numbers.{is_less, value_below_limit, numeral_reading, scaled, with_factor, with_unit, energy_reading}

-- ---- tests
int_less : (a b : ℤ) → a <ℤ b → int_lt a b ≡ true
int_less a b h = grind (arith, ints)

int_not_less : (a b : ℤ) → b ≤ℤ a → int_lt a b ≡ false
int_not_less a b h = grind (arith, ints)

pub less : (x y : Fraction) → x <ʳ y → is_less x y ≡ true
less x y h = int_less _ _ h.cross

pub not_less : (x y : Fraction) → y ≤ʳ x → is_less x y ≡ false
not_less x y h = int_not_less _ _ h.cross

-- ---- numerals
found_numeral : (text : List ℕ) (n : Numeral) → Writes text n → numeral_reading text ≡ cond (is_less (magnitude n) limit) (Ok (numeral_value n)) (Err numeral_fault.TooLarge)
unfolding numeral_reading
found_numeral text n w = ap value_below_limit (numeral_found text n w)

none_found : (text : List ℕ) (o : Option Numeral) → numeral_of text ≡ o → ((n : Numeral) → Writes text n → ⊥) → value_below_limit o ≡ Err numeral_fault.NotNumeral
none_found text None e h = refl
none_found text (Some n) e h = absurd (h n (numeral_sound text n e))

no_numeral : (text : List ℕ) → ((n : Numeral) → Writes text n → ⊥) → numeral_reading text ≡ Err numeral_fault.NotNumeral
unfolding numeral_reading
no_numeral text h = none_found text (numeral_of text) refl h

by_test : {A : Type 0} (b c : Bool) (x y : A) → b ≡ c → cond b x y ≡ cond c x y
by_test b c x y e = ap (λ d. cond d x y) e

pub numeral_is : (text : List ℕ) (r : Result Fraction NumeralFault) → ReadsNumeral text r → r ≡ numeral_reading text
numeral_is text (Ok x) (n, w, g) = ap Ok g.1 ∙ sym (found_numeral text n w ∙ by_test _ true _ _ (less (magnitude n) limit g.0))
numeral_is text (Err numeral_fault.TooLarge) (n, w, large) = sym (found_numeral text n w ∙ by_test _ false _ _ (not_less (magnitude n) limit large))
numeral_is text (Err numeral_fault.NotNumeral) none = sym (no_numeral text none)

-- ---- energies
not_zero : (n : ℕ) → n ≢ 0 → (n == 0) ≡ false
not_zero n h = grind (arith, nat_tests)

is_zero : (n : ℕ) → n ≡ 0 → (n == 0) ≡ true
is_zero n h = grind (arith, nat_tests)

not_zero_of : (n : ℕ) → (n == 0) ≡ false → n ≢ 0
not_zero_of n e h = let t : true ≡ false = sym (is_zero n h) ∙ e in cc

abbrev number_reading : Numeral → Result Fraction NumeralFault
number_reading n = cond (is_less (magnitude n) limit) (Ok (magnitude n)) (Err numeral_fault.TooLarge)

found_energy : (measure : Measure) (text : List ℕ) (e : Energy) → WritesEnergy measure text e → energy_reading measure text ≡ scaled (number_reading e.number) e.power e.factor
unfolding energy_reading
found_energy measure text e w =
    let f : IsFound measure text e = energy_found measure text e w in
    let number : List ℕ = take (number_len text) text in
    let behind : ℕ × List ℕ = behind_prefix (drop (number_len text) text) in
    let reading : numeral_reading number ≡ number_reading e.number =
    found_numeral number e.number f.number_is.numeral ∙ ap (λ v. cond (is_less (magnitude e.number) limit) (Ok v) (Err numeral_fault.TooLarge)) (unsigned_value e.number f.number_is.unsigned) in
    by_test (whole_len text == 0) false (Err energy_fault.NoNumber) (with_unit measure number behind) (not_zero (whole_len text) f.whole)
    ∙ (ap (with_factor number behind.0) f.factor_is ∙ (ap (λ p. scaled (numeral_reading number) p e.factor) f.power_is ∙ ap (λ r. scaled r e.power e.factor) reading))

int_less_means : (a b : ℤ) → int_lt a b ≡ true → a <ℤ b
int_less_means a b h = grind (arith, ints)

less_means : (x y : Fraction) → is_less x y ≡ true → x <ʳ y
less_means x y h = record { cross = int_less_means _ _ h }

too_large : (e : Energy) (b c : Bool) → is_less (magnitude e.number) limit ≡ b → is_less (prefixed e) (whole_fraction (pos (10 ^ 30))) ≡ c → ¬ IsModerate e → scaled (cond b (Ok (magnitude e.number)) (Err numeral_fault.TooLarge)) e.power e.factor ≡ Err energy_fault.TooLarge
too_large e true true h k n = absurd (n (record { number_below = less_means _ _ h; prefixed_below = less_means _ _ k }))
too_large e true false h k n = by_test _ false _ _ k
too_large e false c h k n = refl

begins : (text : List ℕ) → whole_len text ≢ 0 → BeginsWithNumber text
begins text h = record { number_text = take (number_len text) text; rest = drop (number_len text) text; number = front_number text; number_is = number_front text h; text_is = sym (take-append-drop (number_len text) text) }

no_number : (text : List ℕ) (b : Bool) → (whole_len text == 0) ≡ b → ¬ BeginsWithNumber text → b ≡ true
no_number text true e h = refl
no_number text false e h = absurd (h (begins text (not_zero_of (whole_len text) e)))

no_unit : (measure : Measure) (text : List ℕ) (o : Option ℕ) → whole_len text ≢ 0 → factor_of measure (behind_prefix (drop (number_len text) text)).1 ≡ o → ((e : Energy) → ¬ WritesEnergy measure text e) → o ≡ None
no_unit measure text None w f h = refl
no_unit measure text (Some factor) w f h =
    let e : Energy = record { number = front_number text; power = (behind_prefix (drop (number_len text) text)).0; factor = factor } in
    absurd (h e (energy_front measure text e (record { number_is = number_front text w; power_is = refl; factor_is = f })))

reading_without : (measure : Measure) (text : List ℕ) → BeginsWithNumber text × ((e : Energy) → ¬ WritesEnergy measure text e) → energy_reading measure text ≡ Err energy_fault.NoUnit
unfolding energy_reading
reading_without measure text h =
    let w : whole_len text ≢ 0 = begins_whole text h.0 in
    let number : List ℕ = take (number_len text) text in
    let behind : ℕ × List ℕ = behind_prefix (drop (number_len text) text) in
    by_test (whole_len text == 0) false (Err energy_fault.NoNumber) (with_unit measure number behind) (not_zero (whole_len text) w)
    ∙ ap (with_factor number behind.0) (no_unit measure text (factor_of measure behind.1) w refl h.1)

reading_of_none : (measure : Measure) (text : List ℕ) → ¬ BeginsWithNumber text → energy_reading measure text ≡ Err energy_fault.NoNumber
unfolding energy_reading
reading_of_none measure text h = by_test (whole_len text == 0) true _ _ (no_number text (whole_len text == 0) refl h)

pub energy_is : (measure : Measure) (text : List ℕ) (r : Result Fraction EnergyFault) → Reads measure text r → r ≡ energy_reading measure text
energy_is measure text (Ok x) (e, w, g) =
    ap Ok g.1
    ∙ sym (found_energy measure text e w ∙ (ap (λ b. scaled (cond b (Ok (magnitude e.number)) (Err numeral_fault.TooLarge)) e.power e.factor) (less _ _ g.0.number_below) ∙ by_test _ true _ _ (less _ _ g.0.prefixed_below)))
energy_is measure text (Err energy_fault.TooLarge) (e, w, g) = sym (found_energy measure text e w ∙ too_large e (is_less (magnitude e.number) limit) (is_less (prefixed e) (whole_fraction (pos (10 ^ 30)))) refl refl g)
energy_is measure text (Err energy_fault.NoNumber) h = sym (reading_of_none measure text h)
energy_is measure text (Err energy_fault.NoUnit) h = sym (reading_without measure text h)

-- ---- what is read is far below the limits
ten_pos : (k : ℕ) → 0 < 10 ^ k
ten_pos k = omega (arith, one-le-pow k 10 (lit< tt))

whole_below : (a : ℕ) → a < 2 ^ 120 → IsBelow 120 (whole_fraction (pos a))
whole_below a h = record { num_below = rw (num-whole (pos a)) h; den_below = rw (den-whole (pos a)) (lit< tt) }

frac_below : (k d : ℕ) → 0 < d → k < 2 ^ 120 → d < 2 ^ 120 → IsBelow 120 (frac (pos k) d)
frac_below k d p h l = record { num_below = omega (arith, num-frac-le (pos k) d p, h); den_below = omega (arith, den-frac-le (pos k) d p, l) }

times_below : (k f b : ℕ) (q : ℤ) → k ≤ 10 ^ 16 → f ≤ 60 → b ≤ 10 ^ 30 → negsuc 14 ≤ℤ q → times_ten k q <ʳ whole_fraction (pos b) → IsBelow 120 (times_ten (k * f) q)
times_below k f b (pos a) hk hf hb hq h =
    let small : k * 10 ^ a < b = ⊎_elim (λ l. l) (λ l. absurd (<ʳ_not_≤ʳ _ _ h (whole_le b (k * 10 ^ a) l))) (cases_lt (k * 10 ^ a) b) in
    let m : k * 10 ^ a * f ≤ k * 10 ^ a * 60 = mul-le-mul_left (k * 10 ^ a) hf in
    whole_below (k * f * 10 ^ a) (omega (arith, m, small, hb))
times_below k f b (negsuc j) hk hf hb hq h =
    let m : k * f ≤ k * 60 = mul-le-mul_left k hf in
    let l : suc j ≤ 15 = omega (arith, ints) in
    let d : 10 ^ suc j ≤ 10 ^ 15 = pow-le-pow_right (lit< tt) l in
    frac_below (k * f) (10 ^ suc j) (ten_pos (suc j)) (omega (arith, m, hk)) (omega (arith, d))

short_below : (x : Fraction) → IsShort x → x <ʳ limit → IsBelow 120 x
short_below x s h =
    let one : times_ten (s.digits * 1) s.last ≡ x = ap (λ k. times_ten k s.last) (omega arith) ∙ sym s.value in
    subst (IsBelow 120) one (times_below s.digits 1 (10 ^ 18) s.last s.few_digits (omega arith) (omega arith) s.few_places (subst (λ (y : Fraction). y <ʳ limit) s.value h))

signed_below : (b : Bool) (x : Fraction) → IsBelow 120 x → IsBelow 120 (signed b x)
signed_below true x h = negated_below x 120 h
signed_below false x h = h

pub numeral_small : (text : List ℕ) (r : Result Fraction NumeralFault) → ReadsNumeral text r → IfOk r (IsBelow 120)
numeral_small text (Ok x) (n, w, g) = subst (IsBelow 120) (sym g.1) (signed_below n.negative (magnitude n) (short_below (magnitude n) (short_magnitude text n w g.0) g.0))
numeral_small text (Err fault) h = tt

some_is : (a b : ℕ) → Some a ≡ Some b → a ≡ b
some_is a b e = cc

factor_by : (b : Bool) (k f : ℕ) (o : Option ℕ) → k ≤ 60 → (o ≡ Some f → f ≤ 60) → cond b (Some k) o ≡ Some f → f ≤ 60
factor_by true k f o h g e = omega (arith, h, some_is k f e)
factor_by false k f o h g e = g e

none_factor : (f : ℕ) → None ≡ Some f → f ≤ 60
none_factor f e = cc

factor_small : (measure : Measure) (c f : ℕ) → unit_factor measure c ≡ Some f → f ≤ 60
factor_small Joules c f e = factor_by (c == 74) 1 f None (omega arith) (none_factor f) e
factor_small Watts c f e = factor_by (c == 87) 1 f (cond (c == 74) (Some 60) None) (omega arith) (λ d. factor_by (c == 74) 60 f None (omega arith) (none_factor f) d) e

at_least : (p : ℤ) (e : ℕ) → negsuc 14 ≤ℤ p → negsuc 14 ≤ℤ (p +ℤ pos e)
at_least p e h = omega (arith, ints)

energy_below : (x : Fraction) (e f : ℕ) → IsShort x → f ≤ 60 → x *ʳ whole_fraction (pos (10 ^ e)) <ʳ whole_fraction (pos (10 ^ 30)) → IsBelow 120 (x *ʳ whole_fraction (pos (10 ^ e)) *ʳ whole_fraction (pos f))
energy_below x e f s hf h =
    let z : ℤ = s.last +ℤ pos e in
    let same : x *ʳ whole_fraction (pos (10 ^ e)) ≡ times_ten s.digits z = ap (λ y. y *ʳ whole_fraction (pos (10 ^ e))) s.value ∙ shift s.digits e s.last z refl in
    subst (IsBelow 120) (sym (times_factor s.digits f z) ∙ ap (λ y. y *ʳ whole_fraction (pos f)) (sym same))
    (times_below s.digits f (10 ^ 30) z s.few_digits hf (omega arith) (at_least s.last e s.few_places) (subst (λ (y : Fraction). y <ʳ whole_fraction (pos (10 ^ 30))) same h))

pub energy_small : (measure : Measure) (text : List ℕ) (r : Result Fraction EnergyFault) → Reads measure text r → IfOk r (IsBelow 120)
energy_small measure text (Ok x) (e, w, g) =
    subst (IsBelow 120) (sym g.1) (energy_below (magnitude e.number) e.power e.factor (short_magnitude w.number_text e.number w.number_is.numeral g.0.number_below) (factor_small measure w.unit e.factor w.unit_is) g.0.prefixed_below)
energy_small measure text (Err fault) h = tt

-- ---- parts of what is read
inverse_below : (k : ℕ) → 0 < k → k < 2 ^ 5 → IsBelow 5 (inverse (whole_fraction (pos k)))
unfolding inverse turned
inverse_below k p h =
    subst (IsBelow 5) (sym (ap (λ n. turned n (whole_fraction (pos k)).den) (num-whole (pos k)) ∙ ap (turned (pos k)) (den-whole (pos k))))
    (record { num_below = omega (arith, num-frac-le (pos 1) k p); den_below = omega (arith, den-frac-le (pos 1) k p, h) })

pub part_narrow : (x : Fraction) (k : ℕ) → 0 < k → k < 2 ^ 5 → IsBelow 120 x → IsNarrow (x /ʳ whole_fraction (pos k))
unfolding ◌/ʳ◌
part_narrow x k p h b =
    let c : IsBelow 125 (x *ʳ inverse (whole_fraction (pos k))) = product_below x (inverse (whole_fraction (pos k))) 120 5 125 refl b (inverse_below k p h) in
    record { narrow_num = omega (arith, c.num_below); narrow_den = omega (arith, c.den_below) }

pub whole_not_zero : (k : ℕ) → 0 < k → whole_fraction (pos k) ≢ zero_fraction
unfolding zero_fraction
whole_not_zero k p e = absurd (different k p (sym (num-whole (pos k)) ∙ ap (λ (x : Fraction). x.num) e))
  where
    different : (k : ℕ) → 0 < k → pos k ≡ pos 0 → ⊥
    different k p e = omega (arith, ints)
