-- The number at the front of a text.
use Rattle.std.specs.Prelude.{◌≡◌, ◌≢◌, ℕ, suc, ◌<◌, ◌≤◌, Bool, true, false, cond, ◌==◌, List, [], ◌∷◌, ◌++◌, length, take, drop, Option, Some, None, ◌⊎◌}
use Rattle.std.specs.Char.{is_ascii_digit}
use Rattle.std.specs.Str.Parse.{AllDigits}
use Rattle.std.proofs.Common.{refl, sym, ap, subst, ◌∙◌, arith, inl, inr, ⊎_elim, eqb-true, append_assoc, length-append, append-nil, ne_eqb}
use Rattle.std.proofs.Math.Seq.{take-add}
use Rattle.std.proofs.lemmas.List.{take-append-drop}
use Rattle.std.proofs.lemmas.Bool.{cases_lt}
use Rattle.std.proofs.lemmas.Bool.Decides.{nat_tests}
use Rattle.std.proofs.lemmas.Str.Parse.{digit_from_value}
use Rattle.std.proofs.lemmas.Option.{same_Some}
use Rattle.fractions.specs.Digits.{front_digits, behind_digits}
use Rattle.fractions.specs.Numeral.{Numeral, IsWholePart, IsPowerText, sign_text, part_text}
use Rattle.fractions.proofs.Run.{front-behind, front_all_digits, front-append, NoDigitFirst, digit_true, digit_false}
use Rattle.fractions.proofs.Grammar.{numeral_found}
use Rattle.energy_units.specs.declared.Measure.{Measure}
use Rattle.energy_units.specs.declared.Measure.TheVariants.{Joules, Watts}
use Rattle.energy_units.specs.Energy.{WritesNumber, BeginsWithNumber, letter_power, prefix_power, unit_factor, Energy, WritesEnergy}
use Rattle.energy_units.specs.Scaled.{IsEnergyOf}
use Rattle.energy_units.specs.Split.{whole_len, point_len, part_len, number_len, behind_prefix_by, behind_prefix, factor_of}

-- ---- lists
pub take_front : (xs ys : List ℕ) → take (length xs) (xs ++ ys) ≡ xs
take_front [] ys = refl
take_front (x ∷ xs) ys = ap (λ t. x ∷ t) (take_front xs ys)

pub drop_front : (xs ys : List ℕ) → drop (length xs) (xs ++ ys) ≡ ys
drop_front [] ys = refl
drop_front (x ∷ xs) ys = drop_front xs ys

-- ---- what is at the front is a number
is_not : (c k : ℕ) → (c == k) ≡ false → c ≢ k
is_not c k e z = let f : (k == k) ≡ false = ap (λ j. j == k) (sym z) ∙ e in absurd (differ k f)
  where
    differ : (k : ℕ) → (k == k) ≡ false → ⊥
    differ k f = grind (arith, nat_tests)

zero_whole : (c : ℕ) (cs : List ℕ) → c ≡ 48 → IsWholePart (c ∷ take 0 cs)
zero_whole c cs e = rw e (record { digits = (omega arith, tt); some = omega arith; no_leading_zero = λ z. refl })

digits_whole : (c : ℕ) (ds fs : List ℕ) → (c == 48) ≡ false → AllDigits 10 fs → fs ≢ [] → (d : Bool) → fs ≡ cond d (c ∷ ds) [] → IsWholePart fs
digits_whole c ds fs e h n false f = absurd (n f)
digits_whole c ds fs e h n true f =
    subst IsWholePart (sym f)
    (record { digits = subst (AllDigits 10) f h; some = omega arith; no_leading_zero = λ z. absurd (is_not c 48 e z) })

not_nothing : (l : List ℕ) → length l ≢ 0 → l ≢ []
not_nothing l h e = h (ap length e)

take_digits : (t : List ℕ) → take (length (front_digits t)) t ≡ front_digits t
take_digits t = ap (take (length (front_digits t))) (sym (front-behind t)) ∙ take_front (front_digits t) (behind_digits t)

whole_by : (c : ℕ) (cs : List ℕ) (b : Bool) → (c == 48) ≡ b → cond b 1 (length (front_digits (c ∷ cs))) ≢ 0 → IsWholePart (take (cond b 1 (length (front_digits (c ∷ cs)))) (c ∷ cs))
whole_by c cs true e h = zero_whole c cs (eqb-true c 48 e)
whole_by c cs false e h =
    subst IsWholePart (sym (take_digits (c ∷ cs)))
    (digits_whole c (front_digits cs) (front_digits (c ∷ cs)) e (front_all_digits (c ∷ cs)) (not_nothing (front_digits (c ∷ cs)) h) (is_ascii_digit c) refl)

pub whole_front : (text : List ℕ) → whole_len text ≢ 0 → IsWholePart (take (whole_len text) text)
whole_front [] h = absurd (h refl)
whole_front (c ∷ cs) h = whole_by c cs (c == 48) refl h

pub record IsPart (text ds : List ℕ) : Type 0 where
  pub digits : AllDigits 10 ds
  pub text_is : text ≡ part_text ds

point_by : (c : ℕ) (cs fs : List ℕ) → c ≡ 46 → AllDigits 10 fs → take (length fs) cs ≡ fs → (ds : List ℕ) × IsPart (take (point_len (length fs)) (c ∷ cs)) ds
point_by c cs [] e h t = ([], record { digits = tt; text_is = refl })
point_by c cs (f ∷ fs) e h t = (f ∷ fs, record { digits = h; text_is = ap (λ k. k ∷ take (suc (length fs)) cs) e ∙ ap (λ l. 46 ∷ l) t })

part_by : (c : ℕ) (cs : List ℕ) (b : Bool) → (c == 46) ≡ b → (ds : List ℕ) × IsPart (take (cond b (point_len (length (front_digits cs))) 0) (c ∷ cs)) ds
part_by c cs true e = point_by c cs (front_digits cs) (eqb-true c 46 e) (front_all_digits cs) (take_digits cs)
part_by c cs false e = ([], record { digits = tt; text_is = refl })

pub part_front : (text : List ℕ) → (ds : List ℕ) × IsPart (take (part_len text) text) ds
part_front [] = ([], record { digits = tt; text_is = refl })
part_front (c ∷ cs) = part_by c cs (c == 46) refl

-- the numeral at the front
unfoldable pub front_number : List ℕ → Numeral
front_number text = record { negative = false; whole = take (whole_len text) text; part = (part_front (drop (whole_len text) text)).0; power_negative = false; power = [] }

pub number_front : (text : List ℕ) → whole_len text ≢ 0 → WritesNumber (take (number_len text) text) (front_number text)
unfolding front_number
number_front text h =
    let p : (ds : List ℕ) × IsPart (take (part_len (drop (whole_len text) text)) (drop (whole_len text) text)) ds = part_front (drop (whole_len text) text) in
    record {
      numeral =
          record {
            power_text = [];
            whole_is = whole_front text h;
            part_is = p.1.digits;
            power_is = inl (refl, refl, refl);
            text_is =
                take-add (whole_len text) (part_len (drop (whole_len text) text)) text
                ∙ ap (λ l. take (whole_len text) text ++ l) (p.1.text_is ∙ sym (append-nil (part_text p.0)));
          };
      unsigned = refl;
      no_power = refl;
    }

-- ---- and it is the only number before a prefix and a unit
-- a text that no numeral goes on with
abbrev pub IsStop : List ℕ → Type 0
IsStop [] = Unit {0}
IsStop (c ∷ cs) = 57 < c

stop_no_digit : (text : List ℕ) → IsStop text → NoDigitFirst text
stop_no_digit [] h = tt
stop_no_digit (c ∷ cs) h = digit_false c (λ r. omega (arith, r, h))

part_no_digit : (part text : List ℕ) → IsStop text → NoDigitFirst (part_text part ++ text)
part_no_digit [] text h = stop_no_digit text h
part_no_digit (c ∷ cs) text h = digit_false 46 (λ r. omega (arith, r))

whole_len_by : (c : ℕ) (cs rest : List ℕ) (b : Bool) → (c == 48) ≡ b → IsWholePart (c ∷ cs) → NoDigitFirst rest → cond b 1 (length (front_digits ((c ∷ cs) ++ rest))) ≡ length (c ∷ cs)
whole_len_by c cs rest true e w n = sym (w.no_leading_zero (eqb-true c 48 e))
whole_len_by c cs rest false e w n = ap length (front-append (c ∷ cs) rest w.digits n).0

pub whole_len_is : (whole rest : List ℕ) → IsWholePart whole → NoDigitFirst rest → whole_len (whole ++ rest) ≡ length whole
whole_len_is [] rest w n = absurd (omega (arith, w.some))
whole_len_is (c ∷ cs) rest w n = whole_len_by c cs rest (c == 48) refl w n

pub part_len_is : (part rest : List ℕ) → AllDigits 10 part → IsStop rest → part_len (part_text part ++ rest) ≡ length (part_text part)
part_len_is [] [] d h = refl
part_len_is [] (c ∷ cs) d h = ap (λ b. cond b (point_len (length (front_digits cs))) 0) (ne_eqb c 46 (λ e. omega (arith, e, h)))
part_len_is (c ∷ cs) rest d h = ap (λ l. point_len (length l)) (front-append (c ∷ cs) rest d (stop_no_digit rest h)).0

number_len_at : (whole part rest text : List ℕ) → IsWholePart whole → AllDigits 10 part → IsStop rest → text ≡ whole ++ (part_text part ++ rest) → number_len text ≡ length (whole ++ part_text part)
number_len_at whole part rest text w d h e =
    let l : whole_len text ≡ length whole = ap whole_len e ∙ whole_len_is whole (part_text part ++ rest) w (part_no_digit part rest h) in
    let t : drop (whole_len text) text ≡ part_text part ++ rest = ap (λ k. drop k text) l ∙ (ap (drop (length whole)) e ∙ drop_front whole (part_text part ++ rest)) in
    omega (arith, l, ap part_len t, part_len_is part rest d h, length-append whole (part_text part))

-- a number without an exponent is a whole part and a part
no_power_text : (text ds : List ℕ) (negative : Bool) → IsPowerText text negative ds → ds ≡ [] → text ≡ []
no_power_text text ds negative h e = ⊎_elim (λ k. k.0) (λ k. absurd (omega (arith, k.some, ap length e))) h

number_text_is : (text : List ℕ) (n : Numeral) → WritesNumber text n → text ≡ n.whole ++ part_text n.part
number_text_is text n w =
    w.numeral.text_is
    ∙ (ap (λ b. sign_text b ++ (n.whole ++ (part_text n.part ++ w.numeral.power_text))) w.unsigned
    ∙ (ap (λ t. n.whole ++ (part_text n.part ++ t)) (no_power_text _ _ _ w.numeral.power_is w.no_power) ∙ ap (λ t. n.whole ++ t) (append-nil (part_text n.part))))

pub number_len_is : (text number rest : List ℕ) (n : Numeral) → WritesNumber number n → IsStop rest → text ≡ number ++ rest → number_len text ≡ length number
number_len_is text number rest n w h e =
    let t : number ≡ n.whole ++ part_text n.part = number_text_is number n w in
    number_len_at n.whole n.part rest text w.numeral.whole_is w.numeral.part_is h (e ∙ (ap (λ l. l ++ rest) t ∙ append_assoc n.whole (part_text n.part) rest))
    ∙ ap length (sym t)

-- a text that begins with a number has a whole part at its front
some_by : (c : ℕ) (cs : List ℕ) (b : Bool) → is_ascii_digit c ≡ true → cond b 1 (length (front_digits (c ∷ cs))) ≢ 0
some_by c cs true d h = omega arith
some_by c cs false d h = let e : length (front_digits (c ∷ cs)) ≡ length (c ∷ front_digits cs) = ap (λ k. length (cond k (c ∷ front_digits cs) [])) d in omega arith

some_whole : (text whole rest : List ℕ) → text ≡ whole ++ rest → IsWholePart whole → whole_len text ≢ 0
some_whole text [] rest e w h = omega (arith, w.some)
some_whole text (c ∷ cs) rest e w h = some_by c (cs ++ rest) (c == 48) (digit_true c (digit_from_value c w.digits.0)) (ap whole_len (sym e) ∙ h)

pub begins_whole : (text : List ℕ) → BeginsWithNumber text → whole_len text ≢ 0
begins_whole text b =
    some_whole text b.number.whole (part_text b.number.part ++ b.rest)
    (b.text_is ∙ (ap (λ l. l ++ b.rest) (number_text_is b.number_text b.number b.number_is) ∙ append_assoc b.number.whole (part_text b.number.part) b.rest))
    b.number_is.numeral.whole_is

-- ---- prefixes and units
letter_none : (c : ℕ) → c ≤ 57 → letter_power c ≡ None
letter_none c h = grind (arith, nat_tests)

letter_above : (c k : ℕ) → letter_power c ≡ Some k → 57 < c
letter_above c k e = ⊎_elim (λ l. l) (λ l. absurd (none_some k (sym (letter_none c (omega arith)) ∙ e))) (cases_lt 57 c)
  where
    none_some : (k : ℕ) → None ≡ Some k → ⊥
    none_some k e = cc

unit_none : (measure : Measure) (c : ℕ) → c ≢ 74 → c ≢ 87 → unit_factor measure c ≡ None
unit_none Joules c h k = ap (λ b. cond b (Some 1) None) (ne_eqb c 74 h)
unit_none Watts c h k = ap (λ b. cond b (Some 1) (cond (c == 74) (Some 60) None)) (ne_eqb c 87 k) ∙ ap (λ b. cond b (Some 60) None) (ne_eqb c 74 h)

eq_or_not : (c k : ℕ) → (c ≡ k) ⊎ (c ≢ k)
eq_or_not c k = by (c == k) refl
  where
    by : (b : Bool) → (c == k) ≡ b → (c ≡ k) ⊎ (c ≢ k)
    by true e = inl (eqb-true c k e)
    by false e = inr (is_not c k e)

-- a unit is J or W
pub unit_is : (measure : Measure) (c f : ℕ) → unit_factor measure c ≡ Some f → (c ≡ 74) ⊎ (c ≡ 87)
unit_is measure c f e =
    ⊎_elim inl (λ h. ⊎_elim inr (λ k. absurd (none_some f (sym (unit_none measure c h k) ∙ e))) (eq_or_not c 87)) (eq_or_not c 74)
  where
    none_some : (f : ℕ) → None ≡ Some f → ⊥
    none_some f e = cc

unit_above : (measure : Measure) (c f : ℕ) → unit_factor measure c ≡ Some f → 57 < c
unit_above measure c f e = ⊎_elim (λ h. omega (arith, h)) (λ h. omega (arith, h)) (unit_is measure c f e)

unit_no_letter : (c : ℕ) → (c ≡ 74) ⊎ (c ≡ 87) → letter_power c ≡ None
unit_no_letter c h = ⊎_elim (λ e. rw e refl) (λ e. rw e refl) h

pub tail_stop : (measure : Measure) (prefix : List ℕ) (unit k f : ℕ) → prefix_power prefix ≡ Some k → unit_factor measure unit ≡ Some f → IsStop (prefix ++ unit ∷ [])
tail_stop measure [] unit k f p u = unit_above measure unit f u
tail_stop measure (c ∷ []) unit k f p u = letter_above c k p
tail_stop measure (c ∷ d ∷ cs) unit k f p u = cc

pub tail_found : (measure : Measure) (prefix : List ℕ) (unit k f : ℕ) → prefix_power prefix ≡ Some k → unit_factor measure unit ≡ Some f → ((behind_prefix (prefix ++ unit ∷ [])).0 ≡ k) × ((behind_prefix (prefix ++ unit ∷ [])).1 ≡ unit ∷ [])
tail_found measure [] unit k f p u =
    let e : letter_power unit ≡ None = unit_no_letter unit (unit_is measure unit f u) in
    (ap (λ o. (behind_prefix_by o unit []).0) e ∙ same_Some 0 k p, ap (λ o. (behind_prefix_by o unit []).1) e)
tail_found measure (c ∷ []) unit k f p u = (ap (λ o. (behind_prefix_by o c (unit ∷ [])).0) p, ap (λ o. (behind_prefix_by o c (unit ∷ [])).1) p)
tail_found measure (c ∷ d ∷ cs) unit k f p u = cc

pub record HasPrefix (text : List ℕ) : Type 0 where
  pub prefix : List ℕ
  pub power_is : prefix_power prefix ≡ Some (behind_prefix text).0
  pub text_is : text ≡ prefix ++ (behind_prefix text).1

record PrefixBy (o : Option ℕ) (c : ℕ) (cs : List ℕ) : Type 0 where
  prefix : List ℕ
  power_is : prefix_power prefix ≡ Some (behind_prefix_by o c cs).0
  text_is : c ∷ cs ≡ prefix ++ (behind_prefix_by o c cs).1

prefix_by : (o : Option ℕ) (c : ℕ) (cs : List ℕ) → letter_power c ≡ o → PrefixBy o c cs
prefix_by None c cs e = record { prefix = []; power_is = refl; text_is = refl }
prefix_by (Some k) c cs e = record { prefix = c ∷ []; power_is = e; text_is = refl }

prefix_front : (text : List ℕ) → HasPrefix text
prefix_front [] = record { prefix = []; power_is = refl; text_is = refl }
prefix_front (c ∷ cs) =
    let h : PrefixBy (letter_power c) c cs = prefix_by (letter_power c) c cs refl in
    record { prefix = h.prefix; power_is = h.power_is; text_is = h.text_is }

record HasUnit (measure : Measure) (text : List ℕ) (f : ℕ) : Type 0 where
  unit : ℕ
  factor_is : unit_factor measure unit ≡ Some f
  text_is : text ≡ unit ∷ []

unit_front : (measure : Measure) (text : List ℕ) (f : ℕ) → factor_of measure text ≡ Some f → HasUnit measure text f
unit_front measure [] f e = cc
unit_front measure (c ∷ []) f e = record { unit = c; factor_is = e; text_is = refl }
unit_front measure (c ∷ d ∷ cs) f e = cc

-- ---- the one energy that a text writes
abbrev pub behind_number : List ℕ → List ℕ
behind_number text = drop (number_len text) text

pub energy_front : (measure : Measure) (text : List ℕ) (g : Energy) → IsEnergyOf measure (take (number_len text) text) (behind_number text) g → WritesEnergy measure text g
energy_front measure text g h =
    let p : HasPrefix (behind_number text) = prefix_front (behind_number text) in
    let u : HasUnit measure (behind_prefix (behind_number text)).1 g.factor = unit_front measure (behind_prefix (behind_number text)).1 g.factor h.factor_is in
    record {
      number_text = take (number_len text) text;
      prefix = p.prefix;
      unit = u.unit;
      number_is = h.number_is;
      prefix_is = p.power_is ∙ ap Some h.power_is;
      unit_is = u.factor_is;
      text_is = sym (take-append-drop (number_len text) text) ∙ ap (λ l. take (number_len text) text ++ l) (p.text_is ∙ ap (λ l. p.prefix ++ l) u.text_is);
    }

-- what the code finds of an energy
pub record IsFound (measure : Measure) (text : List ℕ) (e : Energy) : Type 0 where
  pub whole : whole_len text ≢ 0
  pub number_is : WritesNumber (take (number_len text) text) e.number
  pub power_is : (behind_prefix (behind_number text)).0 ≡ e.power
  pub factor_is : factor_of measure (behind_prefix (behind_number text)).1 ≡ Some e.factor

pub energy_found : (measure : Measure) (text : List ℕ) (e : Energy) → WritesEnergy measure text e → IsFound measure text e
energy_found measure text e w =
    let tail : List ℕ = w.prefix ++ w.unit ∷ [] in
    let stop : IsStop tail = tail_stop measure w.prefix w.unit e.power e.factor w.prefix_is w.unit_is in
    let len : number_len text ≡ length w.number_text = number_len_is text w.number_text tail e.number w.number_is stop w.text_is in
    let front : take (number_len text) text ≡ w.number_text = ap (λ k. take k text) len ∙ (ap (take (length w.number_text)) w.text_is ∙ take_front w.number_text tail) in
    let rest : behind_number text ≡ tail = ap (λ k. drop k text) len ∙ (ap (drop (length w.number_text)) w.text_is ∙ drop_front w.number_text tail) in
    let t : ((behind_prefix tail).0 ≡ e.power) × ((behind_prefix tail).1 ≡ w.unit ∷ []) = tail_found measure w.prefix w.unit e.power e.factor w.prefix_is w.unit_is in
    record {
      whole = begins_whole text (record { number_text = w.number_text; rest = tail; number = e.number; number_is = w.number_is; text_is = w.text_is });
      number_is = subst (λ (l : List ℕ). WritesNumber l e.number) (sym front) w.number_is;
      power_is = ap (λ l. (behind_prefix l).0) rest ∙ t.0;
      factor_is = ap (λ l. factor_of measure (behind_prefix l).1) rest ∙ (ap (factor_of measure) t.1 ∙ w.unit_is);
    }

pub same_number : (text : List ℕ) (m n : Numeral) → WritesNumber text m → WritesNumber text n → m ≡ n
same_number text m n v w = same_of (sym (numeral_found text m v.numeral) ∙ numeral_found text n w.numeral)
  where
    same_of : {a b : Numeral} → Some a ≡ Some b → a ≡ b
    same_of e = cc

same_energy : (e g : Energy) → e.number ≡ g.number → e.power ≡ g.power → e.factor ≡ g.factor → e ≡ g
same_energy e g a b c = ap (λ n. record { number = n; power = e.power; factor = e.factor }) a ∙ (ap (λ p. record { number = g.number; power = p; factor = e.factor }) b ∙ ap (λ f. record { number = g.number; power = g.power; factor = f }) c)

pub one_energy : (measure : Measure) (text : List ℕ) (e g : Energy) → WritesEnergy measure text e → WritesEnergy measure text g → e ≡ g
one_energy measure text e g v w =
    let p : IsFound measure text e = energy_found measure text e v in
    let q : IsFound measure text g = energy_found measure text g w in
    same_energy e g (same_number (take (number_len text) text) e.number g.number p.number_is q.number_is) (sym p.power_is ∙ q.power_is) (same_Some e.factor g.factor (sym p.factor_is ∙ q.factor_is))
