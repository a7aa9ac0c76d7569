-- The readers take a text apart as the grammar of numerals says: `numeral_of` is the one numeral that it writes.
use Rattle.std.specs.Prelude.{◌≡◌, ◌≢◌, ℕ, ◌<◌, Bool, true, false, not, cond, ◌||◌, ◌&&◌, ◌==◌, List, [], ◌∷◌, ◌++◌, length, Option, Some, None, ◌⊎◌}
use Rattle.std.specs.Char.{is_ascii_digit}
use Rattle.std.specs.Int.{IsInRange}
use Rattle.std.specs.Str.Parse.{AllDigits, digits_value, starts_with_minus}
use Rattle.std.proofs.Common.{refl, sym, ap, subst, ◌∙◌, arith, inl, inr, ⊎_elim, eqb-true, append-nil, ne_eqb}
use Rattle.std.proofs.Math.Nat.{one-le-pow}
use Rattle.std.proofs.lemmas.Str.Parse.{digit_from_value}
use Rattle.fractions.specs.Digits.{front_digits, behind_digits}
use Rattle.fractions.specs.Numeral.{Numeral, Writes, IsWholePart, IsPowerSign, IsPowerText, HasPower, sign_text, part_text}
use Rattle.fractions.specs.Split.{behind_minus, behind_sign, is_whole, at_least_one, part_of, only_digits, signed_digits, power_of, with_power, with_part, unsigned_of, numeral_of, is_nothing, is_denominator, with_slash, quotient_of}
use Rattle.fractions.specs.Quotient.{Quotient, WritesQuotient}
use Rattle.fractions.proofs.Significant.{value-ge}
use Rattle.fractions.proofs.Run.{front-behind, front_all_digits, front-append, NoDigitFirst, digit_false}

-- ---- what is taken apart makes up the text
minus_by : (c : ℕ) (cs : List ℕ) (b : Bool) → (c == 45) ≡ b → c ∷ cs ≡ sign_text b ++ cond b cs (c ∷ cs)
minus_by c cs true e = ap (λ k. k ∷ cs) (eqb-true c 45 e)
minus_by c cs false e = refl

pub minus-behind : (text : List ℕ) → text ≡ sign_text (starts_with_minus text) ++ behind_minus text
minus-behind [] = refl
minus-behind (c ∷ cs) = minus_by c cs (c == 45) refl

abbrev HasSign : List ℕ → Bool → List ℕ → Type 0
HasSign text negative rest = (sign : List ℕ) × IsPowerSign sign negative × (text ≡ sign ++ rest)

sign_by : (c : ℕ) (cs : List ℕ) (a b : Bool) → (c == 45) ≡ a → (c == 43) ≡ b → HasSign (c ∷ cs) a (cond (a || b) cs (c ∷ cs))
sign_by c cs true b e f = (45 ∷ [], refl, ap (λ k. k ∷ cs) (eqb-true c 45 e))
sign_by c cs false true e f = (43 ∷ [], inr refl, ap (λ k. k ∷ cs) (eqb-true c 43 f))
sign_by c cs false false e f = ([], inl refl, refl)

sign-behind : (text : List ℕ) → HasSign text (starts_with_minus text) (behind_sign text)
sign-behind [] = ([], inl refl, refl)
sign-behind (c ∷ cs) = sign_by c cs (c == 45) (c == 43) refl refl

record OnlyDigits (negative : Bool) (ds rest : List ℕ) (p : Bool × List ℕ) : Type 0 where
  sign_is : p.0 ≡ negative
  digits_are : p.1 ≡ ds
  nothing_behind : rest ≡ []
  some : 0 < length ds

only_sound : (negative : Bool) (ds rest : List ℕ) (p : Bool × List ℕ) → only_digits negative ds rest ≡ Some p → OnlyDigits negative ds rest p
only_sound negative [] rest p e = cc
only_sound negative (c ∷ cs) (d ∷ ds) p e = cc
only_sound negative (c ∷ cs) [] p e =
    let same : p ≡ (negative, c ∷ cs) = cc in
    record { sign_is = ap (λ (q : Bool × List ℕ). q.0) same; digits_are = ap (λ (q : Bool × List ℕ). q.1) same; nothing_behind = refl; some = omega arith }

power_at : (m : ℕ) (cs ds : List ℕ) (negative : Bool) (p : Bool × List ℕ) → (m ≡ 101) ⊎ (m ≡ 69) → HasSign cs negative ds → OnlyDigits negative (front_digits ds) (behind_digits ds) p → HasPower (m ∷ cs) p.0 p.1
power_at m cs ds negative p mark h o =
    record {
      mark = m;
      sign = h.0;
      mark_is = mark;
      sign_is = subst (λ (b : Bool). IsPowerSign h.0 b) (sym o.sign_is) h.1;
      digits = subst (AllDigits 10) (sym o.digits_are) (front_all_digits ds);
      some = subst (λ (l : List ℕ). 0 < length l) (sym o.digits_are) o.some;
      text_is = ap (λ t. m ∷ t) (h.2 ∙ ap (λ t. h.0 ++ t) (sym (front-behind ds) ∙ (ap (λ t. front_digits ds ++ t) o.nothing_behind ∙ (append-nothing (front_digits ds) ∙ sym o.digits_are))));
    }
  where
    append-nothing : (l : List ℕ) → l ++ [] ≡ l
    append-nothing [] = refl
    append-nothing (x ∷ xs) = ap (λ t. x ∷ t) (append-nothing xs)

mark_by : (m : ℕ) (a b : Bool) → (m == 101) ≡ a → (m == 69) ≡ b → (a || b) ≡ true → (m ≡ 101) ⊎ (m ≡ 69)
mark_by m true b e f h = inl (eqb-true m 101 e)
mark_by m false true e f h = inr (eqb-true m 69 f)
mark_by m false false e f h = cc

power_by : (m : ℕ) (cs : List ℕ) (b : Bool) → (m == 101 || m == 69) ≡ b → (p : Bool × List ℕ) → cond b (signed_digits cs) None ≡ Some p → IsPowerText (m ∷ cs) p.0 p.1
power_by m cs true e p h =
    inr (power_at m cs (behind_sign cs) (starts_with_minus cs) p (mark_by m (m == 101) (m == 69) refl refl e) (sign-behind cs) (only_sound _ _ _ p h))
power_by m cs false e p h = cc

power_sound : (text : List ℕ) (p : Bool × List ℕ) → power_of text ≡ Some p → IsPowerText text p.0 p.1
power_sound [] p e = let same : p ≡ (false, []) = cc in inl (refl, ap (λ (q : Bool × List ℕ). q.0) same, ap (λ (q : Bool × List ℕ). q.1) same)
power_sound (m ∷ cs) p e = power_by m cs (m == 101 || m == 69) refl p e

record IsPart (text : List ℕ) (p : List ℕ × List ℕ) : Type 0 where
  digits : AllDigits 10 p.0
  text_is : text ≡ part_text p.0 ++ p.1

some_digits : (c : ℕ) (cs ds rest : List ℕ) → c ≡ 46 → AllDigits 10 ds → ds ++ rest ≡ cs → (p : List ℕ × List ℕ) → at_least_one ds rest ≡ Some p → IsPart (c ∷ cs) p
some_digits c cs [] rest m h j p e = cc
some_digits c cs (d ∷ ds) rest m h j p e =
    let same : (d ∷ ds, rest) ≡ p = cc in
    subst (IsPart (c ∷ cs)) same (record { digits = h; text_is = ap (λ k. k ∷ cs) m ∙ ap (λ t. 46 ∷ t) (sym j) })

part_by : (c : ℕ) (cs : List ℕ) (b : Bool) → (c == 46) ≡ b → (p : List ℕ × List ℕ) → cond b (at_least_one (front_digits cs) (behind_digits cs)) (Some ([], c ∷ cs)) ≡ Some p → IsPart (c ∷ cs) p
part_by c cs true e p h = some_digits c cs (front_digits cs) (behind_digits cs) (eqb-true c 46 e) (front_all_digits cs) (front-behind cs) p h
part_by c cs false e p h = let same : ([], c ∷ cs) ≡ p = cc in subst (IsPart (c ∷ cs)) same (record { digits = tt; text_is = refl })

part_sound : (text : List ℕ) (p : List ℕ × List ℕ) → part_of text ≡ Some p → IsPart text p
part_sound [] p e = let same : ([], []) ≡ p = cc in subst (IsPart []) same (record { digits = tt; text_is = refl })
part_sound (c ∷ cs) p e = part_by c cs (c == 46) refl p e

pub whole_sound : (ds : List ℕ) → AllDigits 10 ds → is_whole ds ≡ true → IsWholePart ds
whole_sound [] h e = cc
whole_sound (c ∷ []) h e = record { digits = h; some = omega arith; no_leading_zero = λ z. refl }
whole_sound (c ∷ d ∷ ds) h e =
    record { digits = h; some = omega arith; no_leading_zero = λ z. absurd (nonzero c z e) }
  where
    nonzero : (c : ℕ) → c ≡ 48 → not (c == 48) ≡ true → ⊥
    nonzero c z e = let f : not (48 == 48) ≡ true = ap (λ k. not (k == 48)) (sym z) ∙ e in cc

record WritesUnsigned (negative : Bool) (text : List ℕ) (n : Numeral) : Type 0 where
  power_text : List ℕ
  sign_is : n.negative ≡ negative
  whole_is : IsWholePart n.whole
  part_is : AllDigits 10 n.part
  power_is : IsPowerText power_text n.power_negative n.power
  text_is : text ≡ n.whole ++ (part_text n.part ++ power_text)

power_step : (negative : Bool) (text whole behind part rest : List ℕ) (o : Option (Bool × List ℕ)) (n : Numeral) → IsWholePart whole → text ≡ whole ++ behind → behind ≡ part_text part ++ rest → AllDigits 10 part → power_of rest ≡ o → with_power negative whole part o ≡ Some n → WritesUnsigned negative text n
power_step negative text whole behind part rest None n w t b d e h = cc
power_step negative text whole behind part rest (Some p) n w t b d e h =
    let same : record { negative = negative; whole = whole; part = part; power_negative = p.0; power = p.1 } ≡ n = cc in
    subst (WritesUnsigned negative text) same
    (record { power_text = rest; sign_is = refl; whole_is = w; part_is = d; power_is = power_sound rest p e; text_is = t ∙ ap (λ s. whole ++ s) b })

part_step : (negative : Bool) (text whole behind : List ℕ) (o : Option (List ℕ × List ℕ)) (n : Numeral) → IsWholePart whole → text ≡ whole ++ behind → part_of behind ≡ o → with_part negative whole o ≡ Some n → WritesUnsigned negative text n
part_step negative text whole behind None n w t e h = cc
part_step negative text whole behind (Some p) n w t e h =
    let q : IsPart behind p = part_sound behind p e in
    power_step negative text whole behind p.0 p.1 (power_of p.1) n w t q.text_is q.digits refl h

whole_step : (negative : Bool) (text : List ℕ) (b : Bool) (n : Numeral) → is_whole (front_digits text) ≡ b → cond b (with_part negative (front_digits text) (part_of (behind_digits text))) None ≡ Some n → WritesUnsigned negative text n
whole_step negative text false n e h = cc
whole_step negative text true n e h =
    part_step negative text (front_digits text) (behind_digits text) (part_of (behind_digits text)) n (whole_sound _ (front_all_digits text) e) (sym (front-behind text)) refl h

signed_writes : (text rest : List ℕ) (negative : Bool) (n : Numeral) → text ≡ sign_text negative ++ rest → WritesUnsigned negative rest n → Writes text n
signed_writes text rest negative n t w =
    record {
      power_text = w.power_text;
      whole_is = w.whole_is;
      part_is = w.part_is;
      power_is = w.power_is;
      text_is = t ∙ (ap (λ b. sign_text b ++ rest) (sym w.sign_is) ∙ ap (λ s. sign_text n.negative ++ s) w.text_is);
    }

pub numeral_sound : (text : List ℕ) (n : Numeral) → numeral_of text ≡ Some n → Writes text n
numeral_sound text n e =
    signed_writes text (behind_minus text) (starts_with_minus text) n (minus-behind text) (whole_step (starts_with_minus text) (behind_minus text) (is_whole (front_digits (behind_minus text))) n refl e)

-- ---- and whatever the text writes is found
not_byte : (c k : ℕ) → IsInRange 48 57 c → k < 48 → (c == k) ≡ false
not_byte c k h l = ne_eqb c k (λ e. omega (arith, h, l, e))

-- a sign and what stands behind it are told apart where that is a whole part and more
pub minus_found : (negative : Bool) (whole rest : List ℕ) → IsWholePart whole → (starts_with_minus (sign_text negative ++ (whole ++ rest)) ≡ negative) × (behind_minus (sign_text negative ++ (whole ++ rest)) ≡ whole ++ rest)
minus_found true whole rest w = (refl, refl)
minus_found false [] rest w = absurd (omega (arith, w.some))
minus_found false (c ∷ cs) rest w =
    let e : (c == 45) ≡ false = not_byte c 45 (digit_from_value c w.digits.0) (omega arith) in
    (e, ap (λ b. cond b (cs ++ rest) (c ∷ (cs ++ rest))) e)

pub whole_found : (ds : List ℕ) → IsWholePart ds → is_whole ds ≡ true
whole_found [] w = absurd (omega (arith, w.some))
whole_found (c ∷ []) w = refl
whole_found (c ∷ d ∷ ds) w = ap not (ne_eqb c 48 (λ e. absurd (omega (arith, w.no_leading_zero e))))

-- the first byte of an exponent
abbrev pub PowerFirst : List ℕ → Type 0
PowerFirst [] = Unit {0}
PowerFirst (c ∷ cs) = (c ≡ 101) ⊎ (c ≡ 69)

power_first : (text : List ℕ) (negative : Bool) (ds : List ℕ) → IsPowerText text negative ds → PowerFirst text
power_first text negative ds h =
    ⊎_elim (λ k. subst PowerFirst (sym k.0) tt) (λ k. subst PowerFirst (sym k.text_is) k.mark_is) h

pub letter_no_digit : (c : ℕ) → 57 < c → is_ascii_digit c ≡ false
letter_no_digit c h = digit_false c (λ r. omega (arith, r, h))

mark_above : (c : ℕ) → (c ≡ 101) ⊎ (c ≡ 69) → 57 < c
mark_above c h = ⊎_elim (λ e. omega (arith, e)) (λ e. omega (arith, e)) h

power_no_digit : (text : List ℕ) → PowerFirst text → NoDigitFirst text
power_no_digit [] h = tt
power_no_digit (c ∷ cs) h = letter_no_digit c (mark_above c h)

part_no_digit : (part text : List ℕ) → PowerFirst text → NoDigitFirst (part_text part ++ text)
part_no_digit [] text h = power_no_digit text h
part_no_digit (c ∷ cs) text h = digit_false 46 (λ r. omega (arith, r))

part_found : (part text : List ℕ) → AllDigits 10 part → PowerFirst text → part_of (part_text part ++ text) ≡ Some (part, text)
part_found [] [] d h = refl
part_found [] (c ∷ cs) d h = ap (λ b. cond b (at_least_one (front_digits cs) (behind_digits cs)) (Some ([], c ∷ cs))) (ne_eqb c 46 (λ e. omega (arith, e, mark_above c h)))
part_found (c ∷ cs) text d h =
    let r : (front_digits ((c ∷ cs) ++ text) ≡ c ∷ cs) × (behind_digits ((c ∷ cs) ++ text) ≡ text) = front-append (c ∷ cs) text d (power_no_digit text h) in
    ap (λ f. at_least_one f (behind_digits ((c ∷ cs) ++ text))) r.0 ∙ ap (at_least_one (c ∷ cs)) r.1

sign_found : (sign ds : List ℕ) (negative : Bool) → IsPowerSign sign negative → AllDigits 10 ds → 0 < length ds → (starts_with_minus (sign ++ ds) ≡ negative) × (behind_sign (sign ++ ds) ≡ ds)
sign_found sign ds true h d some = rw h (refl, refl)
sign_found sign ds false h d some =
    ⊎_elim
    (λ e. rw e (bare ds d some))
    (λ e. rw e (refl, refl))
    h
  where
    bare : (ds : List ℕ) → AllDigits 10 ds → 0 < length ds → (starts_with_minus ds ≡ false) × (behind_sign ds ≡ ds)
    bare [] d some = absurd (omega arith)
    bare (c ∷ cs) d some =
        let e : (c == 45) ≡ false = not_byte c 45 (digit_from_value c d.0) (omega arith) in
        let f : (c == 43) ≡ false = not_byte c 43 (digit_from_value c d.0) (omega arith) in
        (e, ap (λ b. cond (b || (c == 43)) cs (c ∷ cs)) e ∙ ap (λ b. cond b cs (c ∷ cs)) f)

only_found : (negative : Bool) (ds : List ℕ) → 0 < length ds → only_digits negative ds [] ≡ Some (negative, ds)
only_found negative [] some = absurd (omega arith)
only_found negative (c ∷ cs) some = refl

digits_found : (negative : Bool) (ds : List ℕ) → AllDigits 10 ds → 0 < length ds → only_digits negative (front_digits ds) (behind_digits ds) ≡ Some (negative, ds)
digits_found negative ds d some =
    let r : (front_digits (ds ++ []) ≡ ds) × (behind_digits (ds ++ []) ≡ []) = front-append ds [] d tt in
    let f : front_digits ds ≡ ds = ap front_digits (sym (append-nil ds)) ∙ r.0 in
    let b : behind_digits ds ≡ [] = ap behind_digits (sym (append-nil ds)) ∙ r.1 in
    ap (λ x. only_digits negative x (behind_digits ds)) f ∙ (ap (only_digits negative ds) b ∙ only_found negative ds some)

mark_found : (m : ℕ) → (m ≡ 101) ⊎ (m ≡ 69) → (m == 101 || m == 69) ≡ true
mark_found m h = ⊎_elim (λ e. rw e refl) (λ e. rw e refl) h

power_found_at : (text : List ℕ) (negative : Bool) (ds : List ℕ) → HasPower text negative ds → power_of text ≡ Some (negative, ds)
power_found_at text negative ds h =
    let s : (starts_with_minus (h.sign ++ ds) ≡ negative) × (behind_sign (h.sign ++ ds) ≡ ds) = sign_found h.sign ds negative h.sign_is h.digits h.some in
    ap power_of h.text_is
    ∙ (ap (λ b. cond b (signed_digits (h.sign ++ ds)) None) (mark_found h.mark h.mark_is)
    ∙ (ap (λ b. only_digits b (front_digits (behind_sign (h.sign ++ ds))) (behind_digits (behind_sign (h.sign ++ ds)))) s.0
    ∙ (ap (λ t. only_digits negative (front_digits t) (behind_digits t)) s.1
    ∙ digits_found negative ds h.digits h.some)))

power_found : (text : List ℕ) (negative : Bool) (ds : List ℕ) → IsPowerText text negative ds → power_of text ≡ Some (negative, ds)
power_found text negative ds h =
    ⊎_elim (λ k. ap power_of k.0 ∙ (ap (λ b. Some (b, [])) (sym k.1) ∙ ap (λ l. Some (negative, l)) (sym k.2))) (power_found_at text negative ds) h

unsigned_found : (n : Numeral) (text : List ℕ) → IsWholePart n.whole → AllDigits 10 n.part → IsPowerText text n.power_negative n.power → unsigned_of n.negative (n.whole ++ (part_text n.part ++ text)) ≡ Some n
unsigned_found n text w d h =
    let first : PowerFirst text = power_first text n.power_negative n.power h in
    let r : (front_digits (n.whole ++ (part_text n.part ++ text)) ≡ n.whole) × (behind_digits (n.whole ++ (part_text n.part ++ text)) ≡ part_text n.part ++ text) = front-append n.whole (part_text n.part ++ text) w.digits (part_no_digit n.part text first) in
    ap (λ f. cond (is_whole f) (with_part n.negative f (part_of (behind_digits (n.whole ++ (part_text n.part ++ text))))) None) r.0
    ∙ (ap (λ b. cond b (with_part n.negative n.whole (part_of (behind_digits (n.whole ++ (part_text n.part ++ text))))) None) (whole_found n.whole w)
    ∙ (ap (λ t. with_part n.negative n.whole (part_of t)) r.1
    ∙ (ap (with_part n.negative n.whole) (part_found n.part text d first)
    ∙ ap (with_power n.negative n.whole n.part) (power_found text n.power_negative n.power h))))

pub numeral_found : (text : List ℕ) (n : Numeral) → Writes text n → numeral_of text ≡ Some n
numeral_found text n w =
    let m : (starts_with_minus (sign_text n.negative ++ (n.whole ++ (part_text n.part ++ w.power_text))) ≡ n.negative) × (behind_minus (sign_text n.negative ++ (n.whole ++ (part_text n.part ++ w.power_text))) ≡ n.whole ++ (part_text n.part ++ w.power_text)) = minus_found n.negative n.whole (part_text n.part ++ w.power_text) w.whole_is in
    ap numeral_of w.text_is
    ∙ (ap (λ b. unsigned_of b (behind_minus (sign_text n.negative ++ (n.whole ++ (part_text n.part ++ w.power_text))))) m.0
    ∙ (ap (unsigned_of n.negative) m.1 ∙ unsigned_found n w.power_text w.whole_is w.part_is w.power_is))

pub power_digits : (text : List ℕ) (negative : Bool) (ds : List ℕ) → IsPowerText text negative ds → AllDigits 10 ds
power_digits text negative ds h = ⊎_elim (λ k. subst (AllDigits 10) (sym k.2) tt) (λ k. k.digits) h

-- ---- quotients
denominator_by : (c : ℕ) (cs : List ℕ) (a : Bool) (rest : List ℕ) → (c == 48) ≡ a → (not a && is_nothing rest) ≡ true → (c ≢ 48) × (rest ≡ [])
denominator_by c cs true rest e h = cc
denominator_by c cs false [] e h = (λ z. let f : (48 == 48) ≡ false = ap (λ k. k == 48) (sym z) ∙ e in cc, refl)
denominator_by c cs false (d ∷ ds) e h = cc

all_front : (text : List ℕ) → behind_digits text ≡ [] → AllDigits 10 text
all_front text e =
    subst (AllDigits 10) (sym (append-nil (front_digits text)) ∙ (ap (λ t. front_digits text ++ t) (sym e) ∙ front-behind text)) (front_all_digits text)

pub denominator_sound : (ds : List ℕ) → is_denominator ds ≡ true → IsWholePart ds × (0 < digits_value 10 ds)
denominator_sound [] e = cc
denominator_sound (c ∷ cs) e =
    let h : (c ≢ 48) × (behind_digits (c ∷ cs) ≡ []) = denominator_by c cs (c == 48) (behind_digits (c ∷ cs)) refl e in
    let d : AllDigits 10 (c ∷ cs) = all_front (c ∷ cs) h.1 in (
      record { digits = d; some = omega arith; no_leading_zero = λ z. absurd (h.0 z) },
      omega (arith, value-ge (c ∷ cs) (length cs) d h.0 refl, one-le-pow (length cs) 10 (omega arith)),
    )

zero_alone : (c : ℕ) (cs : List ℕ) → c ≡ 48 → length (c ∷ cs) ≡ 1 → digits_value 10 (c ∷ cs) ≡ 0
zero_alone c [] e l = rw e refl
zero_alone c (d ∷ ds) e l = absurd (omega arith)

pub denominator_found : (ds : List ℕ) → IsWholePart ds → 0 < digits_value 10 ds → is_denominator ds ≡ true
denominator_found [] w h = absurd (omega (arith, w.some))
denominator_found (c ∷ cs) w h =
    let r : (front_digits ((c ∷ cs) ++ []) ≡ c ∷ cs) × (behind_digits ((c ∷ cs) ++ []) ≡ []) = front-append (c ∷ cs) [] w.digits tt in
    let b : behind_digits (c ∷ cs) ≡ [] = ap behind_digits (sym (append-nil (c ∷ cs))) ∙ r.1 in
    let e : (c == 48) ≡ false = ne_eqb c 48 (λ z. absurd (omega (arith, zero_alone c cs z (w.no_leading_zero z), h))) in
    ap (λ k. not k && is_nothing (behind_digits (c ∷ cs))) e ∙ ap is_nothing b

quotient_by : (text top cs : List ℕ) (negative : Bool) (c : ℕ) (a b d : Bool) (q : Quotient) → text ≡ sign_text negative ++ (top ++ c ∷ cs) → AllDigits 10 top → (c == 47) ≡ a → is_whole top ≡ b → is_denominator cs ≡ d → cond (a && b && d) (Some (record { negative = negative; top = top; bottom = cs })) None ≡ Some q → WritesQuotient text q
quotient_by text top cs negative c true true true q t h ea eb ed e =
    let same : record { negative = negative; top = top; bottom = cs } ≡ q = cc in
    let w : IsWholePart cs × (0 < digits_value 10 cs) = denominator_sound cs ed in
    subst (WritesQuotient text) same
    (record { top_is = whole_sound top h eb; bottom_is = w.0; nonzero = w.1; text_is = t ∙ ap (λ k. sign_text negative ++ (top ++ k ∷ cs)) (eqb-true c 47 ea) })
quotient_by text top cs negative c true true false q t h ea eb ed e = cc
quotient_by text top cs negative c true false d q t h ea eb ed e = cc
quotient_by text top cs negative c false b d q t h ea eb ed e = cc

quotient_at : (text top rest : List ℕ) (negative : Bool) (q : Quotient) → text ≡ sign_text negative ++ (top ++ rest) → AllDigits 10 top → with_slash negative top rest ≡ Some q → WritesQuotient text q
quotient_at text top [] negative q t h e = cc
quotient_at text top (c ∷ cs) negative q t h e = quotient_by text top cs negative c (c == 47) (is_whole top) (is_denominator cs) q t h refl refl refl e

pub quotient_sound : (text : List ℕ) (q : Quotient) → quotient_of text ≡ Some q → WritesQuotient text q
quotient_sound text q e =
    quotient_at text (front_digits (behind_minus text)) (behind_digits (behind_minus text)) (starts_with_minus text) q
    (minus-behind text ∙ ap (λ t. sign_text (starts_with_minus text) ++ t) (sym (front-behind (behind_minus text))))
    (front_all_digits (behind_minus text)) e

-- the parts of a quotient's text
record HasSlash (text : List ℕ) (q : Quotient) : Type 0 where
  minus : starts_with_minus text ≡ q.negative
  top : front_digits (behind_minus text) ≡ q.top
  rest : behind_digits (behind_minus text) ≡ 47 ∷ q.bottom

slash_found : (text : List ℕ) (q : Quotient) → WritesQuotient text q → HasSlash text q
slash_found text q w =
    let t : List ℕ = sign_text q.negative ++ (q.top ++ 47 ∷ q.bottom) in
    let m : (starts_with_minus t ≡ q.negative) × (behind_minus t ≡ q.top ++ 47 ∷ q.bottom) = minus_found q.negative q.top (47 ∷ q.bottom) w.top_is in
    let r : (front_digits (q.top ++ 47 ∷ q.bottom) ≡ q.top) × (behind_digits (q.top ++ 47 ∷ q.bottom) ≡ 47 ∷ q.bottom) = front-append q.top (47 ∷ q.bottom) w.top_is.digits (digit_false 47 (λ k. omega (arith, k))) in
    record {
      minus = ap starts_with_minus w.text_is ∙ m.0;
      top = ap (λ s. front_digits (behind_minus s)) w.text_is ∙ (ap front_digits m.1 ∙ r.0);
      rest = ap (λ s. behind_digits (behind_minus s)) w.text_is ∙ (ap behind_digits m.1 ∙ r.1);
    }

pub quotient_found : (text : List ℕ) (q : Quotient) → WritesQuotient text q → quotient_of text ≡ Some q
quotient_found text q w =
    let h : HasSlash text q = slash_found text q w in
    ap (λ b. with_slash b (front_digits (behind_minus text)) (behind_digits (behind_minus text))) h.minus
    ∙ (ap (λ t. with_slash q.negative t (behind_digits (behind_minus text))) h.top
    ∙ (ap (with_slash q.negative q.top) h.rest
    ∙ (ap (λ b. cond (b && is_denominator q.bottom) (Some q) None) (whole_found q.top w.top_is)
    ∙ ap (λ b. cond b (Some q) None) (denominator_found q.bottom w.bottom_is w.nonzero))))

-- no text is both
unsigned_none : (negative : Bool) (text rest : List ℕ) (b : Bool) → behind_digits text ≡ 47 ∷ rest → cond b (with_part negative (front_digits text) (part_of (behind_digits text))) None ≡ None
unsigned_none negative text rest false e = refl
unsigned_none negative text rest true e = ap (λ t. with_part negative (front_digits text) (part_of t)) e

pub quotient_no_numeral : (text : List ℕ) (q : Quotient) → WritesQuotient text q → numeral_of text ≡ None
quotient_no_numeral text q w = unsigned_none (starts_with_minus text) (behind_minus text) q.bottom (is_whole (front_digits (behind_minus text))) (slash_found text q w).rest
