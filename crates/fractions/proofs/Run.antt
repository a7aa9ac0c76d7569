-- The run of digits at the front of a text.
use Rattle.std.specs.Prelude.{◌≡◌, ℕ, zero, suc, ◌<◌, ◌≤◌, Bool, true, false, cond, List, [], ◌∷◌, ◌++◌, length, take, drop}
use Rattle.std.specs.Int.{IsInRange}
use Rattle.std.specs.Char.{is_ascii_digit}
use Rattle.std.specs.Str.Parse.{AllDigits}
use Rattle.std.proofs.Common.{refl, ap, ◌∙◌, arith, get_or}
use Rattle.std.proofs.lemmas.Bool.Decides.{nat_tests}
use Rattle.std.proofs.lemmas.Str.Parse.{digit_from_value}
use Rattle.std.proofs.lemmas.Str.{digit_value_digit}
use Rattle.fractions.specs.Digits.{front_digits, behind_digits}

pub digit_true : (c : ℕ) → IsInRange 48 57 c → is_ascii_digit c ≡ true
digit_true c h = grind (arith, nat_tests)

pub digit_false : (c : ℕ) → ¬ IsInRange 48 57 c → is_ascii_digit c ≡ false
digit_false c h = grind (arith, nat_tests)

pub digit_from_true : (c : ℕ) → is_ascii_digit c ≡ true → IsInRange 48 57 c
digit_from_true c h = grind (arith, nat_tests)

-- up to e there are digits, and at e there is none
pub record EndsAt (text : List ℕ) (e : ℕ) : Type 0 where
  pub within : e ≤ length text
  pub digits : (k : ℕ) → k < e → IsInRange 48 57 (get_or text k 0)
  pub ends : e < length text → ¬ IsInRange 48 57 (get_or text e 0)

tail : (c : ℕ) (cs : List ℕ) (e : ℕ) → EndsAt (c ∷ cs) (suc e) → EndsAt cs e
tail c cs e h = record { within = omega (arith, h.within); digits = λ k l. h.digits (suc k) (omega arith); ends = λ l. h.ends (omega arith) }

pub front_from_end : (text : List ℕ) (e : ℕ) → EndsAt text e → (front_digits text ≡ take e text) × (behind_digits text ≡ drop e text)
front_from_end [] zero h = (refl, refl)
front_from_end [] (suc e) h = absurd (omega (arith, h.within))
front_from_end (c ∷ cs) zero h = let e : is_ascii_digit c ≡ false = digit_false c (h.ends (omega arith)) in (ap (λ b. cond b (c ∷ front_digits cs) []) e, ap (λ b. cond b (behind_digits cs) (c ∷ cs)) e)
front_from_end (c ∷ cs) (suc e) h =
    let d : is_ascii_digit c ≡ true = digit_true c (h.digits 0 (omega arith)) in
    let r : (front_digits cs ≡ take e cs) × (behind_digits cs ≡ drop e cs) = front_from_end cs e (tail c cs e h) in
    (ap (λ b. cond b (c ∷ front_digits cs) []) d ∙ ap (λ t. c ∷ t) r.0, ap (λ b. cond b (behind_digits cs) (c ∷ cs)) d ∙ r.1)

-- ---- the run and the rest make up the text
joined_by : (c : ℕ) (cs : List ℕ) (b : Bool) → front_digits cs ++ behind_digits cs ≡ cs → cond b (c ∷ front_digits cs) [] ++ cond b (behind_digits cs) (c ∷ cs) ≡ c ∷ cs
joined_by c cs true e = ap (λ t. c ∷ t) e
joined_by c cs false e = refl

pub front-behind : (text : List ℕ) → front_digits text ++ behind_digits text ≡ text
front-behind [] = refl
front-behind (c ∷ cs) = joined_by c cs (is_ascii_digit c) (front-behind cs)

digits_by : (c : ℕ) (cs : List ℕ) (b : Bool) → is_ascii_digit c ≡ b → AllDigits 10 (front_digits cs) → AllDigits 10 (cond b (c ∷ front_digits cs) [])
digits_by c cs true e h = (omega (arith, digit_value_digit c (digit_from_true c e), digit_from_true c e), h)
digits_by c cs false e h = tt

pub front_all_digits : (text : List ℕ) → AllDigits 10 (front_digits text)
front_all_digits [] = tt
front_all_digits (c ∷ cs) = digits_by c cs (is_ascii_digit c) refl (front_all_digits cs)

-- ---- digits before something that begins with none
abbrev pub NoDigitFirst : List ℕ → Type 0
NoDigitFirst [] = Unit {0}
NoDigitFirst (c ∷ cs) = is_ascii_digit c ≡ false

pub front-none : (text : List ℕ) → NoDigitFirst text → (front_digits text ≡ []) × (behind_digits text ≡ text)
front-none [] h = (refl, refl)
front-none (c ∷ cs) h = (ap (λ b. cond b (c ∷ front_digits cs) []) h, ap (λ b. cond b (behind_digits cs) (c ∷ cs)) h)

pub front-append : (ds text : List ℕ) → AllDigits 10 ds → NoDigitFirst text → (front_digits (ds ++ text) ≡ ds) × (behind_digits (ds ++ text) ≡ text)
front-append [] text h n = front-none text n
front-append (c ∷ cs) text h n =
    let d : is_ascii_digit c ≡ true = digit_true c (digit_from_value c h.0) in
    let r : (front_digits (cs ++ text) ≡ cs) × (behind_digits (cs ++ text) ≡ text) = front-append cs text h.1 n in
    (ap (λ b. cond b (c ∷ front_digits (cs ++ text)) []) d ∙ ap (λ t. c ∷ t) r.0, ap (λ b. cond b (behind_digits (cs ++ text)) (c ∷ (cs ++ text))) d ∙ r.1)

behind_by : (c : ℕ) (cs : List ℕ) (b : Bool) → is_ascii_digit c ≡ b → NoDigitFirst (behind_digits cs) → NoDigitFirst (cond b (behind_digits cs) (c ∷ cs))
behind_by c cs true e h = h
behind_by c cs false e h = e

pub behind_no_digit : (text : List ℕ) → NoDigitFirst (behind_digits text)
behind_no_digit [] = tt
behind_no_digit (c ∷ cs) = behind_by c cs (is_ascii_digit c) refl (behind_no_digit cs)
