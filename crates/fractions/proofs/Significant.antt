-- The digits from the first nonzero one on, and what the readers keep of them.
use Rattle.std.specs.Prelude.{◌≡◌, ◌≢◌, ℕ, zero, suc, ◌+◌, ◌-◌, ◌*◌, ◌/◌, ◌^◌, ◌<◌, ◌≤◌, Bool, true, false, cond, ◌==◌, List, [], ◌∷◌, ◌++◌, length, take, drop}
use Rattle.std.specs.Char.{digit_value}
use Rattle.std.specs.Int.{IsInRange}
use Rattle.std.specs.Str.Parse.{AllDigits, digits_value, digits_value_after}
use Rattle.std.proofs.Common.{refl, sym, ap, subst, ◌∙◌, arith, eqb-true, length-append}
use Rattle.std.proofs.Math.Nat.{mul-le-mul_right, pow-suc, pow-le-pow_right}
use Rattle.std.proofs.lemmas.Nat.{div-mul-add}
use Rattle.std.proofs.lemmas.Bool.Decides.{nat_tests}
use Rattle.std.proofs.lemmas.List.{take-append-le, take-append-drop, length-take-le, take_all}
use Rattle.std.proofs.lemmas.Str.{digit_value_digit}
use Rattle.std.proofs.lemmas.Str.Parse.{digit_from_value}
use Rattle.std.proofs.lemmas.Int.Digits.{digits_value_push, digits_value-lt}
use Rattle.fractions.specs.Numeral.{significant}
use Rattle.fractions.specs.Leading.{IsLeading}
use Rattle.fractions.specs.declared.numeral.Leading.{Leading}

-- ---- parts of a list of digits
pub AllDigits-append : (xs ys : List ℕ) → AllDigits 10 xs → AllDigits 10 ys → AllDigits 10 (xs ++ ys)
AllDigits-append [] ys p q = q
AllDigits-append (c ∷ cs) ys p q = (p.0, AllDigits-append cs ys p.1 q)

pub AllDigits-take : (k : ℕ) (xs : List ℕ) → AllDigits 10 xs → AllDigits 10 (take k xs)
AllDigits-take zero xs p = tt
AllDigits-take (suc k) [] p = tt
AllDigits-take (suc k) (c ∷ cs) p = (p.0, AllDigits-take k cs p.1)

pub AllDigits-drop : (k : ℕ) (xs : List ℕ) → AllDigits 10 xs → AllDigits 10 (drop k xs)
AllDigits-drop zero xs p = p
AllDigits-drop (suc k) [] p = tt
AllDigits-drop (suc k) (c ∷ cs) p = AllDigits-drop k cs p.1

digits_by : (c : ℕ) (cs : List ℕ) (b : Bool) → AllDigits 10 (c ∷ cs) → AllDigits 10 (significant cs) → AllDigits 10 (cond b (significant cs) (c ∷ cs))
digits_by c cs true p q = q
digits_by c cs false p q = p

pub AllDigits-significant : (xs : List ℕ) → AllDigits 10 xs → AllDigits 10 (significant xs)
AllDigits-significant [] p = tt
AllDigits-significant (c ∷ cs) p = digits_by c cs (c == 48) p (AllDigits-significant cs p.1)

length_by : (c : ℕ) (cs : List ℕ) (b : Bool) → length (significant cs) ≤ length cs → length (cond b (significant cs) (c ∷ cs)) ≤ suc (length cs)
length_by c cs true h = omega (arith, h)
length_by c cs false h = omega arith

pub length-significant-le : (xs : List ℕ) → length (significant xs) ≤ length xs
length-significant-le [] = omega arith
length-significant-le (c ∷ cs) = length_by c cs (c == 48) (length-significant-le cs)

-- ---- leading zeros add nothing to the value
zero_digit : (c : ℕ) → c ≡ 48 → digit_value c ≡ 0
zero_digit c e = rw e refl

value_by : (c : ℕ) (cs : List ℕ) (b : Bool) → (c == 48) ≡ b → digits_value 10 (significant cs) ≡ digits_value 10 cs → digits_value 10 (cond b (significant cs) (c ∷ cs)) ≡ digits_value 10 (c ∷ cs)
value_by c cs true e h = h ∙ ap (λ k. digits_value_after 10 k cs) (omega (arith, zero_digit c (eqb-true c 48 e)))
value_by c cs false e h = refl

pub value-significant : (xs : List ℕ) → digits_value 10 (significant xs) ≡ digits_value 10 xs
value-significant [] = refl
value-significant (c ∷ cs) = value_by c cs (c == 48) refl (value-significant cs)

-- ---- how large the value is
pub after-ge : (n : ℕ) (ds : List ℕ) → n * 10 ^ length ds ≤ digits_value_after 10 n ds
after-ge n [] = omega arith
after-ge n (c ∷ cs) =
    let h : (n * 10 + digit_value c) * 10 ^ length cs ≤ digits_value_after 10 (n * 10 + digit_value c) cs = after-ge (n * 10 + digit_value c) cs in
    let e : n * 10 ^ length (c ∷ cs) ≡ n * (10 ^ length cs * 10) = ap (λ k. n * k) (pow-suc 10 (length cs)) in
    omega (arith, h, e)

-- the first digit is not 0
abbrev pub NonzeroFirst : List ℕ → Type 0
NonzeroFirst [] = Unit {0}
NonzeroFirst (c ∷ cs) = c ≢ 48

first_by : (c : ℕ) (cs : List ℕ) (b : Bool) → (c == 48) ≡ b → NonzeroFirst (significant cs) → NonzeroFirst (cond b (significant cs) (c ∷ cs))
first_by c cs true e h = h
first_by c cs false e h = λ z. let f : (48 == 48) ≡ false = ap (λ k. k == 48) (sym z) ∙ e in cc

pub significant_first : (xs : List ℕ) → NonzeroFirst (significant xs)
significant_first [] = tt
significant_first (c ∷ cs) = first_by c cs (c == 48) refl (significant_first cs)

pub value-ge : (ds : List ℕ) (k : ℕ) → AllDigits 10 ds → NonzeroFirst ds → length ds ≡ suc k → 10 ^ k ≤ digits_value 10 ds
value-ge [] k p n e = absurd (omega arith)
value-ge (c ∷ cs) k p n e =
    let r : IsInRange 48 57 c = digit_from_value c p.0 in
    let one : 1 ≤ 0 * 10 + digit_value c = omega (arith, r, digit_value_digit c r, n) in
    let m : 1 * 10 ^ length cs ≤ (0 * 10 + digit_value c) * 10 ^ length cs = mul-le-mul_right (10 ^ length cs) one in
    let same : 10 ^ length cs ≡ 10 ^ k = ap (λ j. 10 ^ j) (omega arith) in
    omega (arith, after-ge (0 * 10 + digit_value c) cs, m, same)

after-split : (n : ℕ) (ys : List ℕ) → digits_value_after 10 n ys ≡ n * 10 ^ length ys + digits_value 10 ys
after-split n [] = omega arith
after-split n (c ∷ cs) =
    let h : digits_value_after 10 (n * 10 + digit_value c) cs ≡ (n * 10 + digit_value c) * 10 ^ length cs + digits_value 10 cs = after-split (n * 10 + digit_value c) cs in
    let z : digits_value_after 10 (0 * 10 + digit_value c) cs ≡ (0 * 10 + digit_value c) * 10 ^ length cs + digits_value 10 cs = after-split (0 * 10 + digit_value c) cs in
    let e : n * 10 ^ length (c ∷ cs) ≡ n * (10 ^ length cs * 10) = ap (λ k. n * k) (pow-suc 10 (length cs)) in
    omega (arith, h, z, e)

after-append : (n : ℕ) (xs ys : List ℕ) → digits_value_after 10 n (xs ++ ys) ≡ digits_value_after 10 (digits_value_after 10 n xs) ys
after-append n [] ys = refl
after-append n (c ∷ cs) ys = after-append (n * 10 + digit_value c) cs ys

pub value-append : (xs ys : List ℕ) → digits_value 10 (xs ++ ys) ≡ digits_value 10 xs * 10 ^ length ys + digits_value 10 ys
value-append xs ys = after-append 0 xs ys ∙ after-split (digits_value 10 xs) ys

-- the number that the first digits write
pub value-take : (ds : List ℕ) (k t : ℕ) → AllDigits 10 ds → length ds ≡ k + t → digits_value 10 (take k ds) ≡ digits_value 10 ds / 10 ^ t
value-take ds k t p e =
    let front : length (take k ds) ≡ k = length-take-le k ds (omega arith) in
    let lengths : length (take k ds ++ drop k ds) ≡ length (take k ds) + length (drop k ds) = length-append (take k ds) (drop k ds) in
    let whole : length (take k ds ++ drop k ds) ≡ length ds = ap length (take-append-drop k ds) in
    let rest : length (drop k ds) ≡ t = omega arith in
    let small : digits_value 10 (drop k ds) < 10 ^ t = subst (λ (j : ℕ). digits_value 10 (drop k ds) < 10 ^ j) rest (digits_value-lt 10 (drop k ds) (AllDigits-drop k ds p)) in
    let sum : digits_value 10 ds ≡ digits_value 10 (take k ds) * 10 ^ t + digits_value 10 (drop k ds) = ap (digits_value 10) (sym (take-append-drop k ds)) ∙ (value-append (take k ds) (drop k ds) ∙ ap (λ j. digits_value 10 (take k ds) * 10 ^ j + digits_value 10 (drop k ds)) rest) in
    sym (ap (λ m. m / 10 ^ t) sum ∙ div-mul-add (digits_value 10 (take k ds)) (10 ^ t) (digits_value 10 (drop k ds)) small)

-- ---- one digit more
none_by : (d : ℕ) (ds : List ℕ) (c : ℕ) (b : Bool) → (significant ds ≡ [] → significant (ds ++ c ∷ []) ≡ significant (c ∷ [])) → cond b (significant ds) (d ∷ ds) ≡ [] → cond b (significant (ds ++ c ∷ [])) (d ∷ (ds ++ c ∷ [])) ≡ significant (c ∷ [])
none_by d ds c true ih h = ih h
none_by d ds c false ih h = cc

significant_none : (ds : List ℕ) (c : ℕ) → significant ds ≡ [] → significant (ds ++ c ∷ []) ≡ significant (c ∷ [])
significant_none [] c h = refl
significant_none (d ∷ ds) c h = none_by d ds c (d == 48) (significant_none ds c) h

some_by : (d : ℕ) (ds : List ℕ) (c : ℕ) (b : Bool) → (0 < length (significant ds) → significant (ds ++ c ∷ []) ≡ significant ds ++ c ∷ []) → 0 < length (cond b (significant ds) (d ∷ ds)) → cond b (significant (ds ++ c ∷ [])) (d ∷ (ds ++ c ∷ [])) ≡ cond b (significant ds) (d ∷ ds) ++ c ∷ []
some_by d ds c true ih h = ih h
some_by d ds c false ih h = refl

significant_some : (ds : List ℕ) (c : ℕ) → 0 < length (significant ds) → significant (ds ++ c ∷ []) ≡ significant ds ++ c ∷ []
significant_some [] c h = absurd (omega arith)
significant_some (d ∷ ds) c h = some_by d ds c (d == 48) (significant_some ds c) h

nothing : (xs : List ℕ) → length xs ≡ 0 → xs ≡ []
nothing [] e = refl
nothing (x ∷ xs) e = absurd (omega arith)

nonzero_one : (c : ℕ) → c ≢ 48 → significant (c ∷ []) ≡ c ∷ []
nonzero_one c h = let e : (c == 48) ≡ false = grind (arith, nat_tests) in ap (λ b. cond b [] (c ∷ [])) e

pub leading_zero : (ds : List ℕ) (c : ℕ) (l : Leading) → l.count ≡ 0 → c ≡ 48 → IsLeading ds l → IsLeading (ds ++ c ∷ []) l
leading_zero ds c l z e h =
    let n : significant ds ≡ [] = nothing (significant ds) (sym h.count_is ∙ z) in
    let same : significant (ds ++ c ∷ []) ≡ significant ds = significant_none ds c n ∙ (ap (λ k. significant (k ∷ [])) e ∙ sym n) in
    record { count_is = h.count_is ∙ ap length (sym same); value_is = h.value_is ∙ ap (λ s. digits_value 10 (take 16 s)) (sym same) }

-- the digit counts
pub leading_more : (ds : List ℕ) (c : ℕ) (l : Leading) → (l.count ≡ 0 → c ≡ 48 → ⊥) → IsLeading ds l → significant (ds ++ c ∷ []) ≡ significant ds ++ c ∷ []
leading_more ds c l n h = by_count ds c l.count h.count_is n
  where
    by_count : (ds : List ℕ) (c count : ℕ) → count ≡ length (significant ds) → (count ≡ 0 → c ≡ 48 → ⊥) → significant (ds ++ c ∷ []) ≡ significant ds ++ c ∷ []
    by_count ds c zero e n =
        let z : significant ds ≡ [] = nothing (significant ds) (sym e) in
        significant_none ds c z ∙ (nonzero_one c (n refl) ∙ ap (λ s. s ++ c ∷ []) (sym z))
    by_count ds c (suc k) e n = significant_some ds c (omega arith)

push_value : (s : List ℕ) (c v : ℕ) → length s < 16 → IsInRange 48 57 c → v ≡ digits_value 10 (take 16 s) → v * 10 + (c - 48) ≡ digits_value 10 (take 16 (s ++ c ∷ []))
push_value s c v short r e =
    let l : length (s ++ c ∷ []) ≡ length s + 1 = length-append s (c ∷ []) in
    let a : digits_value 10 (take 16 (s ++ c ∷ [])) ≡ digits_value 10 (s ++ c ∷ []) = ap (digits_value 10) (take_all 16 (s ++ c ∷ []) (omega arith)) in
    let b : digits_value 10 (take 16 s) ≡ digits_value 10 s = ap (digits_value 10) (take_all 16 s (omega arith)) in
    omega (arith, a, b, digits_value_push 10 s c, digit_value_digit c r, r, e)

pub leading_kept : (ds : List ℕ) (c : ℕ) (l : Leading) → (l.count ≡ 0 → c ≡ 48 → ⊥) → IsInRange 48 57 c → l.count < 16 → IsLeading ds l → IsLeading (ds ++ c ∷ []) (record { count = l.count + 1; value = l.value * 10 + (c - 48) })
leading_kept ds c l n r short h =
    let e : significant (ds ++ c ∷ []) ≡ significant ds ++ c ∷ [] = leading_more ds c l n h in
    record {
      count_is = omega (arith, h.count_is, ap length e, length-append (significant ds) (c ∷ []));
      value_is = push_value (significant ds) c l.value (omega (arith, h.count_is, short)) r h.value_is ∙ ap (λ s. digits_value 10 (take 16 s)) (sym e);
    }

pub leading_counted : (ds : List ℕ) (c : ℕ) (l : Leading) → (l.count ≡ 0 → c ≡ 48 → ⊥) → 16 ≤ l.count → IsLeading ds l → IsLeading (ds ++ c ∷ []) (record { count = l.count + 1; value = l.value })
leading_counted ds c l n long h =
    let e : significant (ds ++ c ∷ []) ≡ significant ds ++ c ∷ [] = leading_more ds c l n h in
    record {
      count_is = omega (arith, h.count_is, ap length e, length-append (significant ds) (c ∷ []));
      value_is = h.value_is ∙ (ap (digits_value 10) (sym (take-append-le 16 (significant ds) (c ∷ []) (omega (arith, h.count_is, long)))) ∙ ap (λ s. digits_value 10 (take 16 s)) (sym e));
    }

-- ---- bounds
pub leading_small : (ds : List ℕ) (l : Leading) → AllDigits 10 ds → IsLeading ds l → l.value < 10 ^ 16
leading_small ds l p h =
    let q : AllDigits 10 (take 16 (significant ds)) = AllDigits-take 16 (significant ds) (AllDigits-significant ds p) in
    let v : digits_value 10 (take 16 (significant ds)) < 10 ^ length (take 16 (significant ds)) = digits_value-lt 10 (take 16 (significant ds)) q in
    let b : 10 ^ length (take 16 (significant ds)) ≤ 10 ^ 16 = pow-le-pow_right (omega arith) (length-take-le16 (significant ds)) in
    omega (arith, h.value_is, v, b)
  where
    length-take-at : (k : ℕ) (xs : List ℕ) → length (take k xs) ≤ k
    length-take-at zero xs = omega arith
    length-take-at (suc k) [] = omega arith
    length-take-at (suc k) (x ∷ xs) = omega (arith, length-take-at k xs)

    length-take-le16 : (xs : List ℕ) → length (take 16 xs) ≤ 16
    length-take-le16 xs = length-take-at 16 xs

pub leading_room : (ds : List ℕ) (l : Leading) → IsLeading ds l → l.count ≤ length ds
leading_room ds l h = omega (arith, h.count_is, length-significant-le ds)
