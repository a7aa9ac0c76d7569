-- Cutting a script at its first newline.
use Rattle.std.proofs.Common.{◌≡◌, ◌<◌, ◌≤◌, ◌+◌, ◌-◌, ◌∷◌, [], ℕ, zero, suc, Bool, cond, not, nat_lt, false, true, List, length, take, drop, get_or, arith, rules, refl, add-one}
use Rattle.std.specs.Prelude.{Some, None, position, ◌==◌}
use Rattle.std.specs.List.{position_or_len}
use Rattle.std.proofs.lemmas.List.Quantifiers.{position-Some}
use Rattle.plan_io.specs.Lines.{cut_lines, lines_of}
use Rattle.plan_io.proofs.WritingLemmas.{rest_is_drop}

cut_at : (bytes : List ℕ) (i : ℕ) → i < length bytes → (get_or bytes i 0 == 10) ≡ true → ((k : ℕ) → k < i → (get_or bytes k 0 == 10) ≡ false)
    → cut_lines bytes ≡ take i bytes ∷ cut_lines (drop (suc i) bytes)
cut_at [] i within here before = absurd (omega arith)
cut_at (b ∷ bytes) zero within here before = rw here refl
cut_at (b ∷ bytes) (suc i) within here before =
    rw (before 0 (omega arith), cut_at bytes i (omega arith) here (λ k small. before (suc k) (omega arith))) refl

-- up to a newline, and behind it
pub cut_lines_at : (bytes : List ℕ) (i : ℕ) → position (λ byte. byte == 10) bytes ≡ Some i
    → cut_lines bytes ≡ take i bytes ∷ cut_lines (take (length bytes - (i + 1)) (drop (i + 1) bytes))
cut_lines_at bytes i is =
    let p = position-Some (λ byte. byte == 10) bytes i 0 is in
    rw (rest_is_drop, add-one) (cut_at bytes i p.0 p.1 p.2)

not_first : (b : ℕ) (bytes : List ℕ) → length (b ∷ bytes) ≤ position_or_len (λ byte. byte == 10) (b ∷ bytes)
    → ((b == 10) ≡ false) × (length bytes ≤ position_or_len (λ byte. byte == 10) bytes)
not_first b bytes long = by_test (b == 10) long
  where
    by_test : (test : Bool) → suc (length bytes) ≤ cond (not test) (1 + position_or_len (λ byte. byte == 10) bytes) 0
        → (test ≡ false) × (length bytes ≤ position_or_len (λ byte. byte == 10) bytes)
    by_test true long = absurd (omega arith)
    by_test false long = (refl, omega arith)

no_newline : (b : ℕ) (bytes : List ℕ) → length (b ∷ bytes) ≤ position_or_len (λ byte. byte == 10) (b ∷ bytes) → cut_lines (b ∷ bytes) ≡ (b ∷ bytes) ∷ []
no_newline b [] long = rw (not_first b [] long).0 refl
no_newline b (c ∷ bytes) long =
    let p = not_first b (c ∷ bytes) long in
    rw (p.0, no_newline c bytes p.1) refl

none_before : (n m : ℕ) → cond (nat_lt n m) (Some n) None ≡ None → m ≤ n
none_before n m none = grind (arith, rules)

-- one line, where there is no newline
pub cut_lines_none : (bytes : List ℕ) → 0 < length bytes → position (λ byte. byte == 10) bytes ≡ None → cut_lines bytes ≡ bytes ∷ []
cut_lines_none [] some none = absurd (omega arith)
cut_lines_none (b ∷ bytes) some none = no_newline b bytes (none_before _ _ none)

not_zero : (n : ℕ) → true ≡ (suc n == 0) → ⊥
not_zero n none = grind (arith, rules)

pub no_lines : (bytes : List ℕ) → true ≡ (length bytes == 0) → lines_of bytes ≡ []
no_lines [] none = refl
no_lines (b ∷ bytes) none = absurd (not_zero (length bytes) none)
