-- Lists of numbers that grow by one, and what two of one length with the same numbers are.
use Rattle.std.specs.Prelude.{◌≡◌, ℕ, suc, ◌+◌, ◌<◌, List, [], ◌∷◌, ◌++◌, length}
use Rattle.std.proofs.Common.{refl, sym, ap, subst, ◌∙◌, arith, inl, inr, length-append}
use Rattle.std.proofs.lemmas.Bool.{cases_eq}
use Rattle.fractions.specs.Fraction.{Fraction}
use Rattle.linear_table.specs.Plans.{number_at}
use Rattle.linear_table.proofs.Settled.{listed, length-listed, number_at-listed}
use Rattle.pivot_solver.specs.Numbers.{ListsEach}
use Rattle.pivot_solver.proofs.Filled.{number_at-append_old, number_at-append_new}

pub each_none : (P : ℕ → Fraction → Type 0) (xs : List Fraction) → xs ≡ [] → ListsEach 0 P xs
each_none P xs e = record { length_is = ap (λ (x : List Fraction). length x) e; each = λ k h. absurd (omega arith) }

pub each_more : (P : ℕ → Fraction → Type 0) (n : ℕ) (xs ys : List Fraction) (x : Fraction) → ListsEach n P xs → P n x → ys ≡ xs ++ x ∷ [] → ListsEach (n + 1) P ys
each_more P n xs ys x h here grown =
    let at_end : number_at (xs ++ x ∷ []) n ≡ x = ap (λ k. number_at (xs ++ x ∷ []) k) (sym h.length_is) ∙ number_at-append_new xs x in
    subst (λ (z : List Fraction). ListsEach (n + 1) P z) (sym grown)
    (record {
      length_is = length-append xs (x ∷ []) ∙ ap (λ k. k + 1) h.length_is;
      each = λ k q. elim (cases_eq k n) [
        | inl s ↦ subst (λ (j : ℕ). P j (number_at (xs ++ x ∷ []) j)) (sym s) (subst (P n) (sym at_end) here)
        | inr ne ↦ subst (P k) (sym (number_at-append_old xs x k (omega (arith, h.length_is)))) (h.each k (omega arith))
      ];
    })

pub same_numbers : (xs ys : List Fraction) → length xs ≡ length ys → ((k : ℕ) → k < length ys → number_at xs k ≡ number_at ys k) → xs ≡ ys
same_numbers [] [] e h = refl
same_numbers [] (y ∷ ys) e h = absurd (omega arith)
same_numbers (x ∷ xs) [] e h = absurd (omega arith)
same_numbers (x ∷ xs) (y ∷ ys) e h =
    let tail : xs ≡ ys = same_numbers xs ys (omega arith) (λ k q. h (suc k) (omega arith)) in
    let head : x ≡ y = h 0 (omega arith) in
    ap (λ (z : Fraction). z ∷ xs) head ∙ ap (λ (z : List Fraction). y ∷ z) tail

-- a list of n numbers f 0, f 1 and so on
pub listed_is : (n : ℕ) (f : ℕ → Fraction) (xs : List Fraction) → ListsEach n (λ k x. x ≡ f k) xs → xs ≡ listed n f
listed_is n f xs h =
    same_numbers xs (listed n f) (h.length_is ∙ sym (length-listed n f))
    (λ k q. let lt : k < n = omega (arith, length-listed n f) in h.each k lt ∙ sym (number_at-listed n f k lt))

pub each_weaker : (n : ℕ) (P Q : ℕ → Fraction → Type 0) (xs : List Fraction) → ((k : ℕ) (x : Fraction) → k < n → P k x → Q k x) → ListsEach n P xs → ListsEach n Q xs
each_weaker n P Q xs w h = record { length_is = h.length_is; each = λ k q. w k (number_at xs k) q (h.each k q) }
