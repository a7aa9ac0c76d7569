-- Sums of products on the way.
use Rattle.std.specs.Prelude.{◌≡◌, ℕ, ◌+◌, ◌<◌}
use Rattle.std.proofs.Common.{refl, sym, ap, subst, ◌∙◌, arith, inl, inr, add-one}
use Rattle.std.proofs.lemmas.Bool.{cases_eq}
use Rattle.fractions.specs.Fraction.{Fraction, zero_fraction, ◌+ʳ◌, ◌*ʳ◌}
use Rattle.linear_table.specs.System.{sum_below}
use Rattle.plan_certificate.specs.Formed.{ProductFits, IsFormed, sum_of_products}

-- the sum has come to k, and no step was wide
pub record IsSumTo (k : ℕ) (left right : ℕ → Fraction) (sum : Fraction) : Type 0 where
  pub formed : IsFormed k left right
  pub value : sum ≡ sum_of_products k left right

pub sum_none : (left right : ℕ → Fraction) → IsSumTo 0 left right zero_fraction
sum_none left right = record { formed = λ k h. absurd (omega arith); value = refl }

step_at : (left right : ℕ → Fraction) (k : ℕ) (sum a b : Fraction) → sum ≡ sum_of_products k left right → a ≡ left k → b ≡ right k → ProductFits sum a b → ProductFits (sum_of_products k left right) (left k) (right k)
step_at left right k sum a b es ea eb h =
    subst (λ (x : Fraction). ProductFits x (left k) (right k)) es (subst (λ (x : Fraction). ProductFits sum x (right k)) ea (subst (λ (x : Fraction). ProductFits sum a x) eb h))

step_back : (left right : ℕ → Fraction) (k : ℕ) (sum a b : Fraction) → sum ≡ sum_of_products k left right → a ≡ left k → b ≡ right k → ProductFits (sum_of_products k left right) (left k) (right k) → ProductFits sum a b
step_back left right k sum a b es ea eb h =
    subst (λ (x : Fraction). ProductFits x a b) (sym es) (subst (λ (x : Fraction). ProductFits (sum_of_products k left right) x b) (sym ea) (subst (λ (x : Fraction). ProductFits (sum_of_products k left right) (left k) x) (sym eb) h))

pub sum_more : (left right : ℕ → Fraction) (k : ℕ) (sum a b next : Fraction) → a ≡ left k → b ≡ right k → IsSumTo k left right sum → ProductFits sum a b × (next ≡ sum +ʳ a *ʳ b) → IsSumTo (k + 1) left right next
sum_more left right k sum a b next ea eb h p =
    record {
      formed = λ i q. elim (cases_eq i k) [
        | inl e ↦ subst (λ (j : ℕ). ProductFits (sum_of_products j left right) (left j) (right j)) (sym e) (step_at left right k sum a b h.value ea eb p.0)
        | inr ne ↦ h.formed i (omega arith)
      ];
      value =
          p.1
          ∙ (ap (λ x. x +ʳ a *ʳ b) h.value
          ∙ (ap (λ x. sum_of_products k left right +ʳ x *ʳ b) ea
          ∙ (ap (λ x. sum_of_products k left right +ʳ left k *ʳ x) eb ∙ ap (λ (j : ℕ). sum_below j (λ i. left i *ʳ right i)) (sym (add-one k)))));
    }

-- a wide step ends the sum
pub sum_stops : (left right : ℕ → Fraction) (n k : ℕ) (sum a b : Fraction) → k < n → a ≡ left k → b ≡ right k → IsSumTo k left right sum → (ProductFits sum a b → ⊥) → IsFormed n left right → ⊥
sum_stops left right n k sum a b lt ea eb h wide formed = wide (step_back left right k sum a b h.value ea eb (formed k lt))
