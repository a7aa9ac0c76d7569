-- One more number of a row.
use Rattle.std.specs.Prelude.{◌≡◌, ℕ, ◌+◌, ◌<◌, ◌≤◌, List, length}
use Rattle.std.proofs.Common.{refl, ap, subst, ◌∙◌, arith, set, below_more}
use Rattle.std.proofs.lemmas.List.{get_or-set_same, get_or-set_other}
use Rattle.fractions.specs.Fraction.{Fraction, zero_fraction, ◌-ʳ◌, ◌*ʳ◌}
use Rattle.linear_table.specs.Plans.{number_at}
use Rattle.fractions.specs.Limits.{IsNarrow}
use Rattle.linear_table.specs.Wide.{LessFits}
use Rattle.number_rows.specs.Changed.{AreNarrow, IsReducedRow}
use Rattle.number_rows.proofs.Slim.{less_fits_none, less_fits_nothing, less_none, less_nothing}

pub record IsReducedBelow (old : List Fraction) (factor : Fraction) (pivot_row row : List Fraction) (k : ℕ) : Type 0 where
  pub narrow : (j : ℕ) → j < k → LessFits (number_at old j) factor (number_at pivot_row j)
  pub done : (j : ℕ) → j < k → number_at row j ≡ number_at old j -ʳ factor *ʳ number_at pivot_row j
  pub rest : (j : ℕ) → k ≤ j → number_at row j ≡ number_at old j

pub reduced_more : (old : List Fraction) (f : Fraction) (pivot row : List Fraction) (k : ℕ) (x p v : Fraction) → k < length row → k < length pivot → x ≡ number_at row k → p ≡ number_at pivot k → LessFits x f p → v ≡ x -ʳ f *ʳ p → IsReducedBelow old f pivot row k → IsReducedBelow old f pivot (set row k v) (k + 1)
reduced_more old f pivot row k x p v lt lt' ex ep fits ev h =
    let x_is : x ≡ number_at old k = ex ∙ h.rest k (omega arith) in
    let p_is : p ≡ number_at pivot k = ep in
    record {
      narrow = below_more (λ j. LessFits (number_at old j) f (number_at pivot j)) k h.narrow (subst (λ (a : Fraction). LessFits a f (number_at pivot k)) x_is (subst (λ (b : Fraction). LessFits x f b) p_is fits));
      done = below_more (λ j. number_at (set row k v) j ≡ number_at old j -ʳ f *ʳ number_at pivot j) k
          (λ j q. get_or-set_other row k j v zero_fraction (λ e. omega arith) ∙ h.done j q)
          (get_or-set_same row k v zero_fraction lt ∙ (ev ∙ (ap (λ a. a -ʳ f *ʳ p) x_is ∙ ap (λ b. number_at old k -ʳ f *ʳ b) p_is)));
      rest = λ j q. get_or-set_other row k j v zero_fraction (λ e. omega arith) ∙ h.rest j (omega arith);
    }

-- where the pivot row's number is 0, nothing changes
pub reduced_skip : (old : List Fraction) (f : Fraction) (pivot row : List Fraction) (k : ℕ) → number_at pivot k ≡ zero_fraction → IsNarrow (number_at old k) → IsReducedBelow old f pivot row k → IsReducedBelow old f pivot row (k + 1)
reduced_skip old f pivot row k p_is narrow h =
    record {
      narrow = below_more (λ j. LessFits (number_at old j) f (number_at pivot j)) k h.narrow (less_fits_nothing (number_at old k) f (number_at pivot k) narrow p_is);
      done = below_more (λ j. number_at row j ≡ number_at old j -ʳ f *ʳ number_at pivot j) k h.done (h.rest k (omega arith) ∙ less_nothing (number_at old k) f (number_at pivot k) p_is);
      rest = λ j q. h.rest j (omega arith);
    }

-- and where the factor is 0, no number of the row does
pub reduced_same : (old : List Fraction) (f : Fraction) (pivot : List Fraction) → f ≡ zero_fraction → AreNarrow old → IsReducedRow old f pivot old
reduced_same old f pivot nil narrow =
    record {
      length_is = refl;
      narrow = λ k h. less_fits_none (number_at old k) f (number_at pivot k) (narrow k h) nil;
      numbers = λ k h. less_none (number_at old k) f (number_at pivot k) nil;
    }
