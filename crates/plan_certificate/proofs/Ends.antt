-- What a comparison of two fractions tells, and how the loops over goods and columns end.
use Rattle.std.specs.Prelude.{◌≡◌, ℕ, ◌<◌, List, Some, slice_get, Bool, true, false, not, IsTrue, ◌↔◌}
use Rattle.std.specs.Ordering.{partial_gt}
use Rattle.std.proofs.Common.{refl, sym, subst, ◌∙◌}
use Rattle.std.proofs.lemmas.Bool.{not-true}
use Rattle.fractions.specs.Fraction.{Fraction, zero_fraction, ◌≤ʳ◌, ◌<ʳ◌}
use Rattle.fractions.specs.Compare.{are_same, partly_compared, same_tells, above_tells}
use Rattle.fractions.proofs.Order.{<ʳ_not_≤ʳ, ≤ʳ_from_not_<ʳ}
use Rattle.linear_table.specs.Plans.{good_count, column_count, want_at, value_of}
use Rattle.linear_table.specs.Basis.{table_name}
use Rattle.linear_table.specs.declared.Linear.{Linear}
use Rattle.linear_table.specs.declared.Column.{Column}
use Rattle.plan_base.specs.declared.ids.GoodId.{GoodId}
use Rattle.plan_certificate.specs.Faults.{IsBalanceFormed, balance_of, IsBalancedAt, IsUnbalancedAt, IsValueFormed, limit_at, IsWithinAt, GainsAt}
use Rattle.plan_certificate.specs.declared.Limit.{Limit}

by_test : {P : Type 0} → (t : Bool) → IsTrue t ↔ P → not t ≡ false → P
by_test true h e = h.0 refl
by_test false h e = absurd (cc)

against_test : {P : Type 0} → (t : Bool) → IsTrue t ↔ P → t ≡ false → P → ⊥
against_test true h e p = cc
against_test false h e p = let u = h.1 p in cc

pub equal : (x y : Fraction) → not (are_same x y) ≡ false → x ≡ y
equal x y e = by_test (are_same x y) (same_tells x y) e

pub differ : (x y : Fraction) → not (are_same x y) ≡ true → x ≡ y → ⊥
differ x y e = against_test (are_same x y) (same_tells x y) (not-true (are_same x y) e)

pub above : (x y : Fraction) → partial_gt partly_compared x y ≡ true → y <ʳ x
above x y e = (above_tells x y).0 e

pub not_above : (x y : Fraction) → partial_gt partly_compared x y ≡ false → x ≤ʳ y
not_above x y e = ≤ʳ_from_not_<ʳ x y (against_test (partial_gt partly_compared x y) (above_tells x y) e)

pub not_positive : (x : Fraction) (t : Bool) → IsTrue t ↔ (zero_fraction <ʳ x) → t ≡ false → x ≤ʳ zero_fraction
not_positive x t h e = ≤ʳ_from_not_<ʳ x zero_fraction (against_test t h e)

pub balanced_at : (l : Linear) (rates : List Fraction) (g : ℕ) (sum want : Fraction) → IsBalanceFormed l rates g × (sum ≡ balance_of l rates g) → want ≡ want_at l g → sum ≡ want → IsBalancedAt l rates g
balanced_at l rates g sum want h en e = (h.0, sym h.1 ∙ (e ∙ en))

pub unbalanced_at : (l : Linear) (rates : List Fraction) (g : ℕ) (sum want : Fraction) (good : GoodId) → g < good_count l → ((k : ℕ) → k < g → IsBalancedAt l rates k) →
    IsBalanceFormed l rates g × (sum ≡ balance_of l rates g) → want ≡ want_at l g → (sum ≡ want → ⊥) → slice_get l.goods g ≡ Some good → IsUnbalancedAt l rates good
unbalanced_at l rates g sum want good lt before h en ne name =
    record {
      place = g;
      first = record {
        inside = lt;
        earlier = before;
        fails = λ b. ne (h.1 ∙ (b.1 ∙ sym en));
      };
      formed = h.0;
      name_is = name;
    }

pub within_at : (l : Linear) (limit : Limit) (prices : List Fraction) (j : ℕ) (value most : Fraction) → IsValueFormed l prices j × (value ≡ value_of l prices j) → most ≡ limit_at l limit j → value ≤ʳ most → IsWithinAt l limit prices j
within_at l limit prices j value most h em le =
    (h.0, subst (λ (x : Fraction). value_of l prices j ≤ʳ x) em (subst (λ (x : Fraction). x ≤ʳ most) h.1 le))

pub gains_at : (l : Linear) (limit : Limit) (prices : List Fraction) (j : ℕ) (value most : Fraction) (column : Column) → j < column_count l → ((k : ℕ) → k < j → IsWithinAt l limit prices k) →
    IsValueFormed l prices j × (value ≡ value_of l prices j) → most ≡ limit_at l limit j → most <ʳ value → table_name (slice_get l.columns j) ≡ Some column → GainsAt l limit prices column
gains_at l limit prices j value most column lt before h em above name =
    record {
      place = j;
      first = record {
        inside = lt;
        earlier = before;
        fails = λ w. <ʳ_not_≤ʳ (limit_at l limit j) (value_of l prices j) (subst (λ (x : Fraction). x <ʳ value_of l prices j) em (subst (λ (x : Fraction). most <ʳ x) h.1 above)) w.1;
      };
      formed = h.0;
      name_is = name;
    }
