-- What a number and a denominator share.
use Rattle.std.specs.Prelude.{◌≡◌, ℕ, zero, suc, ◌*◌, ◌/◌, ◌<◌, ◌^◌, ℤ, pos, ◌*ℤ◌, unsigned_abs}
use Rattle.std.specs.Int.{◌∣◌}
use Rattle.std.proofs.Common.{sym, ap, subst, ◌∙◌, arith}
use Rattle.std.proofs.Math.Nat.{dvd-mul_left, mul-div_cancel}
use Rattle.number_rows.specs.Shared.{IsShared}
use Rattle.number_rows.proofs.Lists.{wrap, back}

pub record HasParts (t : ℤ) (b g a : ℕ) (f : ℤ) : Type 0 where
  pub positive : 0 < g
  pub divides : g ∣ b
  pub scale_is : a ≡ b / g
  pub scale_positive : 0 < a
  pub scale_small : a < 2 ^ 62
  pub factor_is : f *ℤ pos g ≡ t
  pub factor_small : unsigned_abs f < 2 ^ 62

pub first_some : (a g b : ℕ) → a * g ≡ b → 0 < b → 0 < a
first_some zero g b e p = absurd (omega (arith, e, p))
first_some (suc a) g b e p = omega arith

pub second_some : (a g b : ℕ) → a * g ≡ b → 0 < b → 0 < g
second_some a zero b e p = absurd (omega (arith, e, p))
second_some a (suc g) b e p = omega arith

-- of a number as the code reads it
pub parts : (top t : ℤ) (b g a : ℕ) (f : ℤ) → 0 < b → top ≡ t → unsigned_abs t < 2 ^ 62 → IsShared (wrap top) b g a f → HasParts t b g a f
parts top t b g a f pb et ht h =
    let pg : 0 < g = second_some a g b h.bottom_is pb in
    record {
      positive = pg;
      divides = subst (λ (n : ℕ). g ∣ n) h.bottom_is (dvd-mul_left g a);
      scale_is = sym (ap (λ n. n / g) (sym h.bottom_is) ∙ mul-div_cancel a pg);
      scale_positive = first_some a g b h.bottom_is pb;
      scale_small = h.scale_small;
      factor_is = h.top_is ∙ (ap wrap et ∙ back t (omega (arith, ht)));
      factor_small = h.factor_small;
    }
