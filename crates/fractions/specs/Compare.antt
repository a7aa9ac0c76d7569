-- How fractions compare, as std's traits of comparison say it.
use Rattle.std.specs.Prelude.{◌≡◌, ◌*◌, ◌<◌, ◌+◌, Bool, false, pos, ◌*ℤ◌, ◌<ℤ◌, Option, Some, IsTrue, ◌↔◌}
use Rattle.std.specs.Bool.{one_answer}
use Rattle.std.specs.Ordering.{MatchOrdering, is_eq, is_lt, is_gt, int_cmp, eq_by_cmp, as_partial_cmp, partial_lt, partial_gt}
use Rattle.std.specs.declared.cmp.Ordering.{Ordering}
use Rattle.std.specs.declared.cmp.Ordering.TheVariants.{Less, Equal, Greater}
use Rattle.std.specs.Cmp.{IsPartialEquivalence, IsPartialOrder, IsTotalOrder, int_ranks, one_rank, strict, po, partial_equiv_from_equiv, eq_by_cmp_equiv}
use Rattle.std.proofs.Common.{refl, ap, subst, arith}
use Rattle.std.proofs.Math.Nat.{lt_of_mul-lt-mul_right, mul-lt-mul_of_pos_right}
use Rattle.fractions.specs.Fraction.{Fraction, same_from_cross, ◌<ʳ◌}
use Rattle.fractions.specs.Ring.{int, nat, ◌⊗◌, over, under, value_lt, sides_of_lt}

-- by the cross products
unfoldable pub compared : Fraction → Fraction → Ordering
compared x y = int_cmp (x.num *ℤ pos y.den) (y.num *ℤ pos x.den)

pub ranks_of : (x y : Fraction) → MatchOrdering (compared x y) (x <ʳ y) (x ≡ y) (y <ʳ x)
unfolding compared
ranks_of x y = by (int_cmp (x.num *ℤ pos y.den) (y.num *ℤ pos x.den)) (int_ranks (x.num *ℤ pos y.den) (y.num *ℤ pos x.den))
  where
    by : (r : Ordering) → MatchOrdering r ((x.num *ℤ pos y.den) <ℤ (y.num *ℤ pos x.den)) ((x.num *ℤ pos y.den) ≡ (y.num *ℤ pos x.den)) ((y.num *ℤ pos x.den) <ℤ (x.num *ℤ pos y.den)) → MatchOrdering r (x <ʳ y) (x ≡ y) (y <ʳ x)
    by Less h = record { cross = h }
    by Equal h = same_from_cross x y h
    by Greater h = record { cross = h }

-- ---- the order's laws
not_below_itself : (x : Fraction) → ¬ (x <ʳ x)
not_below_itself x h = let k : ⊥ = omega (arith, sides_of_lt (int x.num ⊗ nat x.den) (int x.num ⊗ nat x.den) h.cross) in k

below_chain : (x y z : Fraction) → x <ʳ y → y <ʳ z → x <ʳ z
below_chain x y z h k =
    let first : over (int x.num ⊗ nat y.den) * z.den + under (int y.num ⊗ nat x.den) * z.den < over (int y.num ⊗ nat x.den) * z.den + under (int x.num ⊗ nat y.den) * z.den =
    omega (arith, mul-lt-mul_of_pos_right (sides_of_lt (int x.num ⊗ nat y.den) (int y.num ⊗ nat x.den) h.cross) z.positive) in
    let second : over (int y.num ⊗ nat z.den) * x.den + under (int z.num ⊗ nat y.den) * x.den < over (int z.num ⊗ nat y.den) * x.den + under (int y.num ⊗ nat z.den) * x.den =
    omega (arith, mul-lt-mul_of_pos_right (sides_of_lt (int y.num ⊗ nat z.den) (int z.num ⊗ nat y.den) k.cross) x.positive) in
    record { cross = value_lt (int x.num ⊗ nat z.den) (int z.num ⊗ nat x.den) (lt_of_mul-lt-mul_right y.den (omega (arith, first, second))) }

pub compared_total : IsTotalOrder compared
compared_total = strict ◌<ʳ◌ not_below_itself below_chain compared ranks_of

pub compared_is : (x y : Fraction) (r : Ordering) → MatchOrdering r (x <ʳ y) (x ≡ y) (y <ʳ x) → r ≡ compared x y
compared_is x y r h = one_rank ◌<ʳ◌ not_below_itself below_chain x y r (compared x y) h (ranks_of x y)

-- ---- what the traits say
abbrev pub are_same : Fraction → Fraction → Bool
are_same = eq_by_cmp compared

abbrev pub partly_compared : Fraction → Fraction → Option Ordering
partly_compared = as_partial_cmp compared

pub same_laws : IsPartialEquivalence are_same
same_laws = partial_equiv_from_equiv (eq_by_cmp_equiv compared_total)

pub order_laws : IsPartialOrder are_same partly_compared
order_laws = po compared_total (λ x y. refl)

tells : (x y : Fraction) (r : Ordering) → MatchOrdering r (x <ʳ y) (x ≡ y) (y <ʳ x) → (IsTrue (is_eq r) ↔ (x ≡ y)) × (IsTrue (is_lt r) ↔ (x <ʳ y)) × (IsTrue (is_gt r) ↔ (y <ʳ x))
tells x y Less h = ((λ t. absurd (no t), λ e. absurd (not_below_itself y (subst (λ w. w <ʳ y) e h))), (λ t. h, λ l. refl), (λ t. absurd (no t), λ l. absurd (not_below_itself x (below_chain x y x h l))))
  where
    no : IsTrue false → ⊥
    no t = cc
tells x y Equal h = ((λ t. h, λ e. refl), (λ t. absurd (no t), λ l. absurd (not_below_itself y (subst (λ w. w <ʳ y) h l))), (λ t. absurd (no t), λ l. absurd (not_below_itself y (subst (λ w. y <ʳ w) h l))))
  where
    no : IsTrue false → ⊥
    no t = cc
tells x y Greater h = ((λ t. absurd (no t), λ e. absurd (not_below_itself y (subst (λ w. y <ʳ w) e h))), (λ t. absurd (no t), λ l. absurd (not_below_itself x (below_chain x y x l h))), (λ t. h, λ l. refl))
  where
    no : IsTrue false → ⊥
    no t = cc

-- `==`, `<` and `>` of the program tell what the fractions are
pub same_tells : (x y : Fraction) → IsTrue (are_same x y) ↔ (x ≡ y)
same_tells x y = (tells x y (compared x y) (ranks_of x y)).0

pub below_tells : (x y : Fraction) → IsTrue (partial_lt partly_compared x y) ↔ (x <ʳ y)
below_tells x y = (tells x y (compared x y) (ranks_of x y)).1

pub above_tells : (x y : Fraction) → IsTrue (partial_gt partly_compared x y) ↔ (y <ʳ x)
above_tells x y = (tells x y (compared x y) (ranks_of x y)).2

-- a test that tells whether two fractions are the same is `==`
pub same_is : (x y : Fraction) (b : Bool) → IsTrue b ↔ (x ≡ y) → b ≡ are_same x y
same_is x y b h = one_answer b (are_same x y) h (same_tells x y)

pub cmp_is : (x y : Fraction) (r : Ordering) → MatchOrdering r (x <ʳ y) (x ≡ y) (y <ʳ x) → (let o : Option Ordering = Some r in o) ≡ partly_compared x y
cmp_is x y r h = ap Some (compared_is x y r h)
