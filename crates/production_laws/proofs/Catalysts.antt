-- Productivity adds nothing to what a launch brings back.
use Rattle.std.proofs.Common.{◌≡◌, ◌∙◌, ℕ, Bool, true, false, List, [], ◌∷◌, ap, ap₂, arith, map, refl, sym, subst}
use Rattle.std.specs.Prelude.{◌≢◌, ◌*◌, ◌<◌, ◌*ℤ◌, ◌+ℤ◌, ℤ, pos, All, Result}
use Rattle.std.specs.Ordering.{MatchOrdering, int_cmp}
use Rattle.std.specs.declared.cmp.Ordering.{Ordering}
use Rattle.std.specs.declared.cmp.Ordering.TheVariants.{Less, Equal, Greater}
use Rattle.std.proofs.lemmas.List.Elements.{All-head, All-tail}
use Rattle.fractions.specs.Fraction.{Fraction, frac, ◌+ʳ◌, ◌-ʳ◌, ◌*ʳ◌, ◌/ʳ◌, ◌<ʳ◌, ◌≤ʳ◌, inverse, negated, zero_fraction, whole_fraction}
use Rattle.fractions.specs.Fracs.{atom, frac_eq, pos_product, ◌⊠◌, same_amount}
use Rattle.fractions.specs.Ring.{int, nat, ◌⊕◌, ◌⊗◌, same_value}
use Rattle.fractions.proofs.Ceiling.{den-whole, num-whole}
use Rattle.fractions.proofs.Laws.{*ʳ-inverse, *ʳ-one, *ʳ-zero, +ʳ-negated, zero-*ʳ}
use Rattle.fractions.proofs.Order.{+ʳ-≤ʳ, *ʳ-≤ʳ, <ʳ-≤ʳ, <ʳ_not_≤ʳ, ≤ʳ_refl}
use Rattle.fractions.proofs.SmallParts.{cmp_by_cross}
use Rattle.game_types.specs.Rates.{yield_of}
use Rattle.game_types.specs.Steps.{added, at_least, divided, formed, is_narrow, multiplied, subtracted, ◌▸◌}
use Rattle.game_types.specs.declared.effects.Wide.{Wide}
use Rattle.game_types.specs.declared.recipes.Product.{Product}
use Rattle.game_types.proofs.StepLemmas.{at_least_is}
use Rattle.rocket_launches.specs.Launches.{as_catalyst}
use Rattle.table_rows.specs.Columns.{given}
use Rattle.depend_index.proofs.Signs.{half_above, two, two_above}

two_other : two ≢ zero_fraction
two_other is = <ʳ_not_≤ʳ zero_fraction two two_above (subst (λ (w : Fraction). w ≤ʳ zero_fraction) (sym is) (≤ʳ_refl zero_fraction))

-- ---- the mean of two amounts is at most the higher one
twice : (x : Fraction) → x +ʳ x ≡ x *ʳ two
unfolding ◌+ʳ◌ ◌*ʳ◌ two
twice x =
    let one_den : 0 < 1 = omega arith in
    frac_eq (x.num *ℤ pos x.den +ℤ x.num *ℤ pos x.den) (x.num *ℤ pos 2) (x.den * x.den) (x.den * 1) (pos_product x.den x.den x.positive x.positive) (pos_product x.den 1 x.positive one_den)
    (same_value ((int x.num ⊗ nat x.den ⊕ int x.num ⊗ nat x.den) ⊗ nat (x.den * 1)) (int x.num ⊗ int (pos 2) ⊗ nat (x.den * x.den)) (omega arith))
    ∙ sym (ap₂ (λ (n : ℤ) (d : ℕ). frac (x.num *ℤ n) (x.den * d)) (num-whole (pos 2)) (den-whole (pos 2)))

half_of_both : (x : Fraction) → (x +ʳ x) *ʳ inverse two ≡ x
half_of_both x =
    ap (λ (s : Fraction). s *ʳ inverse two) (twice x)
    ∙ (same_amount ((atom x ⊠ atom two) ⊠ atom (inverse two)) (atom x ⊠ (atom two ⊠ atom (inverse two))) (omega arith)
    ∙ (ap (λ (s : Fraction). x *ʳ s) (*ʳ-inverse two two_other) ∙ *ʳ-one x))

mean_low : (low high : Fraction) → low ≤ʳ high → ((low +ʳ high) /ʳ two) ≤ʳ high
unfolding ◌/ʳ◌
mean_low low high h =
    subst (λ (w : Fraction). ((low +ʳ high) *ʳ inverse two) ≤ʳ w) (half_of_both high)
    (*ʳ-≤ʳ (low +ʳ high) (high +ʳ high) (inverse two) (<ʳ-≤ʳ zero_fraction (inverse two) half_above) (+ʳ-≤ʳ low high high high h (≤ʳ_refl high)))

difference_low : (x y : Fraction) → x ≤ʳ y → (x -ʳ y) ≤ʳ zero_fraction
unfolding ◌-ʳ◌
difference_low x y h = subst (λ (w : Fraction). (x +ʳ negated y) ≤ʳ w) (+ʳ-negated y) (+ʳ-≤ʳ x y (negated y) (negated y) h (≤ʳ_refl (negated y)))

none_above : (x : Fraction) → x ≤ʳ zero_fraction → at_least zero_fraction x ≡ zero_fraction
none_above x h = by_order (int_cmp (zero_fraction.num *ℤ pos x.den) (x.num *ℤ pos zero_fraction.den)) (cmp_by_cross zero_fraction x _ _ _ refl refl refl)
  where
    by_order : (r : Ordering) → MatchOrdering r (zero_fraction <ʳ x) (zero_fraction ≡ x) (x <ʳ zero_fraction) → at_least zero_fraction x ≡ zero_fraction
    by_order Less m = absurd (<ʳ_not_≤ʳ zero_fraction x m h)
    by_order Equal m = at_least_is zero_fraction x Equal m
    by_order Greater m = at_least_is zero_fraction x Greater m

-- ---- the steps of a yield
after_formed : {B : Type 0} (step : ℕ) (fits : Bool) (value : Fraction) (f g : Fraction → Result B Wide) → f value ≡ g value → (formed step fits value ▸ f) ≡ (formed step fits value ▸ g)
unfolding formed
after_formed step true value f g same = same
after_formed step false value f g same = refl

nothing_more : (free one other : Fraction) → free ≡ zero_fraction → multiplied 8 free one ≡ multiplied 8 free other
unfolding multiplied
nothing_more free one other none =
    let same : free *ʳ one ≡ free *ʳ other = ap (λ (f : Fraction). f *ʳ one) none ∙ (zero-*ʳ one ∙ (sym (zero-*ʳ other) ∙ ap (λ (f : Fraction). f *ʳ other) (sym none))) in
    ap (λ (v : Fraction). formed 8 (is_narrow v) v) same

pub catalyst_yield : (product : Product) (one other : Fraction) → product.low ≤ʳ product.high → yield_of (as_catalyst product) one ≡ yield_of (as_catalyst product) other
unfolding yield_of added divided multiplied subtracted two
catalyst_yield product one other h =
    let sum : Fraction = product.low +ʳ product.high in
    let amount : Fraction = sum /ʳ whole_fraction (pos 2) in
    let above : Fraction = amount -ʳ product.high in
    let free : Fraction = product.probability *ʳ at_least zero_fraction above in
    let low : above ≤ʳ zero_fraction = difference_low amount product.high (mean_low product.low product.high h) in
    let none : free ≡ zero_fraction = ap (λ (x : Fraction). product.probability *ʳ x) (none_above above low) ∙ *ʳ-zero product.probability in
    after_formed 8 _ sum _ _
    (after_formed 8 _ amount _ _
    (after_formed 8 _ (product.probability *ʳ amount) _ _
    (after_formed 8 _ above _ _
    (after_formed 8 _ free _ _
    (ap (λ (r : Result Fraction Wide). r ▸ λ more. added 8 (product.probability *ʳ amount) more) (nothing_more free one other none))))))

pub launch_given : (one other : Fraction) (products : List Product) → All (λ (product : Product). product.low ≤ʳ product.high) products → map (given one) (map as_catalyst products) ≡ map (given other) (map as_catalyst products)
launch_given one other [] each = refl
launch_given one other (product ∷ products) each =
    ap₂ (λ x xs. x ∷ xs) (ap (λ (r : Result Fraction Wide). (product.good, r)) (catalyst_yield product one other (All-head (λ (p : Product). p.low ≤ʳ p.high) product products each)))
    (launch_given one other products (All-tail (λ (p : Product). p.low ≤ʳ p.high) product products each))
