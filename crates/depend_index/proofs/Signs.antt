-- When a product of fractions is above 0.
use Rattle.std.specs.Prelude.{◌≡◌, ◌≢◌, pos, Bool, true, false}
use Rattle.std.proofs.Common.{◌∙◌, ap, sym, subst, refl, arith, ⊎_elim}
use Rattle.std.proofs.lemmas.Int.{ints}
use Rattle.plan_base.proofs.Bools.{same_tests}
use Rattle.fractions.specs.Fraction.{Fraction, ◌+ʳ◌, ◌*ʳ◌, ◌/ʳ◌, ◌<ʳ◌, ◌≤ʳ◌, inverse, negated, zero_fraction, one_fraction, whole_fraction}
use Rattle.fractions.specs.Fracs.{atom, ◌⊠◌, opposite, same_amount}
use Rattle.fractions.proofs.Laws.{zero-+ʳ, zero-*ʳ, *ʳ-zero, +ʳ-negated, +ʳ_comm, *ʳ_comm, *ʳ-inverse}
use Rattle.fractions.proofs.Order.{positive_frac, positive-*ʳ, ≤ʳ_or_<ʳ, ≤ʳ_refl, <ʳ-≤ʳ, <ʳ_not_≤ʳ, *ʳ-≤ʳ, +ʳ-<ʳ}
use Rattle.game_types.specs.Making.{expected_amount}
use Rattle.fractions.specs.Signs.{is_positive}
use Rattle.game_types.specs.declared.recipes.Product.{Product}
use Rattle.fractions.proofs.SignLemmas.{is_positive_when, positive_is}

decided : (b : Bool) → (b ≡ true → ⊥) → b ≡ false
decided true h = absurd (h refl)
decided false h = refl

not_positive_when : (x : Fraction) → x ≤ʳ zero_fraction → is_positive x ≡ false
not_positive_when x h = decided (is_positive x) (λ t. <ʳ_not_≤ʳ zero_fraction x (positive_is x t) h)

sign : (q s i : Fraction) → zero_fraction <ʳ s → zero_fraction <ʳ i → is_positive (q *ʳ (s *ʳ i)) ≡ is_positive q
sign q s i hs hi =
    let m : zero_fraction <ʳ (s *ʳ i) = positive-*ʳ s i hs hi in
    same_tests (is_positive (q *ʳ (s *ʳ i))) (is_positive q)
    (λ t. ⊎_elim
    (λ low. absurd (<ʳ_not_≤ʳ zero_fraction (q *ʳ (s *ʳ i)) (positive_is (q *ʳ (s *ʳ i)) t)
    (subst (λ (w : Fraction). (q *ʳ (s *ʳ i)) ≤ʳ w) (zero-*ʳ (s *ʳ i)) (*ʳ-≤ʳ q zero_fraction (s *ʳ i) (<ʳ-≤ʳ zero_fraction (s *ʳ i) m) low))))
    (λ high. is_positive_when q high)
    (≤ʳ_or_<ʳ q zero_fraction))
    (λ t. is_positive_when (q *ʳ (s *ʳ i)) (positive-*ʳ q (s *ʳ i) (positive_is q t) m))

unfoldable pub two : Fraction
two = whole_fraction (pos 2)

pub two_above : zero_fraction <ʳ two
unfolding two whole_fraction
two_above = positive_frac (pos 2) 1 (omega arith) (omega (arith, ints))

one_above : zero_fraction <ʳ one_fraction
unfolding zero_fraction one_fraction
one_above = record { cross = omega (arith, ints) }

pub half_above : zero_fraction <ʳ inverse two
half_above =
    let other : two ≢ zero_fraction = λ is. <ʳ_not_≤ʳ zero_fraction two two_above (subst (λ (w : Fraction). w ≤ʳ zero_fraction) (sym is) (≤ʳ_refl zero_fraction)) in
    let whole : inverse two *ʳ two ≡ one_fraction = *ʳ_comm (inverse two) two ∙ *ʳ-inverse two other in
    ⊎_elim
    (λ low. absurd (<ʳ_not_≤ʳ zero_fraction one_fraction one_above
    (subst (λ (w : Fraction). w ≤ʳ zero_fraction) whole (subst (λ (w : Fraction). (inverse two *ʳ two) ≤ʳ w) (zero-*ʳ two) (*ʳ-≤ʳ (inverse two) zero_fraction two (<ʳ-≤ʳ zero_fraction two two_above) low)))))
    (λ high. high)
    (≤ʳ_or_<ʳ (inverse two) zero_fraction)

none : (h : Fraction) → negated h +ʳ h ≡ zero_fraction
none h = +ʳ_comm (negated h) h ∙ +ʳ-negated h

pub expected_greater : (product : Product) → negated product.high <ʳ product.low → is_positive product.probability ≡ is_positive (expected_amount product)
unfolding ◌/ʳ◌ two
expected_greater product h =
    let sum : zero_fraction <ʳ (product.low +ʳ product.high) = subst (λ (w : Fraction). w <ʳ (product.low +ʳ product.high)) (none product.high) (+ʳ-<ʳ (negated product.high) product.low product.high product.high h (≤ʳ_refl product.high)) in
    sym (sign product.probability (product.low +ʳ product.high) (inverse two) sum half_above)

pub expected_equal : (product : Product) → product.low ≡ negated product.high → false ≡ is_positive (expected_amount product)
unfolding ◌/ʳ◌ two
expected_equal product is =
    let sum : product.low +ʳ product.high ≡ zero_fraction = ap (λ low. low +ʳ product.high) is ∙ none product.high in
    let amount : expected_amount product ≡ zero_fraction = ap (λ s. product.probability *ʳ (s *ʳ inverse two)) sum ∙ ap (λ m. product.probability *ʳ m) (zero-*ʳ (inverse two)) ∙ *ʳ-zero product.probability in
    sym (not_positive_when (expected_amount product) (subst (λ (w : Fraction). w ≤ʳ zero_fraction) (sym amount) (≤ʳ_refl zero_fraction)))

turn : (p s i : Fraction) → negated p *ʳ (negated s *ʳ i) ≡ p *ʳ (s *ʳ i)
turn p s i = same_amount (opposite (atom p) ⊠ (opposite (atom s) ⊠ atom i)) (atom p ⊠ (atom s ⊠ atom i)) (omega arith)

below_sum : (s : Fraction) → s <ʳ zero_fraction → zero_fraction <ʳ negated s
below_sum s h = subst (λ (w : Fraction). w <ʳ negated s) (+ʳ-negated s) (subst (λ (w : Fraction). (s +ʳ negated s) <ʳ w) (zero-+ʳ (negated s)) (+ʳ-<ʳ s zero_fraction (negated s) (negated s) h (≤ʳ_refl (negated s))))

pub expected_less : (product : Product) → product.low <ʳ negated product.high → is_positive (negated product.probability) ≡ is_positive (expected_amount product)
unfolding ◌/ʳ◌ two
expected_less product h =
    let s = product.low +ʳ product.high in
    let sum : s <ʳ zero_fraction = subst (λ (w : Fraction). s <ʳ w) (none product.high) (+ʳ-<ʳ product.low (negated product.high) product.high product.high h (≤ʳ_refl product.high)) in
    sym (sign (negated product.probability) (negated s) (inverse two) (below_sum s sum) half_above) ∙ ap is_positive (turn product.probability s (inverse two))
