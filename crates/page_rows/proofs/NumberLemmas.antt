-- The nearest number of thousandths is one alone; products within limits.
use Rattle.std.proofs.Common.{◌≡◌, ◌∙◌, ℕ, ◌+◌, ◌-◌, ◌*◌, ◌/◌, ◌%◌, ◌<◌, ◌≤◌, List, Bool, true, false, refl, sym, ap, ap₂, arith}
use Rattle.std.proofs.lemmas.Nat.{div-mul-add, mod-mul-add}
use Rattle.std.specs.Prelude.{if◌then◌else◌, Option, Some, None, unsigned_abs}
use Rattle.std.specs.Bool.{Decides}
use Rattle.fractions.specs.Fraction.{Fraction, ◌*ʳ◌}
use Rattle.fractions.specs.Limits.{IsNarrow}
use Rattle.game_types.specs.Steps.{is_narrow}
use Rattle.game_types.proofs.StepLemmas.{narrow_decided}
use Rattle.page_parts.specs.declared.decimals.Nearest.{Nearest}
use Rattle.page_parts.specs.Decimals.{IsNearest, decimal_text, is_below_zero, thousandths}
use Rattle.page_rows.specs.Numbers.{in_thousandths, near_text, product, thousandths_of}

some_if : {P : Type 0} (fits : Bool) (x y : Fraction) → Decides fits P → P → y ≡ x → Some y ≡ (if fits then Some x else None)
some_if true x y d p e = ap Some e
some_if false x y d p e = absurd (let h : false ≡ true = d.1 p in cc)

none_if : {P : Type 0} (fits : Bool) (x : Fraction) → Decides fits P → ¬ P → None ≡ (if fits then Some x else None)
none_if true x d p = absurd (p (d.0 refl))
none_if false x d p = refl

pub product_fits : (x y v : Fraction) → IsNarrow (x *ʳ y) → v ≡ x *ʳ y → Some v ≡ product x y
unfolding product
product_fits x y v p e = some_if (is_narrow (x *ʳ y)) (x *ʳ y) v (narrow_decided (x *ʳ y)) p e

pub product_wide : (x y : Fraction) → ¬ IsNarrow (x *ʳ y) → None ≡ product x y
unfolding product
product_wide x y p = none_if (is_narrow (x *ʳ y)) (x *ʳ y) (narrow_decided (x *ʳ y)) p

-- ---- decimals
one_quotient : (n d t : ℕ) → 2 * (t * d) ≤ n → n < 2 * (t * d) + 2 * d → n / (2 * d) ≡ t
one_quotient n d t low high =
    let turned : t * (2 * d) ≡ 2 * (t * d) = grind arith in
    let is : n ≡ t * (2 * d) + (n - 2 * (t * d)) = rw turned (omega arith) in
    ap (λ m. m / (2 * d)) is ∙ div-mul-add t (2 * d) (n - 2 * (t * d)) (omega arith)

-- the nearest number of thousandths
pub thousandths_are : (x : Fraction) (near : Nearest) → IsNearest x near → thousandths_of x ≡ thousandths near
thousandths_are x near is = one_quotient (2 * (1000 * unsigned_abs x.num) + x.den) x.den (thousandths near) is.not_over (grind (arith, is.not_under))

parts_of : (whole part count : ℕ) → part < 1000 → count ≡ 1000 * whole + part → (whole ≡ count / 1000) × (part ≡ count % 1000)
parts_of whole part count below is =
    let turned : count ≡ whole * 1000 + part = omega arith in
    (sym (ap (λ m. m / 1000) turned ∙ div-mul-add whole 1000 part below), sym (ap (λ m. m % 1000) turned ∙ mod-mul-add whole 1000 part below))

pub whole_is : (x : Fraction) (near : Nearest) → IsNearest x near → near.whole ≡ thousandths_of x / 1000
whole_is x near is = (parts_of near.whole near.part (thousandths_of x) is.part (thousandths_are x near is)).0

same_text : (negative : Bool) (near : Nearest) (count : ℕ) → near.part < 1000 → count ≡ thousandths near → decimal_text negative near ≡ decimal_text negative (in_thousandths count)
same_text negative near count below is =
    let both = parts_of near.whole near.part count below is in
    ap₂ (λ (whole part : ℕ). decimal_text negative (record { whole = whole; part = part })) both.0 both.1

pub near_text_is : (x : Fraction) (near : Nearest) (text : List ℕ) → IsNearest x near → text ≡ decimal_text (is_below_zero x) near → text ≡ near_text x
unfolding near_text
near_text_is x near text is same = same ∙ same_text (is_below_zero x) near (thousandths_of x) is.part (thousandths_are x near is)
