-- The nearest decimal is one alone.
use Rattle.std.proofs.Common.{◌≡◌, ◌∙◌, ℕ, List, ◌+◌, ◌*◌, ◌/◌, ◌%◌, ◌<◌, ◌≤◌, refl, sym, ap, ap₂, arith}
use Rattle.std.specs.Prelude.{unsigned_abs}
use Rattle.std.proofs.Math.Nat.{div-eq_of_lt-le}
use Rattle.fractions.specs.Fraction.{Fraction}
use Rattle.page_parts.specs.Decimals.{decimal_text, is_below_zero, IsNearest, thousandths}
use Rattle.page_parts.specs.declared.decimals.Nearest.{Nearest}
use Rattle.report_json.specs.Numbers.{decimal_of, nearest, thousandths_of}

-- a whole number between bounds is the quotient
quotient_is : (q n d : ℕ) → 2 * (q * d) ≤ n → n < 2 * (q * d) + 2 * d → n / (2 * d) ≡ q
quotient_is q n d low high = div-eq_of_lt-le {k = q} (2 * d) {m = n} (grind arith) (grind arith)

whole_is : (w p : ℕ) → p < 1000 → (1000 * w + p) / 1000 ≡ w
whole_is w p below = omega arith

part_is : (w p : ℕ) → p < 1000 → (1000 * w + p) % 1000 ≡ p
part_is w p below = omega arith

made : ℕ → ℕ → Nearest
made w p = record { whole = w; part = p }

nearest_is : (x : Fraction) (near : Nearest) → IsNearest x near → near ≡ nearest x
unfolding made
nearest_is x near is =
    let e : thousandths_of x ≡ thousandths near = quotient_is (thousandths near) (2 * (1000 * unsigned_abs x.num) + x.den) x.den is.not_over is.not_under in
    let w : thousandths_of x / 1000 ≡ near.whole = ap (λ (k : ℕ). k / 1000) e ∙ whole_is near.whole near.part is.part in
    let p : thousandths_of x % 1000 ≡ near.part = ap (λ (k : ℕ). k % 1000) e ∙ part_is near.whole near.part is.part in
    ap₂ (λ (v q : ℕ). made v q) (sym w) (sym p)

pub decimal_is : (x : Fraction) (near : Nearest) (text : List ℕ) → IsNearest x near → text ≡ decimal_text (is_below_zero x) near → text ≡ decimal_of x
unfolding decimal_of
decimal_is x near text is told = told ∙ ap (λ (n : Nearest). decimal_text (is_below_zero x) n) (nearest_is x near is)
