-- Digits by long division: number facts over plain variables.
use Rattle.std.proofs.Common.{◌≡◌, ◌∙◌, ℕ, ◌+◌, ◌-◌, ◌*◌, ◌/◌, ◌%◌, ◌<◌, ◌≤◌, refl, sym, ap, arith, inl, inr}
use Rattle.std.specs.Prelude.{unsigned_abs}
use Rattle.std.proofs.lemmas.Bool.{cases_lt}
use Rattle.fractions.specs.Fraction.{Fraction}
use Rattle.page_parts.specs.declared.decimals.Nearest.{Nearest}
use Rattle.page_parts.specs.Decimals.{IsNearest, thousandths}

-- twice
pub twice : (count rest divisor all : ℕ) → all ≡ (count + count) * divisor + rest + rest → all ≡ 2 * (count * divisor + rest)
twice count rest divisor all is = grind arith

-- ten times a rest, by 1, 2, 4, 5 and 10 of it
pub ten_times : (rest divisor two left₂ four left₄ five left₅ ten left : ℕ)
    → two * divisor + left₂ ≡ 2 * (0 * divisor + rest) → four * divisor + left₄ ≡ 2 * (two * divisor + left₂)
    → five * divisor + left₅ ≡ four * divisor + left₄ + rest → ten * divisor + left ≡ 2 * (five * divisor + left₅) → ten * divisor + left ≡ 10 * rest
ten_times rest divisor two left₂ four left₄ five left₅ ten left a b c d = grind arith

-- a digit
pub below_ten : (digit rest left divisor : ℕ) → digit * divisor + left ≡ 10 * rest → rest < divisor → digit < 10
below_ten digit rest left divisor is below = grind arith

-- three digits
pub thousand_times : (top divisor whole rest₀ a rest₁ b rest₂ c rest : ℕ) → top ≡ whole * divisor + rest₀ → a * divisor + rest₁ ≡ 10 * rest₀ → b * divisor + rest₂ ≡ 10 * rest₁ → c * divisor + rest ≡ 10 * rest₂
    → 1000 * top ≡ (1000 * whole + (100 * a + 10 * b + c)) * divisor + rest
thousand_times top divisor whole rest₀ a rest₁ b rest₂ c rest e f g h = grind arith

-- the nearest number of thousandths, by the rest behind them
pub rounds : (top divisor number near rest : ℕ) → 1000 * top ≡ number * divisor + rest → rest < divisor
    → (rest + rest < divisor → near ≡ number) → (divisor ≤ rest + rest → near ≡ number + 1)
    → (2 * (near * divisor) ≤ 2 * (1000 * top) + divisor) × (2 * (1000 * top) + divisor < 2 * (near * divisor) + 2 * divisor)
rounds top divisor number near rest is below down up = elim (cases_lt (rest + rest) divisor) [
  | inl low ↦ rw (down low) (grind arith, grind arith)
  | inr high ↦ rw (up high) (grind arith, grind arith)
]

pub nearest : (x : Fraction) (near : Nearest) (top divisor : ℕ) → top ≡ unsigned_abs x.num → divisor ≡ x.den → near.part < 1000
    → (2 * (thousandths near * divisor) ≤ 2 * (1000 * top) + divisor) × (2 * (1000 * top) + divisor < 2 * (thousandths near * divisor) + 2 * divisor) → IsNearest x near
nearest x near top divisor is over part both = record { part = part; not_over = rw (← is, ← over) both.0; not_under = rw (← is, ← over) both.1 }
