-- Sums of products of fractions, formed in order from 0 with one multiplication and one addition for each place. A
-- step is wide where the product's lowest terms, or the sum over the least common denominator, have a part of 2 ^ 127
-- or more. The limits are those of the crate of fractions.
use Rattle.std.specs.Prelude.{ℕ, ◌<◌}
use Rattle.fractions.specs.Fraction.{Fraction, ◌*ʳ◌}
use Rattle.fractions.specs.Limits.{IsNarrow, SumFits}
use Rattle.linear_table.specs.System.{sum_below}

-- the sum of left 0 * right 0, left 1 * right 1 and so on below n
abbrev pub sum_of_products : ℕ → (ℕ → Fraction) → (ℕ → Fraction) → Fraction
sum_of_products n left right = sum_below n (λ k. left k *ʳ right k)

-- neither the product nor the sum with it is wide
abbrev pub ProductFits : Fraction → Fraction → Fraction → Type 0
ProductFits sum left right = IsNarrow (left *ʳ right) × SumFits sum (left *ʳ right)

-- no step of the sum below n is wide
abbrev pub IsFormed : ℕ → (ℕ → Fraction) → (ℕ → Fraction) → Type 0
IsFormed n left right = (k : ℕ) → k < n → ProductFits (sum_of_products k left right) (left k) (right k)
