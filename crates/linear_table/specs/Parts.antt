-- The parts of a column: pairs of a good's place and an amount.
use Rattle.std.specs.Prelude.{ℕ, List, [], ◌∷◌, if◌then◌else◌, ◌==◌}
use Rattle.fractions.specs.Fraction.{Fraction, zero_fraction}

-- the amount at a good's place, 0 where there is none
abbrev pub part_at : List (ℕ × Fraction) → ℕ → Fraction
part_at [] g = zero_fraction
part_at (p ∷ ps) g = if p.0 == g then p.1 else part_at ps g
