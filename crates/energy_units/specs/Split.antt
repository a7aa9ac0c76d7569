-- How the reader takes a text apart, from its front. What an energy text is stands in `Energy`; proofs/Grammar.antt ties
-- the two.
use Rattle.std.specs.Prelude.{ℕ, zero, suc, ◌+◌, List, [], ◌∷◌, length, drop, Option, Some, None, if◌then◌else◌, ◌==◌}
use Rattle.fractions.specs.Digits.{front_digits}
use Rattle.energy_units.specs.Energy.{letter_power, unit_factor}
use Rattle.energy_units.specs.declared.Measure.{Measure}

-- how long the whole part at the front is
abbrev pub whole_len : List ℕ → ℕ
whole_len [] = 0
whole_len (c ∷ cs) = if c == 48 then 1 else length (front_digits (c ∷ cs))

-- how long a point and so many digits are
abbrev pub point_len : ℕ → ℕ
point_len zero = 0
point_len (suc k) = suc (suc k)

-- how long the point and the digits at the front are
abbrev pub part_len : List ℕ → ℕ
part_len [] = 0
part_len (c ∷ cs) = if c == 46 then point_len (length (front_digits cs)) else 0

abbrev pub number_len : List ℕ → ℕ
number_len text = whole_len text + part_len (drop (whole_len text) text)

-- the power of the prefix at the front, and what stands behind it
abbrev pub behind_prefix_by : Option ℕ → ℕ → List ℕ → ℕ × List ℕ
behind_prefix_by None c cs = (0, c ∷ cs)
behind_prefix_by (Some power) c cs = (power, cs)

abbrev pub behind_prefix : List ℕ → ℕ × List ℕ
behind_prefix [] = (0, [])
behind_prefix (c ∷ cs) = behind_prefix_by (letter_power c) c cs

-- the factor of a text that is a unit
abbrev pub factor_of : Measure → List ℕ → Option ℕ
factor_of measure [] = None
factor_of measure (c ∷ []) = unit_factor measure c
factor_of measure (c ∷ d ∷ cs) = None
