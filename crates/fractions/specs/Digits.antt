-- The digits at the front of a text, and what stands behind them.
use Rattle.std.specs.Prelude.{ℕ, List, [], ◌∷◌, cond}
use Rattle.std.specs.Char.{is_ascii_digit}

abbrev pub front_digits : List ℕ → List ℕ
front_digits [] = []
front_digits (c ∷ cs) = cond (is_ascii_digit c) (c ∷ front_digits cs) []

abbrev pub behind_digits : List ℕ → List ℕ
behind_digits [] = []
behind_digits (c ∷ cs) = cond (is_ascii_digit c) (behind_digits cs) (c ∷ cs)
