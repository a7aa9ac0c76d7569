-- Exact quotients: `-`, a whole part, `/`, and a whole part that is not 0. The form is this project's own.
use Rattle.std.specs.Prelude.{◌≡◌, ℕ, ◌<◌, ◌^◌, pos, List, ◌∷◌, ◌++◌, Bool}
use Rattle.std.specs.Str.Parse.{digits_value}
use Rattle.fractions.specs.Fraction.{Fraction, frac}
use Rattle.fractions.specs.Numeral.{IsWholePart, sign_text, signed}

-- a quotient of two whole numbers, each by its digits
pub record Quotient : Type 0 where
  pub negative : Bool
  pub top : List ℕ
  pub bottom : List ℕ

-- the text writes the quotient: a sign, a whole part, `/`, and a whole part that is not 0
pub record WritesQuotient (text : List ℕ) (q : Quotient) : Type 0 where
  pub top_is : IsWholePart q.top
  pub bottom_is : IsWholePart q.bottom
  pub nonzero : 0 < digits_value 10 q.bottom
  pub text_is : text ≡ sign_text q.negative ++ (q.top ++ 47 ∷ q.bottom)

abbrev pub quotient_value : Quotient → Fraction
quotient_value q = signed q.negative (frac (pos (digits_value 10 q.top)) (digits_value 10 q.bottom))

-- both parts are below 10 ^ 18
pub record IsModerate (q : Quotient) : Type 0 where
  pub top_below : digits_value 10 q.top < 10 ^ 18
  pub bottom_below : digits_value 10 q.bottom < 10 ^ 18
