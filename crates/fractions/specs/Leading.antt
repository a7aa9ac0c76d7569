-- What the readers keep of a number's digits. What the value of a numeral is stands in `Numeral`; proofs/Magnitude.antt
-- ties the two.
use Rattle.std.specs.Prelude.{◌≡◌, ℕ, ◌^◌, ℤ, pos, neg_ℤ, ◌+ℤ◌, ◌-ℤ◌, List, length, take, min, if◌then◌else◌}
use Rattle.std.specs.Str.Parse.{digits_value}
use Rattle.fractions.specs.declared.numeral.Leading.{Leading}
use Rattle.fractions.specs.Numeral.{Numeral, significant}

-- how many digits there are from the first nonzero one on, and the number that the first 16 of them write
pub record IsLeading (ds : List ℕ) (l : Leading) : Type 0 where
  pub count_is : l.count ≡ length (significant ds)
  pub value_is : l.value ≡ digits_value 10 (take 16 (significant ds))

-- an exponent, or 10 ^ 20 with its sign where it is larger
abbrev pub near_exponent : Numeral → ℤ
near_exponent n = if n.power_negative then neg_ℤ (pos (min (digits_value 10 n.power) (10 ^ 20))) else pos (min (digits_value 10 n.power) (10 ^ 20))

-- the place of the first of so many digits, by that exponent
abbrev pub near_place : Numeral → ℕ → ℤ
near_place n count = pos count -ℤ pos 1 +ℤ near_exponent n -ℤ pos (length n.part)
