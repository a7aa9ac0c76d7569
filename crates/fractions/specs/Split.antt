-- How the readers take a text apart, from its front. What a numeral is stands in `Numeral`; proofs/Grammar.antt ties the two.
use Rattle.std.specs.Prelude.{ℕ, Bool, true, false, not, ◌||◌, ◌&&◌, ◌==◌, List, [], ◌∷◌, Option, Some, None, if◌then◌else◌}
use Rattle.std.specs.Str.Parse.{starts_with_minus}
use Rattle.fractions.specs.Digits.{front_digits, behind_digits}
use Rattle.fractions.specs.Numeral.{Numeral}
use Rattle.fractions.specs.Quotient.{Quotient}

abbrev pub behind_minus : List ℕ → List ℕ
behind_minus [] = []
behind_minus (c ∷ cs) = if c == 45 then cs else (c ∷ cs)

abbrev pub behind_sign : List ℕ → List ℕ
behind_sign [] = []
behind_sign (c ∷ cs) = if c == 45 || c == 43 then cs else (c ∷ cs)

-- digits that are a whole part
abbrev pub is_whole : List ℕ → Bool
is_whole [] = false
is_whole (c ∷ []) = true
is_whole (c ∷ d ∷ ds) = not (c == 48)

-- one digit or more, and the rest
abbrev pub at_least_one : List ℕ → List ℕ → Option (List ℕ × List ℕ)
at_least_one [] rest = None
at_least_one (c ∷ cs) rest = Some (c ∷ cs, rest)

-- the digits behind a point, if there is a point, and the rest
abbrev pub part_of : List ℕ → Option (List ℕ × List ℕ)
part_of [] = Some ([], [])
part_of (c ∷ cs) = if c == 46 then at_least_one (front_digits cs) (behind_digits cs) else Some ([], c ∷ cs)

abbrev pub only_digits : Bool → List ℕ → List ℕ → Option (Bool × List ℕ)
only_digits negative [] rest = None
only_digits negative (c ∷ cs) [] = Some (negative, c ∷ cs)
only_digits negative (c ∷ cs) (d ∷ ds) = None

-- the sign and the digits behind `e` or `E`
abbrev pub signed_digits : List ℕ → Option (Bool × List ℕ)
signed_digits cs = only_digits (starts_with_minus cs) (front_digits (behind_sign cs)) (behind_digits (behind_sign cs))

abbrev pub power_of : List ℕ → Option (Bool × List ℕ)
power_of [] = Some (false, [])
power_of (c ∷ cs) = if c == 101 || c == 69 then signed_digits cs else None

abbrev pub with_power : Bool → List ℕ → List ℕ → Option (Bool × List ℕ) → Option Numeral
with_power negative whole part None = None
with_power negative whole part (Some p) = Some (record { negative = negative; whole = whole; part = part; power_negative = p.0; power = p.1 })

abbrev pub with_part : Bool → List ℕ → Option (List ℕ × List ℕ) → Option Numeral
with_part negative whole None = None
with_part negative whole (Some p) = with_power negative whole p.0 (power_of p.1)

abbrev pub unsigned_of : Bool → List ℕ → Option Numeral
unsigned_of negative text = if is_whole (front_digits text) then with_part negative (front_digits text) (part_of (behind_digits text)) else None

-- the numeral that a text writes
abbrev pub numeral_of : List ℕ → Option Numeral
numeral_of text = unsigned_of (starts_with_minus text) (behind_minus text)

-- ---- quotients
abbrev pub is_nothing : List ℕ → Bool
is_nothing [] = true
is_nothing (c ∷ cs) = false

-- digits that are a whole part other than 0
abbrev pub is_denominator : List ℕ → Bool
is_denominator [] = false
is_denominator (c ∷ cs) = not (c == 48) && is_nothing (behind_digits (c ∷ cs))

abbrev pub with_slash : Bool → List ℕ → List ℕ → Option Quotient
with_slash negative top [] = None
with_slash negative top (c ∷ cs) = if c == 47 && is_whole top && is_denominator cs then Some (record { negative = negative; top = top; bottom = cs }) else None

-- the quotient that a text writes
abbrev pub quotient_of : List ℕ → Option Quotient
quotient_of text = with_slash (starts_with_minus text) (front_digits (behind_minus text)) (behind_digits (behind_minus text))
