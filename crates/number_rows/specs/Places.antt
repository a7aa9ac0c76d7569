-- The places of a row at which its numbers aren't 0.
use Rattle.std.specs.Prelude.{◌≡◌, ℕ, ◌+◌, ◌<◌, ◌≤◌, List, [], ◌∷◌, length, ⊤}
use Rattle.fractions.specs.Fraction.{Fraction, zero_fraction}
use Rattle.linear_table.specs.Plans.{number_at}

-- the property holds from `from` on and before n, but maybe at the places, which rise
abbrev pub HoldsBut : (ℕ → Type 0) → ℕ → List ℕ → ℕ → Type 0
HoldsBut P from [] n = (k : ℕ) → from ≤ k → k < n → P k
HoldsBut P from (place ∷ places) n = (from ≤ place) × (place < n) × ((k : ℕ) → from ≤ k → k < place → P k) × HoldsBut P (place + 1) places n

-- the property fails at each of the places
abbrev pub FailsAt : (ℕ → Type 0) → List ℕ → Type 0
FailsAt P [] = ⊤
FailsAt P (place ∷ places) = (¬ P place) × FailsAt P places

-- all numbers but those at the places are 0
abbrev pub AreFilled : List ℕ → List Fraction → Type 0
AreFilled places row = HoldsBut (λ k. number_at row k ≡ zero_fraction) 0 places (length row)
