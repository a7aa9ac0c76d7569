-- What a sink gains.
use Rattle.std.specs.Prelude.{◌≡◌, ℕ, Bool, true, false, List, ◌++◌, Option}
use Rattle.std.specs.Io.KnownBytes.{Appends}

-- known bytes grow by a front of these
abbrev pub AppendsFront : Option (List ℕ) → Option (List ℕ) → List ℕ → Type 0
AppendsFront old new bytes = (front : List ℕ) × (rest : List ℕ) × (front ++ rest ≡ bytes) × Appends old new front

-- known bytes grow by these, or by a front of them where writing was cut off
abbrev pub Adds : Bool → Option (List ℕ) → Option (List ℕ) → List ℕ → Type 0
Adds false old new bytes = Appends old new bytes
Adds true old new bytes = AppendsFront old new bytes
