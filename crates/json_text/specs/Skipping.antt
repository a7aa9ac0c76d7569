-- What the place behind a value is, whatever stands behind it, and why none is there.
use Rattle.std.specs.Prelude.{◌≡◌, ℕ, ◌+◌, ◌<◌, ◌≤◌, Bool, true, false, List, ◌++◌, length, slice_range, IsTrue}
use Rattle.std.specs.Str.{IsUtf8}
use Rattle.json_text.specs.Json.{Json, text, IsJson, depth}
use Rattle.json_text.specs.Accepted.{IsInsideString}
use Rattle.json_text.specs.declared.fault.JsonCode.{JsonCode}
use Rattle.json_text.specs.declared.fault.JsonCode.TheVariants.{NotUtf8, TooDeep, Repeated, TooMany, NotJson, NoMemory}

-- the text of a value with that many containers open around it, of which at most 200 may be open where that is asked
pub record IsValueText (nested : Bool) (around : ℕ) (bytes : List ℕ) : Type 0 where
  pub value : Json
  pub is_json : IsJson value
  pub few : IsTrue nested → depth value + around ≤ 200
  pub spelled : bytes ≡ text value

-- some such text begins so
abbrev pub IsFront : Bool → ℕ → List ℕ → Type 0
IsFront nested around bytes = (more : List ℕ) × IsValueText nested around (bytes ++ more)

-- the longest stretch from a place on that is the front of some value ends at a place
pub record IsStretch (bytes : List ℕ) (at around k : ℕ) : Type 0 where
  pub behind : at ≤ k
  pub within : k ≤ length bytes
  pub front : IsFront true around (slice_range bytes at k)
  pub longest : k < length bytes → IsFront true around (slice_range bytes at (k + 1)) → ⊥

-- That stretch is a value.
pub record IsSkipped (bytes : List ℕ) (at around end : ℕ) : Type 0 where
  pub stretch : IsStretch bytes at around end
  pub value : IsValueText true around (slice_range bytes at end)

-- The byte behind the stretch stands in a string and can't go on UTF-8; or it opens a container too deep; or else.
abbrev pub HoldsAt : JsonCode → List ℕ → ℕ → ℕ → ℕ → Type 0
HoldsAt NotUtf8 bytes at around k = (k < length bytes) × IsInsideString (slice_range bytes at k) × ((more : List ℕ) → IsUtf8 (slice_range bytes at (k + 1) ++ more) → ⊥)
HoldsAt TooDeep bytes at around k = (k < length bytes) × IsFront false around (slice_range bytes at (k + 1))
HoldsAt Repeated bytes at around k = ⊥
HoldsAt TooMany bytes at around k = ⊥
HoldsAt NotJson bytes at around k = Unit {0}
HoldsAt NoMemory bytes at around k = ⊥

-- the kinds that come before one in the order of J4, J2, J1 do not hold
abbrev pub NoneBefore : JsonCode → List ℕ → ℕ → ℕ → ℕ → Type 0
NoneBefore NotUtf8 bytes at around k = Unit {0}
NoneBefore TooDeep bytes at around k = HoldsAt NotUtf8 bytes at around k → ⊥
NoneBefore Repeated bytes at around k = Unit {0}
NoneBefore TooMany bytes at around k = Unit {0}
NoneBefore NotJson bytes at around k = (HoldsAt NotUtf8 bytes at around k → ⊥) × (HoldsAt TooDeep bytes at around k → ⊥)
NoneBefore NoMemory bytes at around k = Unit {0}

-- The stretch is no value: the fault is at its end, and the kind is the first that holds there.
pub record IsSkipFault (bytes : List ℕ) (at around : ℕ) (code : JsonCode) (k : ℕ) : Type 0 where
  pub stretch : IsStretch bytes at around k
  pub no_value : IsValueText true around (slice_range bytes at k) → ⊥
  pub holds : HoldsAt code bytes at around k
  pub first : NoneBefore code bytes at around k
