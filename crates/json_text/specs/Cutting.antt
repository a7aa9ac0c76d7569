-- What the scanning of a value has found, at its end and where it is cut short. Only clauses of private functions cite it.
use Rattle.std.specs.Prelude.{◌≡◌, ◌⊎◌, ℕ, suc, ◌+◌, ◌<◌, ◌≤◌, Bool, true, false, List, [], ◌∷◌, ◌++◌, length, slice_range, IsTrue, Some}
use Rattle.std.specs.List.{AllByRecursion}
use Rattle.json_text.specs.Text.{Char, IsChar, string_text, IsNumber}
use Rattle.json_text.specs.Json.{Json, Elements, Members, text, elements_text, members_text, IsJson, AreElements, AreMembers, depth, elements_depth, members_depth}
use Rattle.json_text.specs.Lexing.{number_next, is_nonzero}
use Rattle.json_text.specs.Skipping.{IsValueText, IsFront}
use Rattle.json_text.specs.declared.fault.JsonCode.{JsonCode}
use Rattle.json_text.specs.declared.fault.JsonCode.TheVariants.{NotUtf8, TooDeep, NotJson}
use Rattle.json_text.specs.declared.number.Phase.{Phase}
use Rattle.json_text.specs.declared.number.Phase.TheVariants.{Minus, Zero, Whole}

-- the phases of a numeral over some bytes
abbrev pub Phases : Phase → List ℕ → Phase → Type 0
Phases p [] q = p ≡ q
Phases p (b ∷ bytes) q = (next : Phase) × (number_next p b ≡ Some next) × Phases next bytes q

-- how a numeral begins
pub data Starts : ℕ → Phase → Type 0 where
  starts_zero : Starts 48 Zero
  starts_whole : (b : ℕ) → is_nonzero b ≡ true → Starts b Whole
  starts_minus : Starts 45 Minus

-- the front of a numeral, up to a phase
pub record NumberTo (phase : Phase) (bytes : List ℕ) : Type 0 where
  pub first : ℕ
  pub rest : List ℕ
  pub begin : Phase
  pub spelled : bytes ≡ first ∷ rest
  pub starts : Starts first begin
  pub phases : Phases begin rest phase

-- no numeral goes on behind a place
abbrev pub NumberStops : List ℕ → ℕ → ℕ → Type 0
NumberStops bytes at end = (more : List ℕ) → end < length bytes → IsNumber (slice_range bytes at (end + 1) ++ more) → ⊥

-- a front of a numeral that is none
pub record NumberCut (bytes : List ℕ) (at k : ℕ) : Type 0 where
  pub more : List ℕ
  pub some : 0 < length more
  pub number : IsNumber (slice_range bytes at k ++ more)
  pub cut : IsNumber (slice_range bytes at k) → ⊥

-- a front of some bytes
pub record WordCut (bytes : List ℕ) (at k : ℕ) (word : List ℕ) : Type 0 where
  pub behind : at ≤ k
  pub within : k ≤ length bytes
  pub more : List ℕ
  pub some : 0 < length more
  pub spelled : word ≡ slice_range bytes at k ++ more

-- a value that is no container
pub record IsScalarText (bytes : List ℕ) : Type 0 where
  pub value : Json
  pub is_json : IsJson value
  pub flat : depth value ≡ 0
  pub spelled : bytes ≡ text value

pub record ScalarCut (bytes : List ℕ) (at k : ℕ) : Type 0 where
  pub behind : at ≤ k
  pub within : k ≤ length bytes
  pub more : List ℕ
  pub some : 0 < length more
  pub scalar : IsScalarText (slice_range bytes at k ++ more)
  pub no_number : IsNumber (slice_range bytes at k) → ⊥

-- a string with its quotes, and the front of one
pub record IsStringText (bytes : List ℕ) : Type 0 where
  pub chars : List Char
  pub are : AllByRecursion IsChar chars
  pub spelled : bytes ≡ string_text chars

pub record StringCut (bytes : List ℕ) (at k : ℕ) : Type 0 where
  pub behind : at ≤ k
  pub within : k ≤ length bytes
  pub more : List ℕ
  pub some : 0 < length more
  pub string : IsStringText (slice_range bytes at k ++ more)

-- the front of a value, cut short
pub record ValueCut (around : ℕ) (bytes : List ℕ) (at k : ℕ) : Type 0 where
  pub behind : at ≤ k
  pub within : k ≤ length bytes
  pub more : List ℕ
  pub some : 0 < length more
  pub value : IsValueText true around (slice_range bytes at k ++ more)
  pub no_number : IsNumber (slice_range bytes at k) → ⊥

-- a bracket and the front of what stands behind it, cut short
pub record OpenCut (open_byte around : ℕ) (bytes : List ℕ) (at k : ℕ) : Type 0 where
  pub behind : at ≤ k
  pub within : k ≤ length bytes
  pub more : List ℕ
  pub some : 0 < length more
  pub value : IsValueText true around (open_byte ∷ (slice_range bytes at k ++ more))

-- with the byte at a place it goes on, if more containers may be open
abbrev pub OpenFront : ℕ → ℕ → List ℕ → ℕ → ℕ → Type 0
OpenFront open_byte around bytes at k = (k < length bytes) × (more : List ℕ) × IsValueText false around (open_byte ∷ (slice_range bytes at (k + 1) ++ more))

abbrev pub DeepFront : ℕ → List ℕ → ℕ → ℕ → Type 0
DeepFront around bytes at k = (k < length bytes) × IsFront false around (slice_range bytes at (k + 1))

-- elements of a list, and members of an object
pub record ElementsText (nested : Bool) (around : ℕ) (bytes : List ℕ) : Type 0 where
  pub elements : Elements
  pub are : AreElements elements
  pub few : IsTrue nested → suc (elements_depth elements) + around ≤ 200
  pub spelled : bytes ≡ elements_text elements

pub record MembersText (nested : Bool) (around : ℕ) (bytes : List ℕ) : Type 0 where
  pub members : Members
  pub are : AreMembers members
  pub few : IsTrue nested → suc (members_depth members) + around ≤ 200
  pub spelled : bytes ≡ members_text members

-- what was read of a list or of an object goes on with any elements or members
abbrev pub Listed : ℕ → List ℕ → ℕ → ℕ → Type 0
Listed around bytes at place = (nested : Bool) (xs : List ℕ) → ElementsText nested around xs → ElementsText nested around (slice_range bytes at place ++ xs)

abbrev pub Named : ℕ → List ℕ → ℕ → ℕ → Type 0
Named around bytes at place = (nested : Bool) (xs : List ℕ) → MembersText nested around xs → MembersText nested around (slice_range bytes at place ++ xs)

-- the kinds of faults that a string or a word can have, and those of a value
abbrev pub IsLexCode : JsonCode → Type 0
IsLexCode code = (code ≡ NotUtf8) ⊎ (code ≡ NotJson)

abbrev pub IsSkipCode : JsonCode → Type 0
IsSkipCode code = (code ≡ NotUtf8) ⊎ ((code ≡ TooDeep) ⊎ (code ≡ NotJson))
