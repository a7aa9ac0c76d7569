-- What a byte adds to the text that a string stands for. Only clauses of private functions cite it.
use Rattle.std.specs.Prelude.{◌≡◌, ℕ, ◌<◌, ◌≤◌, true, false, List, [], ◌∷◌, encode_utf8}
use Rattle.std.specs.Char.{IsScalar}
use Rattle.json_text.specs.Lexing.{is_hex, is_high, more}
use Rattle.json_text.specs.declared.lex.Lex.{Lex}
use Rattle.json_text.specs.declared.lex.Lex.TheVariants.{Between, Tail1, Tail2, Tail3, BehindE0, BehindEd, BehindF0, BehindF4, Escape, Hex0, Hex1, Hex2, Hex3, Backslash, LetterU, Low0, Low1, Low2, Low3}
use Rattle.json_text.specs.declared.text.Emitted.{Emitted}
use Rattle.json_text.specs.declared.text.Emitted.TheVariants.{Nothing, Byte, Char}

abbrev pub emitted_bytes : Emitted → List ℕ
emitted_bytes Nothing = []
emitted_bytes (Byte b) = b ∷ []
emitted_bytes (Char c) = encode_utf8 c

-- the two halves of a surrogate pair
pub record IsHighHalf (high : ℕ) : Type 0 where
  pub from_low : 0xD800 ≤ high
  pub below : high < 0xDC00

pub record IsLowHalf (value : ℕ) : Type 0 where
  pub from_low : 0xDC00 ≤ value
  pub below : value < 0xE000

-- the byte goes on with the string, and what it adds is whole characters
abbrev pub CanEmit : Lex → ℕ → Type 0
CanEmit Between b = Unit {0}
CanEmit Tail1 b = Unit {0}
CanEmit Tail2 b = Unit {0}
CanEmit Tail3 b = Unit {0}
CanEmit BehindE0 b = Unit {0}
CanEmit BehindEd b = Unit {0}
CanEmit BehindF0 b = Unit {0}
CanEmit BehindF4 b = Unit {0}
CanEmit Escape b = b < 128
CanEmit Hex0 b = Unit {0}
CanEmit (Hex1 v) b = Unit {0}
CanEmit (Hex2 v) b = Unit {0}
CanEmit (Hex3 v) b = (is_hex b ≡ true) × (is_high (more v b) ≡ false → IsScalar (more v b))
CanEmit (Backslash high) b = Unit {0}
CanEmit (LetterU high) b = Unit {0}
CanEmit (Low0 high) b = Unit {0}
CanEmit (Low1 high) b = Unit {0}
CanEmit (Low2 high v) b = Unit {0}
CanEmit (Low3 high v) b = (is_hex b ≡ true) × IsHighHalf high × IsLowHalf (more v b)
