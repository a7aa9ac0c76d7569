-- How strings and numerals are read, byte by byte. Only clauses of private functions cite it.
use Rattle.std.specs.Prelude.{◌≡◌, ℕ, ◌+◌, ◌-◌, ◌*◌, ◌==◌, nat_lt, nat_le, ◌&&◌, ◌||◌, Bool, true, false, not, if◌then◌else◌, List, [], ◌∷◌, ◌++◌, encode_utf8, Option, Some, None}
use Rattle.std.specs.Char.{digit_value}
use Rattle.json_text.specs.Text.{short_value}
use Rattle.json_text.specs.declared.fault.JsonCode.TheVariants.{NotUtf8, NotJson}
use Rattle.json_text.specs.declared.lex.Lex.{Lex}
use Rattle.json_text.specs.declared.lex.Lex.TheVariants.{Between, Tail1, Tail2, Tail3, BehindE0, BehindEd, BehindF0, BehindF4, Escape, Hex0, Hex1, Hex2, Hex3, Backslash, LetterU, Low0, Low1, Low2, Low3}
use Rattle.json_text.specs.declared.lex.LexGo.{LexGo}
use Rattle.json_text.specs.declared.lex.LexGo.TheVariants.{Goes, Ends, Bad}
use Rattle.json_text.specs.declared.number.Phase.{Phase}
use Rattle.json_text.specs.declared.number.Phase.TheVariants.{Minus, Zero, Whole, Dot, Fraction, Mark, Sign, Exponent}

abbrev pub starts_char : ℕ → Bool
starts_char b = nat_lt b 128 || (nat_le 194 b && nat_le b 244)

abbrev pub bad_byte : ℕ → LexGo
bad_byte b = if starts_char b then Bad NotJson else Bad NotUtf8

abbrev pub lead : ℕ → LexGo
lead b = if nat_lt b 194 then Bad NotUtf8 else if nat_lt b 224 then Goes Tail1 else if b == 224 then Goes BehindE0 else if b == 237 then Goes BehindEd else if nat_lt b 240 then Goes Tail2
    else if b == 240 then Goes BehindF0 else if nat_lt b 244 then Goes Tail3 else if b == 244 then Goes BehindF4 else Bad NotUtf8

abbrev pub between : ℕ → LexGo
between b = if b == 34 then Ends else if b == 92 then Goes Escape else if nat_lt b 32 then Bad NotJson else if nat_lt b 128 then Goes Between else lead b

abbrev pub ranged : ℕ → ℕ → Lex → ℕ → LexGo
ranged low high next b = if nat_le low b && nat_le b high then Goes next else Bad NotUtf8

abbrev pub is_short : ℕ → Bool
is_short b = b == 34 || (b == 92 || (b == 47 || (b == 98 || (b == 102 || (b == 110 || (b == 114 || b == 116))))))

abbrev pub escape : ℕ → LexGo
escape b = if b == 117 then Goes Hex0 else if is_short b then Goes Between else bad_byte b

abbrev pub is_hex : ℕ → Bool
is_hex b = nat_lt (digit_value b) 16

abbrev pub hex_of : ℕ → Option ℕ
hex_of b = if is_hex b then Some (digit_value b) else None

abbrev pub if_hex : ℕ → LexGo → LexGo
if_hex b next = if is_hex b then next else bad_byte b

abbrev pub more : ℕ → ℕ → ℕ
more value b = 16 * value + digit_value b

-- the front of a low surrogate
abbrev pub is_low : ℕ → Bool
is_low value = nat_le 0xDC value && nat_le value 0xDF

abbrev pub second_hex : ℕ → LexGo
second_hex value = if is_low value then Bad NotJson else Goes (Hex2 value)

abbrev pub is_high : ℕ → Bool
is_high value = nat_le 0xD800 value && nat_lt value 0xDC00

abbrev pub last_hex : ℕ → LexGo
last_hex value = if is_high value then Goes (Backslash value) else Goes Between

abbrev pub low_first : ℕ → ℕ → LexGo
low_first high value = if value == 13 then Goes (Low1 high) else Bad NotJson

abbrev pub low_second : ℕ → ℕ → LexGo
low_second high value = if is_low value then Goes (Low2 high value) else Bad NotJson

abbrev pub expect : ℕ → Lex → ℕ → LexGo
expect c next b = if b == c then Goes next else bad_byte b

abbrev pub lex_next : Lex → ℕ → LexGo
lex_next Between b = between b
lex_next Tail1 b = ranged 128 191 Between b
lex_next Tail2 b = ranged 128 191 Tail1 b
lex_next Tail3 b = ranged 128 191 Tail2 b
lex_next BehindE0 b = ranged 160 191 Tail1 b
lex_next BehindEd b = ranged 128 159 Tail1 b
lex_next BehindF0 b = ranged 144 191 Tail2 b
lex_next BehindF4 b = ranged 128 143 Tail2 b
lex_next Escape b = escape b
lex_next Hex0 b = if_hex b (Goes (Hex1 (digit_value b)))
lex_next (Hex1 value) b = if_hex b (second_hex (more value b))
lex_next (Hex2 value) b = if_hex b (Goes (Hex3 (more value b)))
lex_next (Hex3 value) b = if_hex b (last_hex (more value b))
lex_next (Backslash high) b = expect 92 (LetterU high) b
lex_next (LetterU high) b = expect 117 (Low0 high) b
lex_next (Low0 high) b = if_hex b (low_first high (digit_value b))
lex_next (Low1 high) b = if_hex b (low_second high (more 13 b))
lex_next (Low2 high value) b = if_hex b (Goes (Low3 high (more value b)))
lex_next (Low3 high value) b = if_hex b (Goes Between)

-- the character of two surrogates
abbrev pub pair : ℕ → ℕ → ℕ
pair high low = 0x1_0000 + 1024 * (high - 0xD800) + (low - 0xDC00)

-- the bytes that a byte adds to what the string stands for
abbrev pub lex_emits : Lex → ℕ → List ℕ
lex_emits Between b = if b == 92 then [] else b ∷ []
lex_emits Tail1 b = b ∷ []
lex_emits Tail2 b = b ∷ []
lex_emits Tail3 b = b ∷ []
lex_emits BehindE0 b = b ∷ []
lex_emits BehindEd b = b ∷ []
lex_emits BehindF0 b = b ∷ []
lex_emits BehindF4 b = b ∷ []
lex_emits Escape b = if b == 117 then [] else encode_utf8 (short_value b)
lex_emits Hex0 b = []
lex_emits (Hex1 value) b = []
lex_emits (Hex2 value) b = []
lex_emits (Hex3 value) b = if is_high (more value b) then [] else encode_utf8 (more value b)
lex_emits (Backslash high) b = []
lex_emits (LetterU high) b = []
lex_emits (Low0 high) b = []
lex_emits (Low1 high) b = []
lex_emits (Low2 high value) b = []
lex_emits (Low3 high value) b = encode_utf8 (pair high (more value b))

-- the state behind a byte, and behind some
abbrev pub went : LexGo → Lex
went (Goes lex) = lex
went Ends = Between
went (Bad code) = Between

abbrev pub lex_after : Lex → ℕ → Lex
lex_after lex b = went (lex_next lex b)

abbrev pub lex_end : Lex → List ℕ → Lex
lex_end lex [] = lex
lex_end lex (b ∷ bytes) = lex_end (lex_after lex b) bytes

-- what some bytes add
abbrev pub lexed : Lex → List ℕ → List ℕ
lexed lex [] = []
lexed lex (b ∷ bytes) = lex_emits lex b ++ lexed (lex_after lex b) bytes

-- a string goes on with each of the bytes
abbrev pub LexRuns : Lex → List ℕ → Type 0
LexRuns lex [] = Unit {0}
LexRuns lex (b ∷ bytes) = (lex_next lex b ≡ Goes (lex_after lex b)) × LexRuns (lex_after lex b) bytes

-- a byte that stands for itself
abbrev pub is_plain : ℕ → Bool
is_plain b = nat_le 32 b && (nat_lt b 128 && (not (b == 34) && not (b == 92)))

-- numerals
abbrev pub is_nonzero : ℕ → Bool
is_nonzero b = nat_le 49 b && nat_le b 57

abbrev pub is_digit : ℕ → Bool
is_digit b = nat_le 48 b && nat_le b 57

abbrev pub is_mark : ℕ → Bool
is_mark b = b == 101 || b == 69

abbrev pub is_sign : ℕ → Bool
is_sign b = b == 43 || b == 45

abbrev pub number_next : Phase → ℕ → Option Phase
number_next Minus b = if b == 48 then Some Zero else if is_nonzero b then Some Whole else None
number_next Zero b = if b == 46 then Some Dot else if is_mark b then Some Mark else None
number_next Whole b = if is_digit b then Some Whole else if b == 46 then Some Dot else if is_mark b then Some Mark else None
number_next Dot b = if is_digit b then Some Fraction else None
number_next Fraction b = if is_digit b then Some Fraction else if is_mark b then Some Mark else None
number_next Mark b = if is_digit b then Some Exponent else if is_sign b then Some Sign else None
number_next Sign b = if is_digit b then Some Exponent else None
number_next Exponent b = if is_digit b then Some Exponent else None

abbrev pub is_whole : Phase → Bool
is_whole Minus = false
is_whole Zero = true
is_whole Whole = true
is_whole Dot = false
is_whole Fraction = true
is_whole Mark = false
is_whole Sign = false
is_whole Exponent = true
