-- What stands in a string when a byte is refused: whether it can go on UTF-8.
use Rattle.std.proofs.Common.{◌≡◌, ℕ, zero, suc, ◌+◌, ◌-◌, ◌*◌, ◌<◌, ◌≤◌, List, [], ◌∷◌, ◌++◌, refl, ap, sym, subst, ◌∙◌, arith, Bool, true, false, inl, inr, append_assoc, append-nil}
use Rattle.std.specs.Prelude as s
use Rattle.std.specs.Prelude.{◌⊎◌, ◌≢◌, ◌&&◌, ◌||◌, if◌then◌else◌, nat_le, nat_lt, ◌==◌, encode_utf8, flat_map}
use Rattle.std.specs.List.{AllByRecursion}
use Rattle.std.specs.Char.{digit_value, IsScalar}
use Rattle.std.specs.Str.{IsUtf8, encode_utf8_all}
use Rattle.std.proofs.lemmas.Bool.Decides.{nat_tests}
use Rattle.std.proofs.lemmas.Str.{IsUtf8-append, IsUtf8-nil, IsUtf8-encode, IsUtf8-past_char, encode_ascii}
use Rattle.json_text.specs.Text.{Char, plain, short, unicode, surrogates, IsChar, char_text, char_value, short_value, string_value}
use Rattle.json_text.specs.Lexing.{between, ranged, is_short, is_hex, bad_byte, starts_char, more, is_low, is_high, second_hex, last_hex, low_first, low_second, lex_next, pair}
use Rattle.json_text.specs.Accepted.{Inside, outside, inside, escaped, inside_after}
use Rattle.json_text.specs.declared.fault.JsonCode.{JsonCode}
use Rattle.json_text.specs.declared.fault.JsonCode.TheVariants.{NotUtf8, NotJson}
use Rattle.json_text.specs.declared.lex.Lex.{Lex}
use Rattle.json_text.specs.declared.lex.Lex.TheVariants.{Between, Tail1, Tail2, Tail3, BehindE0, BehindEd, BehindF0, BehindF4, Escape, Hex0, Hex1, Hex2, Hex3, Backslash, LetterU, Low0, Low1, Low2, Low3}
use Rattle.json_text.specs.declared.lex.LexGo.{LexGo}
use Rattle.json_text.specs.declared.lex.LexGo.TheVariants.{Goes, Ends, Bad}
use Rattle.json_text.proofs.Utf8.{Promise, first_byte, scalar_low, two, three, four, order, scalar_high}
use Rattle.json_text.proofs.Chars.{split, Pending, shown, ReadSoFar, between_a, between_b, between_c, lead_a, lead_b, lead_c, lead_d, lead_e, lead_f, lead_g}

-- ASCII is UTF-8
pub one_utf8 : (b : ℕ) → b < 128 → IsUtf8 (b ∷ [])
one_utf8 b h = subst IsUtf8 (encode_ascii b h) (IsUtf8-encode b (scalar_low b (omega arith)))

pub ascii_utf8 : (bs : List ℕ) → AllByRecursion (λ b. b < 128) bs → IsUtf8 bs
ascii_utf8 [] h = IsUtf8-nil
ascii_utf8 (b ∷ bs) h = IsUtf8-append (b ∷ []) bs (one_utf8 b h.0) (ascii_utf8 bs h.1)

pub utf8_push : (bs : List ℕ) (b : ℕ) → IsUtf8 bs → b < 128 → IsUtf8 (bs ++ b ∷ [])
utf8_push bs b u h = IsUtf8-append bs (b ∷ []) u (one_utf8 b h)

utf8_strip_chars : (cs ys : List ℕ) → IsUtf8 (encode_utf8_all cs ++ ys) → IsUtf8 ys
utf8_strip_chars [] ys u = u
utf8_strip_chars (c ∷ cs) ys u = utf8_strip_chars cs ys (IsUtf8-past_char (encode_utf8_all (c ∷ cs) ++ ys) (encode_utf8_all cs ++ ys) c u (append_assoc (encode_utf8 c) (encode_utf8_all cs) ys))

pub utf8_strip : (xs ys : List ℕ) → IsUtf8 xs → IsUtf8 (xs ++ ys) → IsUtf8 ys
utf8_strip xs ys u v = utf8_strip_chars u.0 ys (subst (λ x. IsUtf8 (x ++ ys)) (sym u.1.1) v)

hex_ascii : (b : ℕ) → digit_value b < 16 → b < 128
hex_ascii b h = grind (arith, nat_tests)

is_hex_small : (b : ℕ) → is_hex b ≡ true → digit_value b < 16
is_hex_small b h = grind (arith, nat_tests)

pub hexes_ascii : (ds : List ℕ) → AllByRecursion (λ d. digit_value d < 16) ds → AllByRecursion (λ b. b < 128) ds
hexes_ascii [] h = tt
hexes_ascii (d ∷ ds) h = (hex_ascii d h.0, hexes_ascii ds h.1)

all_append : (xs ys : List ℕ) → AllByRecursion (λ b. b < 128) xs → AllByRecursion (λ b. b < 128) ys → AllByRecursion (λ b. b < 128) (xs ++ ys)
all_append [] ys h i = i
all_append (x ∷ xs) ys h i = (h.0, all_append xs ys h.1 i)

escape_utf8 : (pend ds xs : List ℕ) → AllByRecursion (λ d. digit_value d < 16) ds → AllByRecursion (λ b. b < 128) xs → pend ≡ 92 ∷ 117 ∷ (ds ++ xs) → IsUtf8 pend
escape_utf8 pend ds xs h i e = subst IsUtf8 (sym e) (ascii_utf8 (92 ∷ 117 ∷ (ds ++ xs)) (omega arith, (omega arith, all_append ds xs (hexes_ascii ds h) i)))

hex_char : (b : ℕ) → is_hex b ≡ true → b < 128
hex_char b h = hex_ascii b (is_hex_small b h)

back_u : AllByRecursion (λ b. b < 128) (92 ∷ 117 ∷ [])
back_u = (omega arith, (omega arith, tt))

letter_ascii : (b : ℕ) → (b ≡ 34) ⊎ ((b ≡ 92) ⊎ (b < 128)) → b < 128
letter_ascii b (inl e) = omega arith
letter_ascii b (inr (inl e)) = omega arith
letter_ascii b (inr (inr h)) = h

short_ascii : (k b : ℕ) → k < 8 → s.slice_index_or (s.codes "\"\\/bfnrt") k b ≡ b → b < 128
short_ascii zero b h e = subst (λ x. x < 128) e (omega arith)
short_ascii (suc zero) b h e = subst (λ x. x < 128) e (omega arith)
short_ascii (suc (suc zero)) b h e = subst (λ x. x < 128) e (omega arith)
short_ascii (suc (suc (suc zero))) b h e = subst (λ x. x < 128) e (omega arith)
short_ascii (suc (suc (suc (suc zero)))) b h e = subst (λ x. x < 128) e (omega arith)
short_ascii (suc (suc (suc (suc (suc zero))))) b h e = subst (λ x. x < 128) e (omega arith)
short_ascii (suc (suc (suc (suc (suc (suc zero)))))) b h e = subst (λ x. x < 128) e (omega arith)
short_ascii (suc (suc (suc (suc (suc (suc (suc zero))))))) b h e = subst (λ x. x < 128) e (omega arith)
short_ascii (suc (suc (suc (suc (suc (suc (suc (suc k)))))))) b h e = absurd (omega arith)

-- each character is spelled in UTF-8, and so are they all
char_utf8 : (c : Char) → IsChar c → IsUtf8 (char_text c)
char_utf8 (plain c) h = IsUtf8-encode c h.0
char_utf8 (short b) h = ascii_utf8 (92 ∷ b ∷ []) (omega arith, (short_ascii h.0 b h.1 h.2, tt))
char_utf8 (unicode hex) h = ascii_utf8 (92 ∷ 117 ∷ hex) (omega arith, (omega arith, hexes_ascii hex h.0.1))
char_utf8 (surrogates high low) h = escape_utf8 (char_text (surrogates high low)) high (92 ∷ 117 ∷ low) h.0.1 (omega arith, (omega arith, hexes_ascii low h.1.1)) refl

pub chars_utf8 : (cs : List Char) → AllByRecursion IsChar cs → IsUtf8 (flat_map char_text cs)
chars_utf8 [] h = IsUtf8-nil
chars_utf8 (c ∷ cs) h = IsUtf8-append (char_text c) (flat_map char_text cs) (char_utf8 c h.0) (chars_utf8 cs h.1)

-- what they stand for is UTF-8 too
short_value_ascii : (k b : ℕ) → k < 8 → s.slice_index_or (s.codes "\"\\/bfnrt") k b ≡ b → short_value b < 128
short_value_ascii zero b h e = subst (λ x. short_value x < 128) e (omega arith)
short_value_ascii (suc zero) b h e = subst (λ x. short_value x < 128) e (omega arith)
short_value_ascii (suc (suc zero)) b h e = subst (λ x. short_value x < 128) e (omega arith)
short_value_ascii (suc (suc (suc zero))) b h e = subst (λ x. short_value x < 128) e (omega arith)
short_value_ascii (suc (suc (suc (suc zero)))) b h e = subst (λ x. short_value x < 128) e (omega arith)
short_value_ascii (suc (suc (suc (suc (suc zero))))) b h e = subst (λ x. short_value x < 128) e (omega arith)
short_value_ascii (suc (suc (suc (suc (suc (suc zero)))))) b h e = subst (λ x. short_value x < 128) e (omega arith)
short_value_ascii (suc (suc (suc (suc (suc (suc (suc zero))))))) b h e = subst (λ x. short_value x < 128) e (omega arith)
short_value_ascii (suc (suc (suc (suc (suc (suc (suc (suc k)))))))) b h e = absurd (omega arith)

pair_scalar : (h l : ℕ) → 0xD800 ≤ h → h < 0xDC00 → 0xDC00 ≤ l → l < 0xE000 → IsScalar (pair h l)
pair_scalar h l a b c d = scalar_high (pair h l) (omega arith) (omega arith)

value_utf8 : (c : Char) → IsChar c → IsUtf8 (char_value c)
value_utf8 (plain c) h = IsUtf8-encode c h.0
value_utf8 (short b) h = IsUtf8-encode (short_value b) (scalar_low (short_value b) (omega (arith, short_value_ascii h.0 b h.1 h.2)))
value_utf8 (unicode hex) h = IsUtf8-encode _ h.1
value_utf8 (surrogates high low) h = IsUtf8-encode _ (pair_scalar _ _ h.2 h.3 h.4 h.5)

pub string_utf8 : (cs : List Char) → AllByRecursion IsChar cs → IsUtf8 (string_value cs)
string_utf8 [] h = IsUtf8-nil
string_utf8 (c ∷ cs) h = IsUtf8-append (char_value c) (string_value cs) (value_utf8 c h.0) (string_utf8 cs h.1)

-- What was read is UTF-8 but for the bytes of a character that isn't whole.
pub record Known (lex : Lex) (raw pend : List ℕ) : Type 0 where
  pub known : List ℕ
  pub utf8 : IsUtf8 known
  pub raw_is : raw ≡ known ++ shown lex pend

tail_known : (lex : Lex) (raw s : List ℕ) (r : ReadSoFar raw s lex) → shown lex r.pend ≡ r.pend → Known lex raw r.pend
tail_known lex raw s r e = record { known = flat_map char_text r.chars; utf8 = chars_utf8 r.chars r.are; raw_is = r.raw_is ∙ ap (λ x. flat_map char_text r.chars ++ x) (sym e) }

silent_known : (lex : Lex) (raw s : List ℕ) (r : ReadSoFar raw s lex) → shown lex r.pend ≡ [] → IsUtf8 r.pend → Known lex raw r.pend
silent_known lex raw s r e u = record {
  known = flat_map char_text r.chars ++ r.pend;
  utf8 = IsUtf8-append (flat_map char_text r.chars) r.pend (chars_utf8 r.chars r.are) u;
  raw_is = r.raw_is ∙ sym (append-nil (flat_map char_text r.chars ++ r.pend)) ∙ ap (λ x. (flat_map char_text r.chars ++ r.pend) ++ x) (sym e);
}

pub known_of : (lex : Lex) (raw s : List ℕ) (r : ReadSoFar raw s lex) → Known lex raw r.pend
known_of Between raw s r = silent_known Between raw s r refl (subst IsUtf8 (sym r.pending) IsUtf8-nil)
known_of Tail1 raw s r = tail_known Tail1 raw s r refl
known_of Tail2 raw s r = tail_known Tail2 raw s r refl
known_of Tail3 raw s r = tail_known Tail3 raw s r refl
known_of BehindE0 raw s r = tail_known BehindE0 raw s r refl
known_of BehindEd raw s r = tail_known BehindEd raw s r refl
known_of BehindF0 raw s r = tail_known BehindF0 raw s r refl
known_of BehindF4 raw s r = tail_known BehindF4 raw s r refl
known_of Escape raw s r = silent_known Escape raw s r refl (subst IsUtf8 (sym r.pending) (one_utf8 92 (omega arith)))
known_of Hex0 raw s r = silent_known Hex0 raw s r refl (subst IsUtf8 (sym r.pending) (ascii_utf8 (92 ∷ 117 ∷ []) back_u))
known_of (Hex1 v) raw s r = let p = r.pending in silent_known (Hex1 v) raw s r refl (subst IsUtf8 (sym p.3) (ascii_utf8 (92 ∷ 117 ∷ p.0 ∷ []) (omega arith, (omega arith, (hex_char p.0 p.1, tt)))))
known_of (Hex2 v) raw s r = let p = r.pending in silent_known (Hex2 v) raw s r refl (subst IsUtf8 (sym p.6) (ascii_utf8 (92 ∷ 117 ∷ p.0 ∷ p.1 ∷ []) (omega arith, (omega arith, (hex_char p.0 p.2, (hex_char p.1 p.3, tt))))))
known_of (Hex3 v) raw s r = let p = r.pending in silent_known (Hex3 v) raw s r refl (subst IsUtf8 (sym p.8) (ascii_utf8 (92 ∷ 117 ∷ p.0 ∷ p.1 ∷ p.2 ∷ []) (omega arith, (omega arith, (hex_char p.0 p.3, (hex_char p.1 p.4, (hex_char p.2 p.5, tt)))))))
known_of (Backslash high) raw s r = let p = r.pending in silent_known (Backslash high) raw s r refl (escape_utf8 r.pend p.0 [] p.1.0.1 tt (p.2 ∙ ap (λ x. 92 ∷ 117 ∷ x) (sym (append-nil p.0))))
known_of (LetterU high) raw s r = let p = r.pending in silent_known (LetterU high) raw s r refl (escape_utf8 r.pend p.0 (92 ∷ []) p.1.0.1 (omega arith, tt) p.2)
known_of (Low0 high) raw s r = let p = r.pending in silent_known (Low0 high) raw s r refl (escape_utf8 r.pend p.0 (92 ∷ 117 ∷ []) p.1.0.1 back_u p.2)
known_of (Low1 high) raw s r = let p = r.pending in let t = p.2 in silent_known (Low1 high) raw s r refl (escape_utf8 r.pend p.0 (92 ∷ 117 ∷ t.0 ∷ []) p.1.0.1 (omega arith, (omega arith, (hex_char t.0 t.1, tt))) t.3)
known_of (Low2 high v) raw s r = let p = r.pending in let t = p.2 in silent_known (Low2 high v) raw s r refl (escape_utf8 r.pend p.0 (92 ∷ 117 ∷ t.0 ∷ t.1 ∷ []) p.1.0.1 (omega arith, (omega arith, (hex_char t.0 t.2, (hex_char t.1 t.4, tt)))) t.7)
known_of (Low3 high v) raw s r = let p = r.pending in let t = p.2 in silent_known (Low3 high v) raw s r refl (escape_utf8 r.pend p.0 (92 ∷ 117 ∷ t.0 ∷ t.1 ∷ t.2 ∷ []) p.1.0.1 (omega arith, (omega arith, (hex_char t.0 t.3, (hex_char t.1 t.5, (hex_char t.2 t.6, tt))))) t.9)

-- a character that isn't whole can be made so
abbrev pub MoreUtf8 : List ℕ → Type 0
MoreUtf8 pend = (rest : List ℕ) × IsUtf8 (pend ++ rest)

promise1 : (pend : List ℕ) (low high : ℕ) → low ≤ high → Promise pend ((low, high) ∷ []) → MoreUtf8 pend
promise1 pend low high h p = let c = (p low).0 (omega arith) h in (low ∷ [], subst IsUtf8 c.3 (IsUtf8-encode c.0 c.1))

promise2 : (pend : List ℕ) (low high : ℕ) → low ≤ high → Promise pend ((low, high) ∷ (128, 191) ∷ []) → MoreUtf8 pend
promise2 pend low high h p = let m = promise1 (pend ++ low ∷ []) 128 191 (omega arith) ((p low).0 (omega arith) h) in (low ∷ m.0, subst IsUtf8 (append_assoc pend (low ∷ []) m.0) m.1)

promise3 : (pend : List ℕ) (low high : ℕ) → low ≤ high → Promise pend ((low, high) ∷ (128, 191) ∷ (128, 191) ∷ []) → MoreUtf8 pend
promise3 pend low high h p = let m = promise2 (pend ++ low ∷ []) 128 191 (omega arith) ((p low).0 (omega arith) h) in (low ∷ m.0, subst IsUtf8 (append_assoc pend (low ∷ []) m.0) m.1)

pub pending_more : (lex : Lex) (pend : List ℕ) → Pending lex pend → MoreUtf8 (shown lex pend)
pending_more Tail1 pend p = promise1 pend 128 191 (omega arith) p
pending_more Tail2 pend p = promise2 pend 128 191 (omega arith) p
pending_more Tail3 pend p = promise3 pend 128 191 (omega arith) p
pending_more BehindE0 pend p = promise2 pend 160 191 (omega arith) p
pending_more BehindEd pend p = promise2 pend 128 159 (omega arith) p
pending_more BehindF0 pend p = promise3 pend 144 191 (omega arith) p
pending_more BehindF4 pend p = promise3 pend 128 143 (omega arith) p
pending_more Between pend p = ([], IsUtf8-nil)
pending_more Escape pend p = ([], IsUtf8-nil)
pending_more Hex0 pend p = ([], IsUtf8-nil)
pending_more (Hex1 v) pend p = ([], IsUtf8-nil)
pending_more (Hex2 v) pend p = ([], IsUtf8-nil)
pending_more (Hex3 v) pend p = ([], IsUtf8-nil)
pending_more (Backslash high) pend p = ([], IsUtf8-nil)
pending_more (LetterU high) pend p = ([], IsUtf8-nil)
pending_more (Low0 high) pend p = ([], IsUtf8-nil)
pending_more (Low1 high) pend p = ([], IsUtf8-nil)
pending_more (Low2 high v) pend p = ([], IsUtf8-nil)
pending_more (Low3 high v) pend p = ([], IsUtf8-nil)

-- a byte that can begin a character, and one that can't
pub ascii_more : (b : ℕ) → b < 128 → MoreUtf8 (b ∷ [])
ascii_more b h = ([], one_utf8 b h)

pub lead_more : (b : ℕ) → 194 ≤ b → b ≤ 244 → MoreUtf8 (b ∷ [])
lead_more b low high = first (order b 224)
  where
    of : (c : ℕ) (bytes : List ℕ) → IsScalar c → encode_utf8 c ≡ bytes → IsUtf8 bytes
    of c bytes i e = subst IsUtf8 e (IsUtf8-encode c i)

    fourth : (240 < b) ⊎ (b ≤ 240) → 240 ≤ b → MoreUtf8 (b ∷ [])
    fourth (inl h) k = (128 ∷ 128 ∷ 128 ∷ [], let c = (((b - 240) * 64 + 0) * 64 + 0) * 64 + 0 in of c (b ∷ 128 ∷ 128 ∷ 128 ∷ []) (scalar_high c (omega arith) (omega arith)) (four b 128 128 128 c k high (omega arith) (omega arith) (omega arith) (omega arith) (omega arith) (omega arith) (omega arith) (omega arith)))
    fourth (inr h) k = (144 ∷ 128 ∷ 128 ∷ [], let c : ℕ = 65536 in let same : b ≡ 240 = omega arith in subst (λ x. IsUtf8 (x ∷ 144 ∷ 128 ∷ 128 ∷ [])) (sym same) (of c (240 ∷ 144 ∷ 128 ∷ 128 ∷ []) (scalar_high c (omega arith) (omega arith)) (four 240 144 128 128 c (omega arith) (omega arith) (omega arith) (omega arith) (omega arith) (omega arith) (omega arith) (omega arith) (omega arith) (omega arith))))

    third : (224 < b) ⊎ (b ≤ 224) → 224 ≤ b → b < 240 → MoreUtf8 (b ∷ [])
    third (inl h) k l = (128 ∷ 128 ∷ [], let c = ((b - 224) * 64 + 0) * 64 + 0 in of c (b ∷ 128 ∷ 128 ∷ []) (scalar c h) (three b 128 128 c k (omega arith) (omega arith) (omega arith) (omega arith) (omega arith) (omega arith) (omega arith) (omega arith)))
      where
        scalar : (c : ℕ) → 224 < b → IsScalar (((b - 224) * 64 + 0) * 64 + 0)
        scalar c h = elim (order b 238) [ inl g ↦ scalar_low (((b - 224) * 64 + 0) * 64 + 0) (omega arith) | inr g ↦ scalar_high (((b - 224) * 64 + 0) * 64 + 0) (omega arith) (omega arith) ]
    third (inr h) k l = (160 ∷ 128 ∷ [], let c : ℕ = 2048 in let same : b ≡ 224 = omega arith in subst (λ x. IsUtf8 (x ∷ 160 ∷ 128 ∷ [])) (sym same) (of c (224 ∷ 160 ∷ 128 ∷ []) (scalar_low c (omega arith)) (three 224 160 128 c (omega arith) (omega arith) (omega arith) (omega arith) (omega arith) (omega arith) (omega arith) (omega arith) (omega arith))))

    second : (b < 240) ⊎ (240 ≤ b) → 224 ≤ b → MoreUtf8 (b ∷ [])
    second (inl h) k = third (order 224 b) k h
    second (inr h) k = fourth (order 240 b) h

    first : (b < 224) ⊎ (224 ≤ b) → MoreUtf8 (b ∷ [])
    first (inl h) = (128 ∷ [], let c = (b - 192) * 64 + 0 in of c (b ∷ 128 ∷ []) (scalar_low c (omega arith)) (two b 128 c low (omega arith) (omega arith) (omega arith) (omega arith)))
    first (inr h) = second (order b 240) h

-- what a refused byte means
pub data Refusal (code : JsonCode) (pend : List ℕ) (b : ℕ) : Type 0 where
  not_utf8 : code ≡ NotUtf8 → ((rest : List ℕ) → IsUtf8 (pend ++ b ∷ rest) → ⊥) → Refusal code pend b
  not_json : code ≡ NotJson → MoreUtf8 (pend ++ b ∷ []) → Refusal code pend b

cannot_start : (b : ℕ) → starts_char b ≡ false → (rest : List ℕ) → IsUtf8 (b ∷ rest) → ⊥
cannot_start b h rest u = elim (first_byte b rest u) [ inl l ↦ no_low l | inr l ↦ no_lead l ]
  where
    no_low : b < 128 → ⊥
    no_low l = grind (arith, nat_tests)

    no_lead : (194 ≤ b) × (b ≤ 244) → ⊥
    no_lead l = let a = l.0 in let c = l.1 in grind (arith, nat_tests)

can_start : (b : ℕ) → starts_char b ≡ true → MoreUtf8 (b ∷ [])
can_start b h = on (nat_lt b 128) refl
  where
    on : (t : Bool) → nat_lt b 128 ≡ t → MoreUtf8 (b ∷ [])
    on true e = ascii_more b (grind (arith, nat_tests))
    on false e = lead_more b (grind (arith, nat_tests)) (grind (arith, nat_tests))

bad_refusal : (b : ℕ) (code : JsonCode) → bad_byte b ≡ Bad code → Refusal code [] b
bad_refusal b code h = split (starts_char b) (Bad NotJson) (Bad NotUtf8) (Bad code) h (λ e g. not_json (cc) (can_start b e)) (λ e g. not_utf8 (cc) (cannot_start b e))

out_range : (low high b : ℕ) → (nat_le low b && nat_le b high) ≡ false → (b < low) ⊎ (high < b)
out_range low high b h = grind (arith, nat_tests)

ranged_refusal : (low high : ℕ) (later : Lex) (rs : List (ℕ × ℕ)) (pend : List ℕ) (b : ℕ) (code : JsonCode) → Promise pend ((low, high) ∷ rs) → ranged low high later b ≡ Bad code → Refusal code pend b
ranged_refusal low high later rs pend b code p h = split (nat_le low b && nat_le b high) (Goes later) (Bad NotUtf8) (Bad code) h (λ e g. absurd (cc)) (λ e g. not_utf8 (cc) ((p b).1 (out_range low high b e)))

hex_refusal : (b : ℕ) (x : LexGo) (code : JsonCode) → (if is_hex b then x else bad_byte b) ≡ Bad code → (x ≡ Bad code → code ≡ NotJson) → Refusal code [] b
hex_refusal b x code h f = split (is_hex b) x (bad_byte b) (Bad code) h (λ e g. not_json (f g) (ascii_more b (hex_char b e))) (λ e g. bad_refusal b code g)

lead_refusal : (b : ℕ) (code : JsonCode) → 128 ≤ b → lead_a b ≡ Bad code → 194 ≤ b → Refusal code [] b
lead_refusal b code big h low =
    split (nat_lt b 224) (Goes Tail1) (lead_b b) (Bad code) h (λ e g. absurd (cc)) (λ e1 h1.
    split (b == 224) (Goes BehindE0) (lead_c b) (Bad code) h1 (λ e g. absurd (cc)) (λ e2 h2.
    split (b == 237) (Goes BehindEd) (lead_d b) (Bad code) h2 (λ e g. absurd (cc)) (λ e3 h3.
    split (nat_lt b 240) (Goes Tail2) (lead_e b) (Bad code) h3 (λ e g. absurd (cc)) (λ e4 h4.
    split (b == 240) (Goes BehindF0) (lead_f b) (Bad code) h4 (λ e g. absurd (cc)) (λ e5 h5.
    split (nat_lt b 244) (Goes Tail3) (lead_g b) (Bad code) h5 (λ e g. absurd (cc)) (λ e6 h6.
    split (b == 244) (Goes BehindF4) (Bad NotUtf8) (Bad code) h6 (λ e g. absurd (cc)) (λ e7 h7. not_utf8 (cc) (cannot_start b (grind (arith, nat_tests))))))))))

between_refusal : (b : ℕ) (code : JsonCode) → between b ≡ Bad code → Refusal code [] b
between_refusal b code h =
    split (b == 34) Ends (between_a b) (Bad code) h (λ e g. absurd (cc)) (λ e34 h0.
    split (b == 92) (Goes Escape) (between_b b) (Bad code) h0 (λ e g. absurd (cc)) (λ e92 h1.
    split (nat_lt b 32) (Bad NotJson) (between_c b) (Bad code) h1 (λ e g. not_json (cc) (ascii_more b (grind (arith, nat_tests)))) (λ e32 h2.
    split (nat_lt b 128) (Goes Between) (if nat_lt b 194 then Bad NotUtf8 else lead_a b) (Bad code) h2 (λ e g. absurd (cc)) (λ e128 h3.
    split (nat_lt b 194) (Bad NotUtf8) (lead_a b) (Bad code) h3 (λ e g. not_utf8 (cc) (cannot_start b (grind (arith, nat_tests)))) (λ e h4. lead_refusal b code (grind (arith, nat_tests)) h4 (grind (arith, nat_tests)))))))

pub refusal : (lex : Lex) (pend : List ℕ) (b : ℕ) (code : JsonCode) → Pending lex pend → lex_next lex b ≡ Bad code → Refusal code (shown lex pend) b
refusal Between pend b code p h = between_refusal b code h
refusal Tail1 pend b code p h = ranged_refusal 128 191 Between [] pend b code p h
refusal Tail2 pend b code p h = ranged_refusal 128 191 Tail1 ((128, 191) ∷ []) pend b code p h
refusal Tail3 pend b code p h = ranged_refusal 128 191 Tail2 ((128, 191) ∷ (128, 191) ∷ []) pend b code p h
refusal BehindE0 pend b code p h = ranged_refusal 160 191 Tail1 ((128, 191) ∷ []) pend b code p h
refusal BehindEd pend b code p h = ranged_refusal 128 159 Tail1 ((128, 191) ∷ []) pend b code p h
refusal BehindF0 pend b code p h = ranged_refusal 144 191 Tail2 ((128, 191) ∷ (128, 191) ∷ []) pend b code p h
refusal BehindF4 pend b code p h = ranged_refusal 128 143 Tail2 ((128, 191) ∷ (128, 191) ∷ []) pend b code p h
refusal Escape pend b code p h =
    split (b == 117) (Goes Hex0) (if is_short b then Goes Between else bad_byte b) (Bad code) h (λ e g. absurd (cc))
    (λ e g. split (is_short b) (Goes Between) (bad_byte b) (Bad code) g (λ f k. absurd (cc)) (λ f k. bad_refusal b code k))
refusal Hex0 pend b code p h = hex_refusal b (Goes (Hex1 (digit_value b))) code h (λ g. cc)
refusal (Hex1 v) pend b code p h = hex_refusal b (second_hex (more v b)) code h (λ g. split (is_low (more v b)) (Bad NotJson) (Goes (Hex2 (more v b))) (Bad code) g (λ f k. cc) (λ f k. cc))
refusal (Hex2 v) pend b code p h = hex_refusal b (Goes (Hex3 (more v b))) code h (λ g. cc)
refusal (Hex3 v) pend b code p h = hex_refusal b (last_hex (more v b)) code h (λ g. split (is_high (more v b)) (Goes (Backslash (more v b))) (Goes Between) (Bad code) g (λ f k. cc) (λ f k. cc))
refusal (Backslash high) pend b code p h = split (b == 92) (Goes (LetterU high)) (bad_byte b) (Bad code) h (λ f k. absurd (cc)) (λ f k. bad_refusal b code k)
refusal (LetterU high) pend b code p h = split (b == 117) (Goes (Low0 high)) (bad_byte b) (Bad code) h (λ f k. absurd (cc)) (λ f k. bad_refusal b code k)
refusal (Low0 high) pend b code p h = hex_refusal b (low_first high (digit_value b)) code h (λ g. split (digit_value b == 13) (Goes (Low1 high)) (Bad NotJson) (Bad code) g (λ f k. cc) (λ f k. cc))
refusal (Low1 high) pend b code p h = hex_refusal b (low_second high (more 13 b)) code h (λ g. split (is_low (more 13 b)) (Goes (Low2 high (more 13 b))) (Bad NotJson) (Bad code) g (λ f k. cc) (λ f k. cc))
refusal (Low2 high v) pend b code p h = hex_refusal b (Goes (Low3 high (more v b))) code h (λ g. cc)
refusal (Low3 high v) pend b code p h = hex_refusal b (Goes Between) code h (λ g. cc)

-- where the definition stands in a string
abbrev pub lex_inside : Lex → Inside
lex_inside Between = inside
lex_inside Tail1 = inside
lex_inside Tail2 = inside
lex_inside Tail3 = inside
lex_inside BehindE0 = inside
lex_inside BehindEd = inside
lex_inside BehindF0 = inside
lex_inside BehindF4 = inside
lex_inside Escape = escaped
lex_inside Hex0 = inside
lex_inside (Hex1 v) = inside
lex_inside (Hex2 v) = inside
lex_inside (Hex3 v) = inside
lex_inside (Backslash high) = inside
lex_inside (LetterU high) = escaped
lex_inside (Low0 high) = inside
lex_inside (Low1 high) = inside
lex_inside (Low2 high v) = inside
lex_inside (Low3 high v) = inside

pub lex_in_string : (lex : Lex) → lex_inside lex ≡ outside → ⊥
lex_in_string Between h = cc
lex_in_string Tail1 h = cc
lex_in_string Tail2 h = cc
lex_in_string Tail3 h = cc
lex_in_string BehindE0 h = cc
lex_in_string BehindEd h = cc
lex_in_string BehindF0 h = cc
lex_in_string BehindF4 h = cc
lex_in_string Escape h = cc
lex_in_string Hex0 h = cc
lex_in_string (Hex1 v) h = cc
lex_in_string (Hex2 v) h = cc
lex_in_string (Hex3 v) h = cc
lex_in_string (Backslash high) h = cc
lex_in_string (LetterU high) h = cc
lex_in_string (Low0 high) h = cc
lex_in_string (Low1 high) h = cc
lex_in_string (Low2 high v) h = cc
lex_in_string (Low3 high v) h = cc

stays : (b : ℕ) → b ≢ 34 → b ≢ 92 → inside_after inside b ≡ inside
stays b n m = let e : (b == 34) ≡ false = grind (arith, nat_tests) in let f : (b == 92) ≡ false = grind (arith, nat_tests) in rw (e, f) refl

hex_stays : (b : ℕ) → is_hex b ≡ true → inside_after inside b ≡ inside
hex_stays b h = stays b (λ e. grind (arith, nat_tests)) (λ e. grind (arith, nat_tests))

range_stays : (low high : ℕ) (later goes : Lex) (b : ℕ) → 128 ≤ low → lex_inside later ≡ inside → ranged low high later b ≡ Goes goes → inside_after inside b ≡ lex_inside goes
range_stays low high later goes b big i h =
    split (nat_le low b && nat_le b high) (Goes later) (Bad NotUtf8) (Goes goes) h
    (λ e g. let l : low ≤ b = grind (arith, nat_tests) in let same : later ≡ goes = cc in stays b (λ x. omega arith) (λ x. omega arith) ∙ sym i ∙ ap lex_inside same) (λ e g. absurd (cc))

no_bad : {P : Type 0} (b : ℕ) (goes : Lex) → bad_byte b ≡ Goes goes → P
no_bad b goes h = split (starts_char b) (Bad NotJson) (Bad NotUtf8) (Goes goes) h (λ e g. absurd (cc)) (λ e g. absurd (cc))

hex_inside : (b : ℕ) (x : LexGo) (goes : Lex) → (if is_hex b then x else bad_byte b) ≡ Goes goes → (x ≡ Goes goes → lex_inside goes ≡ inside) → inside_after inside b ≡ lex_inside goes
hex_inside b x goes h f = split (is_hex b) x (bad_byte b) (Goes goes) h (λ e g. hex_stays b e ∙ sym (f g)) (λ e g. no_bad b goes g)

to_inside : (x goes : Lex) → x ≡ goes → lex_inside x ≡ inside → lex_inside goes ≡ inside
to_inside x goes e h = ap lex_inside (sym e) ∙ h

lead_inside : (b : ℕ) (goes : Lex) → lead_a b ≡ Goes goes → lex_inside goes ≡ inside
lead_inside b goes h =
    split (nat_lt b 224) (Goes Tail1) (lead_b b) (Goes goes) h (λ e g. to_inside Tail1 goes (cc) refl) (λ e1 h1.
    split (b == 224) (Goes BehindE0) (lead_c b) (Goes goes) h1 (λ e g. to_inside BehindE0 goes (cc) refl) (λ e2 h2.
    split (b == 237) (Goes BehindEd) (lead_d b) (Goes goes) h2 (λ e g. to_inside BehindEd goes (cc) refl) (λ e3 h3.
    split (nat_lt b 240) (Goes Tail2) (lead_e b) (Goes goes) h3 (λ e g. to_inside Tail2 goes (cc) refl) (λ e4 h4.
    split (b == 240) (Goes BehindF0) (lead_f b) (Goes goes) h4 (λ e g. to_inside BehindF0 goes (cc) refl) (λ e5 h5.
    split (nat_lt b 244) (Goes Tail3) (lead_g b) (Goes goes) h5 (λ e g. to_inside Tail3 goes (cc) refl) (λ e6 h6.
    split (b == 244) (Goes BehindF4) (Bad NotUtf8) (Goes goes) h6 (λ e g. to_inside BehindF4 goes (cc) refl) (λ e7 h7. absurd (cc))))))))

between_inside : (b : ℕ) (goes : Lex) → between b ≡ Goes goes → inside_after inside b ≡ lex_inside goes
between_inside b goes h =
    split (b == 34) Ends (between_a b) (Goes goes) h (λ e g. absurd (cc)) (λ e34 h0.
    split (b == 92) (Goes Escape) (between_b b) (Goes goes) h0 (λ e g. let same : Escape ≡ goes = cc in rw (e34, e) (ap lex_inside same)) (λ e92 h1.
    split (nat_lt b 32) (Bad NotJson) (between_c b) (Goes goes) h1 (λ e g. absurd (cc)) (λ e32 h2.
    split (nat_lt b 128) (Goes Between) (if nat_lt b 194 then Bad NotUtf8 else lead_a b) (Goes goes) h2 (λ e g. let same : Between ≡ goes = cc in rw (e34, e92) (ap lex_inside same)) (λ e128 h3.
    split (nat_lt b 194) (Bad NotUtf8) (lead_a b) (Goes goes) h3 (λ e g. absurd (cc)) (λ e h4. rw (e34, e92) (sym (lead_inside b goes h4)))))))

pub inside_step : (lex goes : Lex) (b : ℕ) → lex_next lex b ≡ Goes goes → inside_after (lex_inside lex) b ≡ lex_inside goes
inside_step Between goes b h = between_inside b goes h
inside_step Tail1 goes b h = range_stays 128 191 Between goes b (omega arith) refl h
inside_step Tail2 goes b h = range_stays 128 191 Tail1 goes b (omega arith) refl h
inside_step Tail3 goes b h = range_stays 128 191 Tail2 goes b (omega arith) refl h
inside_step BehindE0 goes b h = range_stays 160 191 Tail1 goes b (omega arith) refl h
inside_step BehindEd goes b h = range_stays 128 159 Tail1 goes b (omega arith) refl h
inside_step BehindF0 goes b h = range_stays 144 191 Tail2 goes b (omega arith) refl h
inside_step BehindF4 goes b h = range_stays 128 143 Tail2 goes b (omega arith) refl h
inside_step Escape goes b h =
    split (b == 117) (Goes Hex0) (if is_short b then Goes Between else bad_byte b) (Goes goes) h (λ e g. sym (to_inside Hex0 goes (cc) refl))
    (λ e g. split (is_short b) (Goes Between) (bad_byte b) (Goes goes) g (λ f k. sym (to_inside Between goes (cc) refl)) (λ f k. no_bad b goes k))
inside_step Hex0 goes b h = hex_inside b (Goes (Hex1 (digit_value b))) goes h (λ g. to_inside (Hex1 (digit_value b)) goes (cc) refl)
inside_step (Hex1 v) goes b h = hex_inside b (second_hex (more v b)) goes h (λ g. split (is_low (more v b)) (Bad NotJson) (Goes (Hex2 (more v b))) (Goes goes) g (λ f k. absurd (cc)) (λ f k. to_inside (Hex2 (more v b)) goes (cc) refl))
inside_step (Hex2 v) goes b h = hex_inside b (Goes (Hex3 (more v b))) goes h (λ g. to_inside (Hex3 (more v b)) goes (cc) refl)
inside_step (Hex3 v) goes b h = hex_inside b (last_hex (more v b)) goes h (λ g. split (is_high (more v b)) (Goes (Backslash (more v b))) (Goes Between) (Goes goes) g (λ f k. to_inside (Backslash (more v b)) goes (cc) refl) (λ f k. to_inside Between goes (cc) refl))
inside_step (Backslash high) goes b h = split (b == 92) (Goes (LetterU high)) (bad_byte b) (Goes goes) h (λ f k. let same : LetterU high ≡ goes = cc in let is : b ≡ 92 = grind (arith, nat_tests) in ap (inside_after inside) is ∙ ap lex_inside same) (λ f k. no_bad b goes k)
inside_step (LetterU high) goes b h = split (b == 117) (Goes (Low0 high)) (bad_byte b) (Goes goes) h (λ f k. sym (to_inside (Low0 high) goes (cc) refl)) (λ f k. no_bad b goes k)
inside_step (Low0 high) goes b h = hex_inside b (low_first high (digit_value b)) goes h (λ g. split (digit_value b == 13) (Goes (Low1 high)) (Bad NotJson) (Goes goes) g (λ f k. to_inside (Low1 high) goes (cc) refl) (λ f k. absurd (cc)))
inside_step (Low1 high) goes b h = hex_inside b (low_second high (more 13 b)) goes h (λ g. split (is_low (more 13 b)) (Goes (Low2 high (more 13 b))) (Bad NotJson) (Goes goes) g (λ f k. to_inside (Low2 high (more 13 b)) goes (cc) refl) (λ f k. absurd (cc)))
inside_step (Low2 high v) goes b h = hex_inside b (Goes (Low3 high (more v b))) goes h (λ g. to_inside (Low3 high (more v b)) goes (cc) refl)
inside_step (Low3 high v) goes b h = hex_inside b (Goes Between) goes h (λ g. to_inside Between goes (cc) refl)
