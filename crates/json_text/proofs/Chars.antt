-- What a string's reading has behind it: whole characters, and the bytes of one that isn't whole yet.
use Rattle.std.proofs.Common.{◌≡◌, ℕ, ◌+◌, ◌*◌, ◌<◌, ◌≤◌, List, [], ◌∷◌, ◌++◌, refl, ap, sym, subst, ◌∙◌, arith, false, true, Bool, inl, inr, append_assoc, append-nil}
use Rattle.std.specs.Prelude.{encode_utf8, nat_lt, nat_le, ◌⊎◌, ◌&&◌, ◌||◌, ◌==◌, if◌then◌else◌, flat_map, Contains, codes}
use Rattle.std.specs.List.{AllByRecursion}
use Rattle.std.specs.Char.{IsScalar, digit_value}
use Rattle.std.proofs.lemmas.Bool.Decides.{nat_tests}
use Rattle.std.proofs.lemmas.Grind.{flat_map-append}
use Rattle.std.proofs.lemmas.Str.{encode_ascii}
use Rattle.json_text.specs.Text.{Char, plain, short, unicode, surrogates, IsChar, IsHex, hex_value, char_text, char_value, string_value, short_value}
use Rattle.json_text.specs.Lexing.{between, lead, ranged, is_short, is_hex, bad_byte, more, is_low, is_high, second_hex, last_hex, low_first, low_second, pair, starts_char, lex_next, lex_emits}
use Rattle.json_text.specs.declared.fault.JsonCode.TheVariants.{NotUtf8, NotJson}
use Rattle.json_text.specs.declared.lex.Lex.{Lex}
use Rattle.json_text.specs.declared.lex.Lex.TheVariants.{Between, Tail1, Tail2, Tail3, BehindE0, BehindEd, BehindF0, BehindF4, Escape, Hex0, Hex1, Hex2, Hex3, Backslash, LetterU, Low0, Low1, Low2, Low3}
use Rattle.json_text.specs.declared.lex.LexGo.{LexGo}
use Rattle.json_text.specs.declared.lex.LexGo.TheVariants.{Goes, Ends, Bad}
use Rattle.json_text.proofs.Utf8.{Promise, promise2, promise3, promise_e0, promise_ed, promise4, promise_f0, promise_f4, scalar_low, scalar_high}

-- by a test
pub split : {A : Type 0} {P : Type 0} (t : Bool) (x y z : A) → (if t then x else y) ≡ z → (t ≡ true → x ≡ z → P) → (t ≡ false → y ≡ z → P) → P
split true x y z h f g = f refl h
split false x y z h f g = g refl h

pub decide : (b : Bool) → (b ≡ true) ⊎ (b ≡ false)
decide true = inl refl
decide false = inr refl

pub bad_never : {P : Type 0} (b : ℕ) (lex : Lex) → bad_byte b ≡ Goes lex → P
bad_never b lex h = split (starts_char b) (Bad NotJson) (Bad NotUtf8) (Goes lex) h (λ e g. absurd (cc)) (λ e g. absurd (cc))

-- the digits of one half of a surrogate pair
abbrev pub Half : ℕ → List ℕ → Type 0
Half high ds = IsHex ds × (hex_value ds ≡ high) × (is_high high ≡ true)

abbrev pub Pending : Lex → List ℕ → Type 0
Pending Between pend = pend ≡ []
Pending Tail1 pend = Promise pend ((128, 191) ∷ [])
Pending Tail2 pend = Promise pend ((128, 191) ∷ (128, 191) ∷ [])
Pending Tail3 pend = Promise pend ((128, 191) ∷ (128, 191) ∷ (128, 191) ∷ [])
Pending BehindE0 pend = Promise pend ((160, 191) ∷ (128, 191) ∷ [])
Pending BehindEd pend = Promise pend ((128, 159) ∷ (128, 191) ∷ [])
Pending BehindF0 pend = Promise pend ((144, 191) ∷ (128, 191) ∷ (128, 191) ∷ [])
Pending BehindF4 pend = Promise pend ((128, 143) ∷ (128, 191) ∷ (128, 191) ∷ [])
Pending Escape pend = pend ≡ 92 ∷ []
Pending Hex0 pend = pend ≡ 92 ∷ 117 ∷ []
Pending (Hex1 v) pend = (a : ℕ) × (is_hex a ≡ true) × (v ≡ digit_value a) × (pend ≡ 92 ∷ 117 ∷ a ∷ [])
Pending (Hex2 v) pend = (a b : ℕ) × (is_hex a ≡ true) × (is_hex b ≡ true) × (v ≡ more (digit_value a) b) × (is_low v ≡ false) × (pend ≡ 92 ∷ 117 ∷ a ∷ b ∷ [])
Pending (Hex3 v) pend = (a b c : ℕ) × (is_hex a ≡ true) × (is_hex b ≡ true) × (is_hex c ≡ true) × (v ≡ more (more (digit_value a) b) c) × (is_low (more (digit_value a) b) ≡ false) × (pend ≡ 92 ∷ 117 ∷ a ∷ b ∷ c ∷ [])
Pending (Backslash high) pend = (ds : List ℕ) × Half high ds × (pend ≡ 92 ∷ 117 ∷ ds)
Pending (LetterU high) pend = (ds : List ℕ) × Half high ds × (pend ≡ 92 ∷ 117 ∷ (ds ++ 92 ∷ []))
Pending (Low0 high) pend = (ds : List ℕ) × Half high ds × (pend ≡ 92 ∷ 117 ∷ (ds ++ 92 ∷ 117 ∷ []))
Pending (Low1 high) pend = (ds : List ℕ) × Half high ds × ((a : ℕ) × (is_hex a ≡ true) × (digit_value a ≡ 13) × (pend ≡ 92 ∷ 117 ∷ (ds ++ 92 ∷ 117 ∷ a ∷ [])))
Pending (Low2 high v) pend = (ds : List ℕ) × Half high ds × ((a b : ℕ) × (is_hex a ≡ true) × (digit_value a ≡ 13) × (is_hex b ≡ true) × (v ≡ more 13 b) × (is_low v ≡ true) × (pend ≡ 92 ∷ 117 ∷ (ds ++ 92 ∷ 117 ∷ a ∷ b ∷ [])))
Pending (Low3 high v) pend = (ds : List ℕ) × Half high ds × ((a b c : ℕ) × (is_hex a ≡ true) × (digit_value a ≡ 13) × (is_hex b ≡ true) × (is_hex c ≡ true) × (v ≡ more (more 13 b) c) × (is_low (more 13 b) ≡ true) × (pend ≡ 92 ∷ 117 ∷ (ds ++ 92 ∷ 117 ∷ a ∷ b ∷ c ∷ [])))

-- what of it is in the value already
abbrev pub shown : Lex → List ℕ → List ℕ
shown Between pend = []
shown Tail1 pend = pend
shown Tail2 pend = pend
shown Tail3 pend = pend
shown BehindE0 pend = pend
shown BehindEd pend = pend
shown BehindF0 pend = pend
shown BehindF4 pend = pend
shown Escape pend = []
shown Hex0 pend = []
shown (Hex1 v) pend = []
shown (Hex2 v) pend = []
shown (Hex3 v) pend = []
shown (Backslash high) pend = []
shown (LetterU high) pend = []
shown (Low0 high) pend = []
shown (Low1 high) pend = []
shown (Low2 high v) pend = []
shown (Low3 high v) pend = []

pub record ReadSoFar (raw s : List ℕ) (lex : Lex) : Type 0 where
  pub chars : List Char
  pub pend : List ℕ
  pub are : AllByRecursion IsChar chars
  pub raw_is : raw ≡ flat_map char_text chars ++ pend
  pub value_is : s ≡ string_value chars ++ shown lex pend
  pub pending : Pending lex pend

pub reads_nothing : ReadSoFar [] [] Between
reads_nothing = record { chars = []; pend = []; are = tt; raw_is = refl; value_is = refl; pending = refl }

goes_more : (raw s : List ℕ) (lex next : Lex) (b : ℕ) (add : List ℕ) (r : ReadSoFar raw s lex) → Pending next (r.pend ++ b ∷ []) → shown lex r.pend ++ add ≡ shown next (r.pend ++ b ∷ []) → ReadSoFar (raw ++ b ∷ []) (s ++ add) next
goes_more raw s lex next b add r p e = record {
  chars = r.chars;
  pend = r.pend ++ b ∷ [];
  are = r.are;
  raw_is = ap (λ x. x ++ b ∷ []) r.raw_is ∙ append_assoc (flat_map char_text r.chars) r.pend (b ∷ []);
  value_is = ap (λ x. x ++ add) r.value_is ∙ append_assoc (string_value r.chars) (shown lex r.pend) add ∙ ap (λ x. string_value r.chars ++ x) e;
  pending = p;
}

all_push : (cs : List Char) (c : Char) → AllByRecursion IsChar cs → IsChar c → AllByRecursion IsChar (cs ++ c ∷ [])
all_push [] c h i = (i, tt)
all_push (d ∷ cs) c h i = (h.0, all_push cs c h.1 i)

flat_push : (f : Char → List ℕ) (cs : List Char) (c : Char) → flat_map f (cs ++ c ∷ []) ≡ flat_map f cs ++ f c
flat_push f cs c = flat_map-append f cs (c ∷ []) ∙ ap (λ x. flat_map f cs ++ x) (append-nil (f c))

goes_whole : (raw s : List ℕ) (lex : Lex) (b : ℕ) (add : List ℕ) (r : ReadSoFar raw s lex) (c : Char) → IsChar c → char_text c ≡ r.pend ++ b ∷ [] → shown lex r.pend ++ add ≡ char_value c → ReadSoFar (raw ++ b ∷ []) (s ++ add) Between
goes_whole raw s lex b add r c is t e = record {
  chars = r.chars ++ c ∷ [];
  pend = [];
  are = all_push r.chars c r.are is;
  raw_is = ap (λ x. x ++ b ∷ []) r.raw_is ∙ append_assoc (flat_map char_text r.chars) r.pend (b ∷ []) ∙ ap (λ x. flat_map char_text r.chars ++ x) (sym t) ∙ sym (flat_push char_text r.chars c) ∙ sym (append-nil (flat_map char_text (r.chars ++ c ∷ [])));
  value_is = ap (λ x. x ++ add) r.value_is ∙ append_assoc (string_value r.chars) (shown lex r.pend) add ∙ ap (λ x. string_value r.chars ++ x) e ∙ sym (flat_push char_value r.chars c) ∙ sym (append-nil (string_value (r.chars ++ c ∷ [])));
  pending = refl;
}

-- a character that isn't ASCII is whole
whole_char : (raw s : List ℕ) (lex : Lex) (b : ℕ) (r : ReadSoFar raw s lex) → shown lex r.pend ≡ r.pend → Promise (r.pend ++ b ∷ []) [] → ReadSoFar (raw ++ b ∷ []) (s ++ b ∷ []) Between
whole_char raw s lex b r e p = goes_whole raw s lex b (b ∷ []) r (plain p.0) (p.1, omega (arith, p.2), (λ h. omega (arith, p.2)), (λ h. omega (arith, p.2))) p.3 (ap (λ x. x ++ b ∷ []) e ∙ sym p.3)

in_range : (low high b : ℕ) (next lex : Lex) → ranged low high next b ≡ Goes lex → (low ≤ b) × (b ≤ high) × (next ≡ lex)
in_range low high b next lex h = split (nat_le low b && nat_le b high) (Goes next) (Bad NotUtf8) (Goes lex) h (λ e g. (grind (arith, nat_tests), grind (arith, nat_tests), cc)) (λ e g. absurd (cc))

to_next : (raw s : List ℕ) (x y : Lex) → x ≡ y → ReadSoFar raw s x → ReadSoFar raw s y
to_next raw s x y e r = subst (ReadSoFar raw s) e r

abbrev pub lead_g : ℕ → LexGo
lead_g b = if b == 244 then Goes BehindF4 else Bad NotUtf8

abbrev pub lead_f : ℕ → LexGo
lead_f b = if nat_lt b 244 then Goes Tail3 else lead_g b

abbrev pub lead_e : ℕ → LexGo
lead_e b = if b == 240 then Goes BehindF0 else lead_f b

abbrev pub lead_d : ℕ → LexGo
lead_d b = if nat_lt b 240 then Goes Tail2 else lead_e b

abbrev pub lead_c : ℕ → LexGo
lead_c b = if b == 237 then Goes BehindEd else lead_d b

abbrev pub lead_b : ℕ → LexGo
lead_b b = if b == 224 then Goes BehindE0 else lead_c b

abbrev pub lead_a : ℕ → LexGo
lead_a b = if nat_lt b 224 then Goes Tail1 else lead_b b

-- the first byte of a character
from_lead : (raw s : List ℕ) (b : ℕ) (next : Lex) → 128 ≤ b → lead b ≡ Goes next → ReadSoFar raw s Between → ReadSoFar (raw ++ b ∷ []) (s ++ b ∷ []) next
from_lead raw s b next big h r =
    split (nat_lt b 194) (Bad NotUtf8) (lead_a b) (Goes next) h (λ e g. absurd (cc)) (λ e0 h0.
    split (nat_lt b 224) (Goes Tail1) (lead_b b) (Goes next) h0 (λ e g. begin Tail1 (cc) (λ p. promise2 b (grind (arith, nat_tests)) (grind (arith, nat_tests))) refl) (λ e1 h1.
    split (b == 224) (Goes BehindE0) (lead_c b) (Goes next) h1 (λ e g. begin BehindE0 (cc) (λ p. let same : b ≡ 224 = grind (arith, nat_tests) in subst (λ x. Promise (x ∷ []) ((160, 191) ∷ (128, 191) ∷ [])) (sym same) promise_e0) refl) (λ e2 h2.
    split (b == 237) (Goes BehindEd) (lead_d b) (Goes next) h2 (λ e g. begin BehindEd (cc) (λ p. let same : b ≡ 237 = grind (arith, nat_tests) in subst (λ x. Promise (x ∷ []) ((128, 159) ∷ (128, 191) ∷ [])) (sym same) promise_ed) refl) (λ e3 h3.
    split (nat_lt b 240) (Goes Tail2) (lead_e b) (Goes next) h3 (λ e g. begin Tail2 (cc) (λ p. promise3 b (grind (arith, nat_tests)) (grind (arith, nat_tests)) (λ x. grind (arith, nat_tests)) (λ x. grind (arith, nat_tests))) refl) (λ e4 h4.
    split (b == 240) (Goes BehindF0) (lead_f b) (Goes next) h4 (λ e g. begin BehindF0 (cc) (λ p. let same : b ≡ 240 = grind (arith, nat_tests) in subst (λ x. Promise (x ∷ []) ((144, 191) ∷ (128, 191) ∷ (128, 191) ∷ [])) (sym same) promise_f0) refl) (λ e5 h5.
    split (nat_lt b 244) (Goes Tail3) (lead_g b) (Goes next) h5 (λ e g. begin Tail3 (cc) (λ p. promise4 b (grind (arith, nat_tests)) (grind (arith, nat_tests))) refl) (λ e6 h6.
    split (b == 244) (Goes BehindF4) (Bad NotUtf8) (Goes next) h6 (λ e g. begin BehindF4 (cc) (λ p. let same : b ≡ 244 = grind (arith, nat_tests) in subst (λ x. Promise (x ∷ []) ((128, 143) ∷ (128, 191) ∷ (128, 191) ∷ [])) (sym same) promise_f4) refl) (λ e7 h7. absurd (cc)))))))))
  where
    begin : (x : Lex) → x ≡ next → (Unit {0} → Pending x (b ∷ [])) → shown x (b ∷ []) ≡ b ∷ [] → ReadSoFar (raw ++ b ∷ []) (s ++ b ∷ []) next
    begin x e p v =
        let none : r.pend ≡ [] = r.pending in
        to_next (raw ++ b ∷ []) (s ++ b ∷ []) x next e (goes_more raw s Between x b (b ∷ []) r (subst (λ y. Pending x (y ++ b ∷ [])) (sym none) (p tt)) (sym (ap (λ y. shown x (y ++ b ∷ [])) none ∙ v)))

abbrev pub between_c : ℕ → LexGo
between_c b = if nat_lt b 128 then Goes Between else lead b

abbrev pub between_b : ℕ → LexGo
between_b b = if nat_lt b 32 then Bad NotJson else between_c b

abbrev pub between_a : ℕ → LexGo
between_a b = if b == 92 then Goes Escape else between_b b

from_between : (raw s : List ℕ) (b : ℕ) (next : Lex) → ReadSoFar raw s Between → between b ≡ Goes next → ReadSoFar (raw ++ b ∷ []) (s ++ (if b == 92 then [] else b ∷ [])) next
from_between raw s b next r h =
    split (b == 34) Ends (between_a b) (Goes next) h (λ e g. absurd (cc)) (λ e34 h0.
    split (b == 92) (Goes Escape) (between_b b) (Goes next) h0 (λ e g.
    let same : b ≡ 92 = grind (arith, nat_tests) in
    let none : r.pend ≡ [] = r.pending in
    rw e (to_next (raw ++ b ∷ []) (s ++ []) Escape next (cc) (goes_more raw s Between Escape b [] r (ap (λ y. y ++ b ∷ []) none ∙ ap (λ x. x ∷ []) same) refl))) (λ e92 h1.
    split (nat_lt b 32) (Bad NotJson) (between_c b) (Goes next) h1 (λ e g. absurd (cc)) (λ e32 h2.
    split (nat_lt b 128) (Goes Between) (lead b) (Goes next) h2 (λ e g.
    let none : r.pend ≡ [] = r.pending in
    let one : encode_utf8 b ≡ b ∷ [] = encode_ascii b (grind (arith, nat_tests)) in
    rw e92 (to_next (raw ++ b ∷ []) (s ++ b ∷ []) Between next (cc) (goes_whole raw s Between b (b ∷ []) r (plain b) (scalar_low b (grind (arith, nat_tests)), grind (arith, nat_tests), (λ x. grind (arith, nat_tests)), (λ x. grind (arith, nat_tests))) (one ∙ sym (ap (λ y. y ++ b ∷ []) none)) (sym one)))) (λ e128 h3.
    rw e92 (from_lead raw s b next (grind (arith, nat_tests)) h3 r)))))

-- one byte more of a character
tail_more : (raw s : List ℕ) (lex x next : Lex) (b : ℕ) (r : ReadSoFar raw s lex) → shown lex r.pend ≡ r.pend → shown x (r.pend ++ b ∷ []) ≡ r.pend ++ b ∷ [] → Pending x (r.pend ++ b ∷ []) → x ≡ next → ReadSoFar (raw ++ b ∷ []) (s ++ b ∷ []) next
tail_more raw s lex x next b r e f p same = to_next (raw ++ b ∷ []) (s ++ b ∷ []) x next same (goes_more raw s lex x b (b ∷ []) r p (ap (λ y. y ++ b ∷ []) e ∙ sym f))

-- one byte more of an escape, which shows nothing yet
silent_more : (raw s : List ℕ) (lex x next : Lex) (b : ℕ) (r : ReadSoFar raw s lex) → shown lex r.pend ≡ [] → shown x (r.pend ++ b ∷ []) ≡ [] → Pending x (r.pend ++ b ∷ []) → x ≡ next → ReadSoFar (raw ++ b ∷ []) (s ++ []) next
silent_more raw s lex x next b r e f p same = to_next (raw ++ b ∷ []) (s ++ []) x next same (goes_more raw s lex x b [] r p (append-nil (shown lex r.pend) ∙ e ∙ sym f))

pub not_between : (low high v : ℕ) → (nat_le low v && nat_le v high) ≡ false → (v < low) ⊎ (high < v)
not_between low high v h = grind (arith, nat_tests)

pub not_below : (low high v : ℕ) → (nat_le low v && nat_lt v high) ≡ false → (v < low) ⊎ (high ≤ v)
not_below low high v h = grind (arith, nat_tests)

pub hex_small : (b : ℕ) → is_hex b ≡ true → digit_value b < 16
hex_small b h = grind (arith, nat_tests)

hex_digits : (a b c d : ℕ) → is_hex a ≡ true → is_hex b ≡ true → is_hex c ≡ true → is_hex d ≡ true → IsHex (a ∷ b ∷ c ∷ d ∷ [])
hex_digits a b c d ha hb hc hd = (refl, (hex_small a ha, (hex_small b hb, (hex_small c hc, (hex_small d hd, tt)))))

hex_of_four : (a b c d v : ℕ) → v ≡ more (more (digit_value a) b) c → hex_value (a ∷ b ∷ c ∷ d ∷ []) ≡ more v d
hex_of_four a b c d v e = let first : more 0 a ≡ digit_value a = omega arith in ap (λ x. more (more (more x b) c) d) first ∙ ap (λ x. more x d) (sym e)

pub scalar_hex : (v2 c d : ℕ) → v2 < 256 → c < 16 → d < 16 → (v2 < 0xDC) ⊎ (0xDF < v2) → (16 * (16 * v2 + c) + d < 0xD800) ⊎ (0xDC00 ≤ 16 * (16 * v2 + c) + d) → IsScalar (16 * (16 * v2 + c) + d)
scalar_hex v2 c d small hc hd (inl low) (inl below) = scalar_low (16 * (16 * v2 + c) + d) (omega arith)
scalar_hex v2 c d small hc hd (inl low) (inr above) = absurd (omega arith)
scalar_hex v2 c d small hc hd (inr high) (inl below) = absurd (omega arith)
scalar_hex v2 c d small hc hd (inr high) (inr above) = scalar_high (16 * (16 * v2 + c) + d) (omega arith) (omega arith)

-- the last digit of an escape of a character
last_digit : (raw s : List ℕ) (v : ℕ) (next : Lex) (d : ℕ) (r : ReadSoFar raw s (Hex3 v)) → is_hex d ≡ true → last_hex (more v d) ≡ Goes next → ReadSoFar (raw ++ d ∷ []) (s ++ (if is_high (more v d) then [] else encode_utf8 (more v d))) next
last_digit raw s v next d r hd h =
    let p = r.pending in
    let a = p.0 in
    let b = p.1 in
    let c = p.2 in
    let is : r.pend ≡ 92 ∷ 117 ∷ a ∷ b ∷ c ∷ [] = p.8 in
    let v_is : v ≡ more (more (digit_value a) b) c = p.6 in
    let hex = hex_digits a b c d p.3 p.4 p.5 hd in
    let value : hex_value (a ∷ b ∷ c ∷ d ∷ []) ≡ more v d = hex_of_four a b c d v v_is in
    let small_a = hex_small a p.3 in
    let small_b = hex_small b p.4 in
    split (is_high (more v d)) (Goes (Backslash (more v d))) (Goes Between) (Goes next) h
    (λ e g. rw e (silent_more raw s (Hex3 v) (Backslash (more v d)) next d r refl refl (a ∷ b ∷ c ∷ d ∷ [], (hex, value, e), ap (λ y. y ++ d ∷ []) is) (cc)))
    (λ e g.
    let scalar : IsScalar (more v d) = rw v_is (scalar_hex (more (digit_value a) b) (digit_value c) (digit_value d) (omega arith) (hex_small c p.5) (hex_small d hd) (not_between 0xDC 0xDF (more (digit_value a) b) p.7) (not_below 0xD800 0xDC00 (more (more (more (digit_value a) b) c) d) (rw (← v_is) e))) in
    rw e (to_next (raw ++ d ∷ []) (s ++ encode_utf8 (more v d)) Between next (cc) (goes_whole raw s (Hex3 v) d (encode_utf8 (more v d)) r (unicode (a ∷ b ∷ c ∷ d ∷ [])) (hex, subst IsScalar (sym value) scalar) (sym (ap (λ y. y ++ d ∷ []) is)) (ap encode_utf8 (sym value)))))

pub high_range : (v : ℕ) → is_high v ≡ true → (0xD800 ≤ v) × (v < 0xDC00)
high_range v h = (grind (arith, nat_tests), grind (arith, nat_tests))

pub low_range : (v : ℕ) → is_low v ≡ true → (0xDC ≤ v) × (v ≤ 0xDF)
low_range v h = (grind (arith, nat_tests), grind (arith, nat_tests))

more_of : (ds : List ℕ) (xs : List ℕ) (b : ℕ) → (92 ∷ 117 ∷ (ds ++ xs)) ++ b ∷ [] ≡ 92 ∷ 117 ∷ (ds ++ (xs ++ b ∷ []))
more_of ds xs b = ap (λ y. 92 ∷ 117 ∷ y) (append_assoc ds xs (b ∷ []))

pend_more : (pend ds xs : List ℕ) (b : ℕ) → pend ≡ 92 ∷ 117 ∷ (ds ++ xs) → pend ++ b ∷ [] ≡ 92 ∷ 117 ∷ (ds ++ (xs ++ b ∷ []))
pend_more pend ds xs b e = ap (λ y. y ++ b ∷ []) e ∙ more_of ds xs b

pub surrogates_text : (ds ls : List ℕ) → char_text (surrogates ds ls) ≡ 92 ∷ 117 ∷ (ds ++ (92 ∷ 117 ∷ ls))
surrogates_text ds ls = refl

last_low : (raw s : List ℕ) (high v : ℕ) (next : Lex) (d : ℕ) (r : ReadSoFar raw s (Low3 high v)) → is_hex d ≡ true → Between ≡ next → ReadSoFar (raw ++ d ∷ []) (s ++ encode_utf8 (pair high (more v d))) next
last_low raw s high v next d r hd same =
    let p = r.pending in
    let ds = p.0 in
    let half : Half high ds = p.1 in
    let t = p.2 in
    let a = t.0 in
    let b = t.1 in
    let c = t.2 in
    let v_is : v ≡ more (more 13 b) c = t.7 in
    let is13 : digit_value a ≡ 13 = t.4 in
    let value : hex_value (a ∷ b ∷ c ∷ d ∷ []) ≡ more v d = hex_of_four a b c d v (rw is13 v_is) in
    let range = high_range high half.2 in
    let second = low_range (more 13 b) t.8 in
    let small_b = hex_small b t.5 in
    let small_c = hex_small c t.6 in
    let small_d = hex_small d hd in
    let low_is : more v d ≡ 16 * (16 * (more 13 b) + digit_value c) + digit_value d = rw v_is refl in
    to_next (raw ++ d ∷ []) (s ++ encode_utf8 (pair high (more v d))) Between next same
    (goes_whole raw s (Low3 high v) d (encode_utf8 (pair high (more v d))) r (surrogates ds (a ∷ b ∷ c ∷ d ∷ []))
    (half.0, hex_digits a b c d t.3 t.5 t.6 hd, omega (arith, half.1), omega (arith, half.1), omega (arith, value), omega (arith, value))
    (surrogates_text ds (a ∷ b ∷ c ∷ d ∷ []) ∙ sym (pend_more r.pend ds (92 ∷ 117 ∷ a ∷ b ∷ c ∷ []) d t.9))
    (ap encode_utf8 (ap (λ x. pair x (more v d)) (sym half.1) ∙ ap (λ x. pair (hex_value ds) x) (sym value))))

the13 : (x : ℕ) → (x == 13) ≡ true → x ≡ 13
the13 x h = grind (arith, nat_tests)

or_split : {P : Type 0} (x y : Bool) → (x || y) ≡ true → (x ≡ true → P) → (y ≡ true → P) → P
or_split true y h f g = f refl
or_split false y h f g = g h

short_letter : (b : ℕ) → is_short b ≡ true → Contains (codes "\"\\/bfnrt") b
short_letter b h =
    or_split (b == 34) _ h (λ e. let same : 34 ≡ b = grind (arith, nat_tests) in (0, omega arith, same)) (λ h1.
    or_split (b == 92) _ h1 (λ e. let same : 92 ≡ b = grind (arith, nat_tests) in (1, omega arith, same)) (λ h2.
    or_split (b == 47) _ h2 (λ e. let same : 47 ≡ b = grind (arith, nat_tests) in (2, omega arith, same)) (λ h3.
    or_split (b == 98) _ h3 (λ e. let same : 98 ≡ b = grind (arith, nat_tests) in (3, omega arith, same)) (λ h4.
    or_split (b == 102) _ h4 (λ e. let same : 102 ≡ b = grind (arith, nat_tests) in (4, omega arith, same)) (λ h5.
    or_split (b == 110) _ h5 (λ e. let same : 110 ≡ b = grind (arith, nat_tests) in (5, omega arith, same)) (λ h6.
    or_split (b == 114) _ h6 (λ e. let same : 114 ≡ b = grind (arith, nat_tests) in (6, omega arith, same)) (λ e.
    let same : 116 ≡ b = grind (arith, nat_tests) in (7, omega arith, same))))))))

-- One byte more.
pub reads : (raw s : List ℕ) (lex : Lex) (b : ℕ) (next : Lex) → ReadSoFar raw s lex → lex_next lex b ≡ Goes next → ReadSoFar (raw ++ b ∷ []) (s ++ lex_emits lex b) next
reads raw s Between b next r h = from_between raw s b next r h
reads raw s Tail1 b next r h =
    let t = in_range 128 191 b Between next h in
    to_next (raw ++ b ∷ []) (s ++ b ∷ []) Between next t.2 (whole_char raw s Tail1 b r refl ((r.pending b).0 t.0 t.1))
reads raw s Tail2 b next r h = let t = in_range 128 191 b Tail1 next h in tail_more raw s Tail2 Tail1 next b r refl refl ((r.pending b).0 t.0 t.1) t.2
reads raw s Tail3 b next r h = let t = in_range 128 191 b Tail2 next h in tail_more raw s Tail3 Tail2 next b r refl refl ((r.pending b).0 t.0 t.1) t.2
reads raw s BehindE0 b next r h = let t = in_range 160 191 b Tail1 next h in tail_more raw s BehindE0 Tail1 next b r refl refl ((r.pending b).0 t.0 t.1) t.2
reads raw s BehindEd b next r h = let t = in_range 128 159 b Tail1 next h in tail_more raw s BehindEd Tail1 next b r refl refl ((r.pending b).0 t.0 t.1) t.2
reads raw s BehindF0 b next r h = let t = in_range 144 191 b Tail2 next h in tail_more raw s BehindF0 Tail2 next b r refl refl ((r.pending b).0 t.0 t.1) t.2
reads raw s BehindF4 b next r h = let t = in_range 128 143 b Tail2 next h in tail_more raw s BehindF4 Tail2 next b r refl refl ((r.pending b).0 t.0 t.1) t.2
reads raw s Escape b next r h =
    let is : r.pend ≡ 92 ∷ [] = r.pending in
    split (b == 117) (Goes Hex0) (if is_short b then Goes Between else bad_byte b) (Goes next) h
    (λ e g. let same : b ≡ 117 = grind (arith, nat_tests) in rw e (silent_more raw s Escape Hex0 next b r refl refl (ap (λ y. y ++ b ∷ []) is ∙ ap (λ x. 92 ∷ x ∷ []) same) (cc)))
    (λ e g. split (is_short b) (Goes Between) (bad_byte b) (Goes next) g
    (λ f k. rw e (to_next (raw ++ b ∷ []) (s ++ encode_utf8 (short_value b)) Between next (cc) (goes_whole raw s Escape b (encode_utf8 (short_value b)) r (short b) (short_letter b f) (sym (ap (λ y. y ++ b ∷ []) is)) refl)))
    (λ f k. bad_never b next k))
reads raw s Hex0 b next r h =
    let is : r.pend ≡ 92 ∷ 117 ∷ [] = r.pending in
    split (is_hex b) (Goes (Hex1 (digit_value b))) (bad_byte b) (Goes next) h
    (λ e g. silent_more raw s Hex0 (Hex1 (digit_value b)) next b r refl refl (b, e, refl, ap (λ y. y ++ b ∷ []) is) (cc))
    (λ e g. bad_never b next g)
reads raw s (Hex1 v) b next r h =
    let p = r.pending in
    split (is_hex b) (second_hex (more v b)) (bad_byte b) (Goes next) h
    (λ e g. split (is_low (more v b)) (Bad NotJson) (Goes (Hex2 (more v b))) (Goes next) g (λ f k. absurd (cc))
    (λ f k. silent_more raw s (Hex1 v) (Hex2 (more v b)) next b r refl refl (p.0, b, p.1, e, ap (λ x. more x b) p.2, f, ap (λ y. y ++ b ∷ []) p.3) (cc)))
    (λ e g. bad_never b next g)
reads raw s (Hex2 v) b next r h =
    let p = r.pending in
    split (is_hex b) (Goes (Hex3 (more v b))) (bad_byte b) (Goes next) h
    (λ e g. silent_more raw s (Hex2 v) (Hex3 (more v b)) next b r refl refl (p.0, p.1, b, p.2, p.3, e, ap (λ x. more x b) p.4, subst (λ x. is_low x ≡ false) p.4 p.5, ap (λ y. y ++ b ∷ []) p.6) (cc))
    (λ e g. bad_never b next g)
reads raw s (Hex3 v) b next r h =
    split (is_hex b) (last_hex (more v b)) (bad_byte b) (Goes next) h
    (λ e g. last_digit raw s v next b r e g)
    (λ e g. bad_never b next g)
reads raw s (Backslash high) b next r h =
    let p = r.pending in
    split (b == 92) (Goes (LetterU high)) (bad_byte b) (Goes next) h
    (λ e g. let same : b ≡ 92 = grind (arith, nat_tests) in silent_more raw s (Backslash high) (LetterU high) next b r refl refl (p.0, p.1, ap (λ y. y ++ b ∷ []) p.2 ∙ ap (λ x. 92 ∷ 117 ∷ (p.0 ++ x ∷ [])) same) (cc))
    (λ e g. bad_never b next g)
reads raw s (LetterU high) b next r h =
    let p = r.pending in
    split (b == 117) (Goes (Low0 high)) (bad_byte b) (Goes next) h
    (λ e g. let same : b ≡ 117 = grind (arith, nat_tests) in silent_more raw s (LetterU high) (Low0 high) next b r refl refl (p.0, p.1, pend_more r.pend p.0 (92 ∷ []) b p.2 ∙ ap (λ x. 92 ∷ 117 ∷ (p.0 ++ 92 ∷ x ∷ [])) same) (cc))
    (λ e g. bad_never b next g)
reads raw s (Low0 high) b next r h =
    let p = r.pending in
    split (is_hex b) (low_first high (digit_value b)) (bad_byte b) (Goes next) h
    (λ e g. split (digit_value b == 13) (Goes (Low1 high)) (Bad NotJson) (Goes next) g
    (λ f k. let is13 : digit_value b ≡ 13 = the13 (digit_value b) f in silent_more raw s (Low0 high) (Low1 high) next b r refl refl (p.0, p.1, (b, e, is13, pend_more r.pend p.0 (92 ∷ 117 ∷ []) b p.2)) (cc))
    (λ f k. absurd (cc)))
    (λ e g. bad_never b next g)
reads raw s (Low1 high) b next r h =
    let p = r.pending in
    let t = p.2 in
    split (is_hex b) (low_second high (more 13 b)) (bad_byte b) (Goes next) h
    (λ e g. split (is_low (more 13 b)) (Goes (Low2 high (more 13 b))) (Bad NotJson) (Goes next) g
    (λ f k. silent_more raw s (Low1 high) (Low2 high (more 13 b)) next b r refl refl (p.0, p.1, (t.0, b, t.1, t.2, e, refl, f, pend_more r.pend p.0 (92 ∷ 117 ∷ t.0 ∷ []) b t.3)) (cc))
    (λ f k. absurd (cc)))
    (λ e g. bad_never b next g)
reads raw s (Low2 high v) b next r h =
    let p = r.pending in
    let t = p.2 in
    split (is_hex b) (Goes (Low3 high (more v b))) (bad_byte b) (Goes next) h
    (λ e g. silent_more raw s (Low2 high v) (Low3 high (more v b)) next b r refl refl (p.0, p.1, (t.0, t.1, b, t.2, t.3, t.4, e, ap (λ x. more x b) t.5, subst (λ x. is_low x ≡ true) t.5 t.6, pend_more r.pend p.0 (92 ∷ 117 ∷ t.0 ∷ t.1 ∷ []) b t.7)) (cc))
    (λ e g. bad_never b next g)
reads raw s (Low3 high v) b next r h =
    split (is_hex b) (Goes Between) (bad_byte b) (Goes next) h
    (λ e g. last_low raw s high v next b r e (cc))
    (λ e g. bad_never b next g)
