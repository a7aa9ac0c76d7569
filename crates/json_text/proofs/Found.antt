-- What the machine has read, where it comes to a tree: strings, numerals and words.
use Rattle.std.proofs.Common.{◌≡◌, ℕ, suc, ◌+◌, List, [], ◌∷◌, ◌++◌, length, refl, ap, sym, subst, ◌∙◌, arith, Bool, true, false, inl, inr, add-one, append_assoc, append-nil, length-append, Option, Some, None}
use Rattle.std.specs.Prelude.{◌⊎◌, ◌≢◌, ◌==◌, ◌&&◌, flat_map, if◌then◌else◌, nat_lt, nat_le, codes}
use Rattle.std.specs.List.{AllByRecursion}
use Rattle.std.specs.Char.{is_ascii_digit}
use Rattle.std.proofs.lemmas.Bool.Decides.{nat_tests}
use Rattle.std.proofs.lemmas.Bool.{and_from}
use Rattle.json_text.specs.Text.{IsNumber, Char, IsChar, char_text, string_text, string_value}
use Rattle.json_text.specs.Json.{Json, text, IsJson, depth, bare_words}
use Rattle.json_text.specs.Json as json
use Rattle.json_text.specs.Kept.{Kept, Wishes, kept, count, HasDifferentKeys}
use Rattle.json_text.specs.Kept as k
use Rattle.json_text.specs.Accepted.{Bounds}
use Rattle.json_text.specs.Lexing.{between, ranged, is_short, is_hex, bad_byte, starts_char, more, is_low, is_high, second_hex, last_hex, low_first, low_second, lex_next, lex_emits, number_next, is_whole, is_nonzero, is_digit, is_mark, is_sign}
use Rattle.json_text.specs.Machine as m
use Rattle.std.specs.Char as d
use Rattle.json_text.specs.Machine.{State, Frame, Purpose, Go, Outcome, tree, fault, limited, to, run, go_on, class, faulted, value, in_string, in_number, behind_n, in_word, word_on, word_go, finish, if_kept, string_go, for_value, number_on, number_ends, in_string_go, answer_of, number_answer}
use Rattle.json_text.specs.declared.fault.JsonCode.{JsonCode}
use Rattle.json_text.specs.declared.fault.JsonCode.TheVariants.{NotUtf8, NotJson}
use Rattle.json_text.specs.declared.lex.Lex.{Lex}
use Rattle.json_text.specs.declared.lex.Lex.TheVariants.{Between, Tail1, Tail2, Tail3, BehindE0, BehindEd, BehindF0, BehindF4, Escape, Hex0, Hex1, Hex2, Hex3, Backslash, LetterU, Low0, Low1, Low2, Low3}
use Rattle.json_text.specs.declared.lex.LexGo.{LexGo}
use Rattle.json_text.specs.declared.lex.LexGo.TheVariants.{Goes, Ends, Bad}
use Rattle.json_text.specs.declared.number.Phase.{Phase}
use Rattle.json_text.specs.declared.number.Phase.TheVariants as phase
use Rattle.json_text.specs.declared.class.Class.TheVariants.{Letter}
use Rattle.json_text.proofs.Chars.{split, ReadSoFar, reads, reads_nothing, between_a, between_b, between_c, lead_a, lead_b, lead_c, lead_d, lead_e, lead_f, lead_g}
use Rattle.json_text.proofs.Numerals.{NumberSoFar, number_reads, number_read}
use Rattle.json_text.proofs.Steps.{run-faulted, string-goes, string-ends, string-bad, number-more, number-stops, number-ends, behind-finish, answer-finish}

pub never : (lim : Bounds) (w : Wishes) (p : ℕ) (code : JsonCode) (at : ℕ) (bytes : List ℕ) (t : Kept) → run lim w p (faulted code at) bytes ≡ tree t → ⊥
never lim w p code at bytes t h = let none = run-faulted lim w p code at bytes in cc

-- Only a quote between two characters ends a string.
bad_no_end : {P : Type 0} (b : ℕ) → bad_byte b ≡ Ends → P
bad_no_end b h = split (starts_char b) (Bad NotJson) (Bad NotUtf8) Ends h (λ e g. absurd (cc)) (λ e g. absurd (cc))

ranged_no_end : {P : Type 0} (low high : ℕ) (next : Lex) (b : ℕ) → ranged low high next b ≡ Ends → P
ranged_no_end low high next b h = split (nat_le low b && nat_le b high) (Goes next) (Bad NotUtf8) Ends h (λ e g. absurd (cc)) (λ e g. absurd (cc))

hex_no_end : {P : Type 0} (b : ℕ) (x : LexGo) → (if is_hex b then x else bad_byte b) ≡ Ends → (x ≡ Ends → P) → P
hex_no_end b x h f = split (is_hex b) x (bad_byte b) Ends h (λ e g. f g) (λ e g. bad_no_end b g)

lead_no_end : {P : Type 0} (b : ℕ) → lead_a b ≡ Ends → P
lead_no_end b h =
    split (nat_lt b 224) (Goes Tail1) (lead_b b) Ends h (λ e g. absurd (cc)) (λ e1 h1.
    split (b == 224) (Goes BehindE0) (lead_c b) Ends h1 (λ e g. absurd (cc)) (λ e2 h2.
    split (b == 237) (Goes BehindEd) (lead_d b) Ends h2 (λ e g. absurd (cc)) (λ e3 h3.
    split (nat_lt b 240) (Goes Tail2) (lead_e b) Ends h3 (λ e g. absurd (cc)) (λ e4 h4.
    split (b == 240) (Goes BehindF0) (lead_f b) Ends h4 (λ e g. absurd (cc)) (λ e5 h5.
    split (nat_lt b 244) (Goes Tail3) (lead_g b) Ends h5 (λ e g. absurd (cc)) (λ e6 h6.
    split (b == 244) (Goes BehindF4) (Bad NotUtf8) Ends h6 (λ e g. absurd (cc)) (λ e7 h7. absurd (cc))))))))

between_end : (b : ℕ) → between b ≡ Ends → b ≡ 34
between_end b h =
    split (b == 34) Ends (between_a b) Ends h (λ e g. grind (arith, nat_tests)) (λ e34 h0.
    split (b == 92) (Goes Escape) (between_b b) Ends h0 (λ e g. absurd (cc)) (λ e92 h1.
    split (nat_lt b 32) (Bad NotJson) (between_c b) Ends h1 (λ e g. absurd (cc)) (λ e32 h2.
    split (nat_lt b 128) (Goes Between) (if nat_lt b 194 then Bad NotUtf8 else lead_a b) Ends h2 (λ e g. absurd (cc)) (λ e128 h3.
    split (nat_lt b 194) (Bad NotUtf8) (lead_a b) Ends h3 (λ e g. absurd (cc)) (λ e h4. lead_no_end b h4)))))

pub ends_between : (lex : Lex) (b : ℕ) → lex_next lex b ≡ Ends → (lex ≡ Between) × (b ≡ 34)
ends_between Between b h = (refl, between_end b h)
ends_between Tail1 b h = ranged_no_end 128 191 Between b h
ends_between Tail2 b h = ranged_no_end 128 191 Tail1 b h
ends_between Tail3 b h = ranged_no_end 128 191 Tail2 b h
ends_between BehindE0 b h = ranged_no_end 160 191 Tail1 b h
ends_between BehindEd b h = ranged_no_end 128 159 Tail1 b h
ends_between BehindF0 b h = ranged_no_end 144 191 Tail2 b h
ends_between BehindF4 b h = ranged_no_end 128 143 Tail2 b h
ends_between Escape b h =
    split (b == 117) (Goes Hex0) (if is_short b then Goes Between else bad_byte b) Ends h (λ e g. absurd (cc))
    (λ e g. split (is_short b) (Goes Between) (bad_byte b) Ends g (λ f k. absurd (cc)) (λ f k. bad_no_end b k))
ends_between Hex0 b h = hex_no_end b _ h (λ g. absurd (cc))
ends_between (Hex1 v) b h = hex_no_end b (second_hex (more v b)) h (λ g. split (is_low (more v b)) (Bad NotJson) (Goes (Hex2 (more v b))) Ends g (λ f k. absurd (cc)) (λ f k. absurd (cc)))
ends_between (Hex2 v) b h = hex_no_end b _ h (λ g. absurd (cc))
ends_between (Hex3 v) b h = hex_no_end b (last_hex (more v b)) h (λ g. split (is_high (more v b)) (Goes (Backslash (more v b))) (Goes Between) Ends g (λ f k. absurd (cc)) (λ f k. absurd (cc)))
ends_between (Backslash high) b h = split (b == 92) (Goes (LetterU high)) (bad_byte b) Ends h (λ f k. absurd (cc)) (λ f k. bad_no_end b k)
ends_between (LetterU high) b h = split (b == 117) (Goes (Low0 high)) (bad_byte b) Ends h (λ f k. absurd (cc)) (λ f k. bad_no_end b k)
ends_between (Low0 high) b h = hex_no_end b (low_first high (d.digit_value b)) h (λ g. split (d.digit_value b == 13) (Goes (Low1 high)) (Bad NotJson) Ends g (λ f k. absurd (cc)) (λ f k. absurd (cc)))
ends_between (Low1 high) b h = hex_no_end b (low_second high (more 13 b)) h (λ g. split (is_low (more 13 b)) (Goes (Low2 high (more 13 b))) (Bad NotJson) Ends g (λ f k. absurd (cc)) (λ f k. absurd (cc)))
ends_between (Low2 high v) b h = hex_no_end b _ h (λ g. absurd (cc))
ends_between (Low3 high v) b h = hex_no_end b _ h (λ g. absurd (cc))

pub record StringFound (lim : Bounds) (w : Wishes) (p : ℕ) (q : Purpose) (n : ℕ) (fs : List Frame) (bytes : List ℕ) (t : Kept) : Type 0 where
  pub chars : List Char
  pub rest : List ℕ
  pub are : AllByRecursion IsChar chars
  pub spelled : bytes ≡ flat_map char_text chars ++ (34 ∷ rest)
  pub goes : run lim w (p + length (flat_map char_text chars) + 1) (limited lim (p + length (flat_map char_text chars)) (string_go q (string_value chars) n fs)) rest ≡ tree t

-- from where some of it has been read
string_rest : (lim : Bounds) (w : Wishes) (p0 : ℕ) (raw s : List ℕ) (lex : Lex) (q : Purpose) (n : ℕ) (fs : List Frame) (bytes : List ℕ) (t : Kept) → ReadSoFar raw s lex → run lim w (p0 + length raw) (in_string q s lex n fs) bytes ≡ tree t
    → StringFound lim w p0 q n fs (raw ++ bytes) t
string_rest lim w p0 raw s lex q n fs [] t r h = absurd (cc)
string_rest lim w p0 raw s lex q n fs (b ∷ bytes) t r h = on (lex_next lex b) refl (λ next g i. string_rest lim w p0 (raw ++ b ∷ []) (s ++ lex_emits lex b) next q n fs bytes t g i)
  where
    on : (go : LexGo) → lex_next lex b ≡ go → ((next : Lex) → ReadSoFar (raw ++ b ∷ []) (s ++ lex_emits lex b) next → run lim w (p0 + length (raw ++ b ∷ [])) (in_string q (s ++ lex_emits lex b) next n fs) bytes ≡ tree t → StringFound lim w p0 q n fs ((raw ++ b ∷ []) ++ bytes) t)
        → StringFound lim w p0 q n fs (raw ++ b ∷ bytes) t
    on (Goes next) e again =
        let longer : suc (p0 + length raw) ≡ p0 + length (raw ++ b ∷ []) = omega (arith, length-append raw (b ∷ [])) in
        subst (λ x. StringFound lim w p0 q n fs x t) (append_assoc raw (b ∷ []) bytes)
        (again next (reads raw s lex b next r e) (sym (ap (λ x. run lim w x (in_string q (s ++ lex_emits lex b) next n fs) bytes) longer) ∙ sym (ap (λ g. run lim w (suc (p0 + length raw)) (limited lim (p0 + length raw) g) bytes) (string-goes w (p0 + length raw) q s lex next n fs b (class b) e)) ∙ h))
    on Ends e again =
        let end = ends_between lex b e in
        let whole : ReadSoFar raw s Between = subst (ReadSoFar raw s) end.0 r in
        let none : whole.pend ≡ [] = whole.pending in
        let raw_is : raw ≡ flat_map char_text whole.chars = whole.raw_is ∙ ap (λ x. flat_map char_text whole.chars ++ x) none ∙ append-nil (flat_map char_text whole.chars) in
        let s_is : s ≡ string_value whole.chars = whole.value_is ∙ append-nil (string_value whole.chars) in
        record {
          chars = whole.chars;
          rest = bytes;
          are = whole.are;
          spelled = ap (λ x. x ++ b ∷ bytes) raw_is ∙ ap (λ x. flat_map char_text whole.chars ++ x ∷ bytes) end.1;
          goes = ap (λ x. run lim w (p0 + length x + 1) (limited lim (p0 + length x) (string_go q (string_value whole.chars) n fs)) bytes) (sym raw_is)
              ∙ ap (λ x. run lim w (p0 + length raw + 1) (limited lim (p0 + length raw) (string_go q x n fs)) bytes) (sym s_is)
              ∙ ap (λ x. run lim w x (limited lim (p0 + length raw) (string_go q s n fs)) bytes) (add-one (p0 + length raw))
              ∙ sym (ap (λ g. run lim w (suc (p0 + length raw)) (limited lim (p0 + length raw) g) bytes) (string-ends w (p0 + length raw) q s lex n fs b (class b) e)) ∙ h;
        }
    on (Bad code) e again = absurd (never lim w (suc (p0 + length raw)) code (p0 + length raw) bytes t (sym (ap (λ g. run lim w (suc (p0 + length raw)) (limited lim (p0 + length raw) g) bytes) (string-bad w (p0 + length raw) q s lex code n fs b (class b) e)) ∙ h))

pub string_found : (lim : Bounds) (w : Wishes) (p : ℕ) (q : Purpose) (n : ℕ) (fs : List Frame) (bytes : List ℕ) (t : Kept) → run lim w p (in_string q [] Between n fs) bytes ≡ tree t → StringFound lim w p q n fs bytes t
string_found lim w p q n fs bytes t h = let same : p + 0 ≡ p = omega arith in string_rest lim w p [] [] Between q n fs bytes t reads_nothing (ap (λ x. run lim w x (in_string q [] Between n fs) bytes) same ∙ h)

-- numerals
pub not_minus : (p q : Phase) (b : ℕ) → number_next p b ≡ Some q → q ≡ phase.Minus → ⊥
not_minus phase.Minus q b h m = split (b == 48) (Some phase.Zero) (if is_nonzero b then Some phase.Whole else None) (Some q) h (λ e g. cc) (λ e g. split (is_nonzero b) (Some phase.Whole) None (Some q) g (λ f k. cc) (λ f k. cc))
not_minus phase.Zero q b h m = split (b == 46) (Some phase.Dot) (if is_mark b then Some phase.Mark else None) (Some q) h (λ e g. cc) (λ e g. split (is_mark b) (Some phase.Mark) None (Some q) g (λ f k. cc) (λ f k. cc))
not_minus phase.Whole q b h m = split (is_digit b) (Some phase.Whole) (if b == 46 then Some phase.Dot else if is_mark b then Some phase.Mark else None) (Some q) h (λ e g. cc)
    (λ e g. split (b == 46) (Some phase.Dot) (if is_mark b then Some phase.Mark else None) (Some q) g (λ f k. cc) (λ f k. split (is_mark b) (Some phase.Mark) None (Some q) k (λ i j. cc) (λ i j. cc)))
not_minus phase.Dot q b h m = split (is_digit b) (Some phase.Fraction) None (Some q) h (λ e g. cc) (λ e g. cc)
not_minus phase.Fraction q b h m = split (is_digit b) (Some phase.Fraction) (if is_mark b then Some phase.Mark else None) (Some q) h (λ e g. cc) (λ e g. split (is_mark b) (Some phase.Mark) None (Some q) g (λ f k. cc) (λ f k. cc))
not_minus phase.Mark q b h m = split (is_digit b) (Some phase.Exponent) (if is_sign b then Some phase.Sign else None) (Some q) h (λ e g. cc) (λ e g. split (is_sign b) (Some phase.Sign) None (Some q) g (λ f k. cc) (λ f k. cc))
not_minus phase.Sign q b h m = split (is_digit b) (Some phase.Exponent) None (Some q) h (λ e g. cc) (λ e g. cc)
not_minus phase.Exponent q b h m = split (is_digit b) (Some phase.Exponent) None (Some q) h (λ e g. cc) (λ e g. cc)

pub record NumberFound (lim : Bounds) (w : Wishes) (p : ℕ) (keep : Bool) (at : ℕ) (digits : List ℕ) (n : ℕ) (fs : List Frame) (bytes : List ℕ) (t : Kept) : Type 0 where
  pub more : List ℕ
  pub rest : List ℕ
  pub number : IsNumber (digits ++ more)
  pub spelled : bytes ≡ more ++ rest
  pub goes : run lim w (p + length more) (finish (if_kept keep at (k.number at (digits ++ more))) n fs) rest ≡ tree t

number_stop : (keep : Bool) (at : ℕ) (digits : List ℕ) (first : Phase) (n : ℕ) (fs : List Frame) (b : ℕ) → (first ≡ phase.Minus → ⊥) → (is_whole first ≡ true) ⊎ (number_ends keep at digits first n fs b ≡ m.refused NotJson)
number_stop keep at digits phase.Minus n fs b h = absurd (h refl)
number_stop keep at digits phase.Zero n fs b h = inl refl
number_stop keep at digits phase.Whole n fs b h = inl refl
number_stop keep at digits phase.Dot n fs b h = inr refl
number_stop keep at digits phase.Fraction n fs b h = inl refl
number_stop keep at digits phase.Mark n fs b h = inr refl
number_stop keep at digits phase.Sign n fs b h = inr refl
number_stop keep at digits phase.Exponent n fs b h = inl refl

answer_whole : (lim : Bounds) (w : Wishes) (keep : Bool) (at : ℕ) (digits : List ℕ) (p n : ℕ) (fs : List Frame) (whole : Bool) (t : Kept) → number_answer keep at digits p fs whole ≡ tree t → whole ≡ true
answer_whole lim w keep at digits p n [] true t h = refl
answer_whole lim w keep at digits p n [] false t h = absurd (cc)
answer_whole lim w keep at digits p n (f ∷ fs) whole t h = absurd (cc)

number_here : (lim : Bounds) (w : Wishes) (p : ℕ) (keep : Bool) (at : ℕ) (digits : List ℕ) (n : ℕ) (fs : List Frame) (bytes : List ℕ) (t : Kept) → IsNumber digits → run lim w p (finish (if_kept keep at (k.number at digits)) n fs) bytes ≡ tree t
    → NumberFound lim w p keep at digits n fs bytes t
number_here lim w p keep at digits n fs bytes t is h =
    let same : digits ≡ digits ++ [] = sym (append-nil digits) in
    let place : p + 0 ≡ p = omega arith in
    record {
      more = [];
      rest = bytes;
      number = subst IsNumber same is;
      spelled = refl;
      goes = ap (λ x. run lim w x (finish (if_kept keep at (k.number at (digits ++ []))) n fs) bytes) place ∙ ap (λ x. run lim w p (finish (if_kept keep at (k.number at x)) n fs) bytes) (sym same) ∙ h;
    }

pub number_found : (lim : Bounds) (w : Wishes) (p : ℕ) (keep : Bool) (at : ℕ) (digits : List ℕ) (first : Phase) (n : ℕ) (fs : List Frame) (bytes : List ℕ) (t : Kept) → (first ≡ phase.Minus → ⊥) → NumberSoFar first digits
    → run lim w p (in_number keep at digits first n fs) bytes ≡ tree t → NumberFound lim w p keep at digits n fs bytes t
number_found lim w p keep at digits first n fs [] t nm r h =
    let whole : is_whole first ≡ true = answer_whole lim w keep at digits p n fs (is_whole first) t h in
    number_here lim w p keep at digits n fs [] t (number_read digits first r whole) (sym (answer-finish keep at digits p p n fs) ∙ ap (λ x. number_answer keep at digits p fs x) (sym whole) ∙ h)
number_found lim w p keep at digits first n fs (b ∷ bytes) t nm r h = on (number_next first b) refl (λ next e g. number_found lim w (suc p) keep at (digits ++ b ∷ []) next n fs bytes t (not_minus first next b e) (number_reads digits first next b r e) g)
  where
    on : (o : Option Phase) → number_next first b ≡ o → ((next : Phase) → number_next first b ≡ Some next → run lim w (suc p) (in_number keep at (digits ++ b ∷ []) next n fs) bytes ≡ tree t → NumberFound lim w (suc p) keep at (digits ++ b ∷ []) n fs bytes t)
        → NumberFound lim w p keep at digits n fs (b ∷ bytes) t
    on (Some next) e again =
        let v = again next e (sym (ap (λ g. run lim w (suc p) (limited lim p g) bytes) (number-more w p keep at digits first next n fs b (class b) e)) ∙ h) in
        let same : (digits ++ b ∷ []) ++ v.more ≡ digits ++ b ∷ v.more = append_assoc digits (b ∷ []) v.more in
        let place : suc p + length v.more ≡ p + length (b ∷ v.more) = omega arith in
        record {
          more = b ∷ v.more;
          rest = v.rest;
          number = subst IsNumber same v.number;
          spelled = ap (λ x. b ∷ x) v.spelled;
          goes = ap (λ x. run lim w (p + length (b ∷ v.more)) (finish (if_kept keep at (k.number at x)) n fs) v.rest) (sym same)
              ∙ sym (ap (λ x. run lim w x (finish (if_kept keep at (k.number at ((digits ++ b ∷ []) ++ v.more))) n fs) v.rest) place) ∙ v.goes;
        }
    on None e again =
        let g = sym (ap (λ g. run lim w (suc p) (limited lim p g) bytes) (number-stops w p keep at digits first n fs b (class b) e)) ∙ h in
        elim (number_stop keep at digits first n fs b nm) [
          | inl whole ↦ number_here lim w p keep at digits n fs (b ∷ bytes) t (number_read digits first r whole)
              (sym (ap (λ g. run lim w (suc p) (limited lim p g) bytes) (number-ends keep at digits first n fs b whole ∙ behind-finish w p b (if_kept keep at (k.number at digits)) n fs)) ∙ g)
          | inr bad ↦ absurd (never lim w (suc p) NotJson p bytes t (sym (ap (λ g. run lim w (suc p) (limited lim p g) bytes) bad) ∙ g))
        ]

eq_is : (b c : ℕ) → (b == c) ≡ true → c ≡ b
eq_is b c h = grind (arith, nat_tests)

-- words
pub record WordFound (lim : Bounds) (w : Wishes) (p : ℕ) (v : Kept) (n : ℕ) (fs : List Frame) (word bytes : List ℕ) (t : Kept) : Type 0 where
  pub rest : List ℕ
  pub spelled : bytes ≡ word ++ rest
  pub goes : run lim w (p + length word) (finish v n fs) rest ≡ tree t

pub word_found : (lim : Bounds) (w : Wishes) (p : ℕ) (v : Kept) (n : ℕ) (fs : List Frame) (word bytes : List ℕ) (t : Kept) → run lim w p (word_on v word n fs) bytes ≡ tree t → WordFound lim w p v n fs word bytes t
word_found lim w p v n fs [] bytes t h = let place : p + 0 ≡ p = omega arith in record { rest = bytes; spelled = refl; goes = ap (λ x. run lim w x (finish v n fs) bytes) place ∙ h }
word_found lim w p v n fs (c ∷ word) [] t h = absurd (cc)
word_found lim w p v n fs (c ∷ word) (b ∷ bytes) t h = on (b == c) refl h (λ g. word_found lim w (suc p) v n fs word bytes t g)
  where
    on : (x : Bool) → (b == c) ≡ x → run lim w (suc p) (limited lim p (if x then to (word_on v word n fs) else m.refused NotJson)) bytes ≡ tree t → (run lim w (suc p) (word_on v word n fs) bytes ≡ tree t → WordFound lim w (suc p) v n fs word bytes t) → WordFound lim w p v n fs (c ∷ word) (b ∷ bytes) t
    on true e g again =
        let f = again g in
        let same : b ≡ c = sym (eq_is b c e) in
        let place : p + length (c ∷ word) ≡ suc p + length word = omega arith in
        record { rest = f.rest; spelled = ap (λ x. b ∷ x) f.spelled ∙ ap (λ x. x ∷ (word ++ f.rest)) same; goes = ap (λ x. run lim w x (finish v n fs) f.rest) place ∙ f.goes }
    on false e g again = absurd (never lim w (suc p) NotJson p bytes t g)

-- a value that is no container
pub record ScalarFound (lim : Bounds) (w : Wishes) (p n : ℕ) (keep : Bool) (fs : List Frame) (bytes : List ℕ) (t : Kept) : Type 0 where
  pub json : Json
  pub rest : List ℕ
  pub seen : Kept
  pub is_json : IsJson json
  pub flat : depth json ≡ 0
  pub spelled : bytes ≡ text json ++ rest
  pub kept_is : (around : ℕ) → kept w around p json ≡ seen
  pub different : HasDifferentKeys seen
  pub one : count seen ≡ 1
  pub goes : run lim w (p + length (text json)) (finish (if_kept keep p seen) n fs) rest ≡ tree t

word_scalar : (lim : Bounds) (w : Wishes) (p n : ℕ) (keep : Bool) (fs : List Frame) (front back bytes : List ℕ) (t : Kept) (j : Json) (v : Kept) → IsJson j → depth j ≡ 0 → text j ≡ front ++ back → ((around : ℕ) → kept w around p j ≡ v) → HasDifferentKeys v → count v ≡ 1
    → run lim w (p + length front) (word_on (if_kept keep p v) back n fs) bytes ≡ tree t → ScalarFound lim w p n keep fs (front ++ bytes) t
word_scalar lim w p n keep fs front back bytes t j v is flat spells kept_is different one h =
    let f = word_found lim w (p + length front) (if_kept keep p v) n fs back bytes t h in
    let place : p + length (text j) ≡ p + length front + length back = omega (arith, ap length spells, length-append front back) in
    record {
      json = j;
      rest = f.rest;
      seen = v;
      is_json = is;
      flat = flat;
      spelled = ap (λ x. front ++ x) f.spelled ∙ sym (append_assoc front back f.rest) ∙ ap (λ x. x ++ f.rest) (sym spells);
      kept_is = kept_is;
      different = different;
      one = one;
      goes = ap (λ x. run lim w x (finish (if_kept keep p v) n fs) f.rest) place ∙ f.goes;
    }

number_scalar : (lim : Bounds) (w : Wishes) (p n : ℕ) (keep : Bool) (fs : List Frame) (front bytes : List ℕ) (t : Kept) → NumberFound lim w (p + length front) keep p front n fs bytes t → ScalarFound lim w p n keep fs (front ++ bytes) t
number_scalar lim w p n keep fs front bytes t f =
    let place : p + length (front ++ f.more) ≡ p + length front + length f.more = omega (arith, length-append front f.more) in
    record {
      json = json.number (front ++ f.more);
      rest = f.rest;
      seen = k.number p (front ++ f.more);
      is_json = f.number;
      flat = refl;
      spelled = ap (λ x. front ++ x) f.spelled ∙ sym (append_assoc front f.more f.rest);
      kept_is = λ around. refl;
      different = tt;
      one = refl;
      goes = ap (λ x. run lim w x (finish (if_kept keep p (k.number p (front ++ f.more))) n fs) f.rest) place ∙ f.goes;
    }

pub string_scalar : (lim : Bounds) (w : Wishes) (p n : ℕ) (keep : Bool) (fs : List Frame) (bytes : List ℕ) (t : Kept) → run lim w (suc p) (in_string (for_value keep p) [] Between n fs) bytes ≡ tree t → ScalarFound lim w p n keep fs (34 ∷ bytes) t
string_scalar lim w p n keep fs bytes t h =
    let f = string_found lim w (suc p) (for_value keep p) n fs bytes t h in
    let chars = flat_map char_text f.chars in
    let place : p + length (string_text f.chars) ≡ suc p + length chars + 1 = omega (arith, length-append chars (34 ∷ [])) in
    record {
      json = json.string f.chars;
      rest = f.rest;
      seen = k.string p (string_value f.chars);
      is_json = f.are;
      flat = refl;
      spelled = ap (λ x. 34 ∷ x) (f.spelled ∙ sym (append_assoc chars (34 ∷ []) f.rest));
      kept_is = λ around. refl;
      different = tt;
      one = refl;
      goes = ap (λ x. run lim w x (finish (if_kept keep p (k.string p (string_value f.chars))) n fs) f.rest) place ∙ f.goes;
    }

one_back : (lim : Bounds) (w : Wishes) (p : ℕ) (σ : State) (bytes : List ℕ) (t : Kept) → run lim w (suc p) σ bytes ≡ tree t → run lim w (p + 1) σ bytes ≡ tree t
one_back lim w p σ bytes t h = ap (λ x. run lim w x σ bytes) (add-one p) ∙ h

two_back : (lim : Bounds) (w : Wishes) (p : ℕ) (σ : State) (bytes : List ℕ) (t : Kept) → run lim w (suc (suc p)) σ bytes ≡ tree t → run lim w (p + 2) σ bytes ≡ tree t
two_back lim w p σ bytes t h = let same : p + 2 ≡ suc (suc p) = omega arith in ap (λ x. run lim w x σ bytes) same ∙ h

digit_ascii : (b : ℕ) → is_nonzero b ≡ true → (is_ascii_digit b ≡ true) × (b ≢ 48)
digit_ascii b h = (grind (arith, nat_tests), λ e. grind (arith, nat_tests))

pub zero_scalar : (lim : Bounds) (w : Wishes) (p n : ℕ) (keep : Bool) (fs : List Frame) (bytes : List ℕ) (t : Kept) → run lim w (suc p) (in_number keep p (48 ∷ []) phase.Zero n fs) bytes ≡ tree t → ScalarFound lim w p n keep fs (48 ∷ bytes) t
zero_scalar lim w p n keep fs bytes t h = number_scalar lim w p n keep fs (48 ∷ []) bytes t (number_found lim w (p + 1) keep p (48 ∷ []) phase.Zero n fs bytes t (λ e. cc) ([], inl refl, refl) (one_back lim w p (in_number keep p (48 ∷ []) phase.Zero n fs) bytes t h))

pub digit_scalar : (lim : Bounds) (w : Wishes) (p n : ℕ) (keep : Bool) (fs : List Frame) (b : ℕ) (bytes : List ℕ) (t : Kept) → is_nonzero b ≡ true → run lim w (suc p) (in_number keep p (b ∷ []) phase.Whole n fs) bytes ≡ tree t → ScalarFound lim w p n keep fs (b ∷ bytes) t
digit_scalar lim w p n keep fs b bytes t d h =
    let a = digit_ascii b d in
    number_scalar lim w p n keep fs (b ∷ []) bytes t (number_found lim w (p + 1) keep p (b ∷ []) phase.Whole n fs bytes t (λ e. cc) ([], b, [], inl refl, a.1, and_from (is_ascii_digit b) true a.0 refl, refl) (one_back lim w p (in_number keep p (b ∷ []) phase.Whole n fs) bytes t h))

minus_inf : IsJson (json.bare (codes "-inf"))
minus_inf = (1, omega arith, refl)

minus_nan : IsJson (json.bare (codes "-nan"))
minus_nan = (3, omega arith, refl)

is_inf : IsJson (json.bare (codes "inf"))
is_inf = (0, omega arith, refl)

is_nan : IsJson (json.bare (codes "nan"))
is_nan = (2, omega arith, refl)

pub minus_scalar : (lim : Bounds) (w : Wishes) (p n : ℕ) (keep : Bool) (fs : List Frame) (bytes : List ℕ) (t : Kept) → run lim w (suc p) (in_number keep p (45 ∷ []) phase.Minus n fs) bytes ≡ tree t → ScalarFound lim w p n keep fs (45 ∷ bytes) t
minus_scalar lim w p n keep fs [] t h = absurd (no_end fs h)
  where
    no_end : (fs : List Frame) → number_answer keep p (45 ∷ []) (suc p) fs false ≡ tree t → ⊥
    no_end [] g = cc
    no_end (f ∷ fs) g = cc
minus_scalar lim w p n keep fs (b ∷ bytes) t h = on (number_next phase.Minus b) refl
  where
    word : (x y : Bool) → (b == 105) ≡ x → (b == 110) ≡ y → run lim w (suc (suc p)) (limited lim (suc p) (if x then to (word_on (if_kept keep p (k.word p)) (codes "nf") n fs) else if y then to (word_on (if_kept keep p (k.word p)) (codes "an") n fs) else m.refused NotJson)) bytes ≡ tree t → ScalarFound lim w p n keep fs (45 ∷ b ∷ bytes) t
    word true y e f g = subst (λ x. ScalarFound lim w p n keep fs (45 ∷ x ∷ bytes) t) (eq_is b 105 e) (word_scalar lim w p n keep fs (45 ∷ 105 ∷ []) (codes "nf") bytes t (json.bare (codes "-inf")) (k.word p) minus_inf refl refl (λ a. refl) tt refl (two_back lim w p (word_on (if_kept keep p (k.word p)) (codes "nf") n fs) bytes t g))
    word false true e f g = subst (λ x. ScalarFound lim w p n keep fs (45 ∷ x ∷ bytes) t) (eq_is b 110 f) (word_scalar lim w p n keep fs (45 ∷ 110 ∷ []) (codes "an") bytes t (json.bare (codes "-nan")) (k.word p) minus_nan refl refl (λ a. refl) tt refl (two_back lim w p (word_on (if_kept keep p (k.word p)) (codes "an") n fs) bytes t g))
    word false false e f g = absurd (never lim w (suc (suc p)) NotJson (suc p) bytes t g)

    on : (o : Option Phase) → number_next phase.Minus b ≡ o → ScalarFound lim w p n keep fs (45 ∷ b ∷ bytes) t
    on (Some next) e =
        let r : NumberSoFar next ((45 ∷ []) ++ b ∷ []) = number_reads (45 ∷ []) phase.Minus next b refl e in
        number_scalar lim w p n keep fs (45 ∷ b ∷ []) bytes t (number_found lim w (p + 2) keep p (45 ∷ b ∷ []) next n fs bytes t (not_minus phase.Minus next b e) r
        (two_back lim w p (in_number keep p (45 ∷ b ∷ []) next n fs) bytes t (sym (ap (λ g. run lim w (suc (suc p)) (limited lim (suc p) g) bytes) (number-more w (suc p) keep p (45 ∷ []) phase.Minus next n fs b (class b) e)) ∙ h)))
    on None e = word (b == 105) (b == 110) refl refl (sym (ap (λ g. run lim w (suc (suc p)) (limited lim (suc p) g) bytes) (number-stops w (suc p) keep p (45 ∷ []) phase.Minus n fs b (class b) e)) ∙ h)

pub n_scalar : (lim : Bounds) (w : Wishes) (p n : ℕ) (keep : Bool) (fs : List Frame) (bytes : List ℕ) (t : Kept) → run lim w (suc p) (behind_n keep p n fs) bytes ≡ tree t → ScalarFound lim w p n keep fs (110 ∷ bytes) t
n_scalar lim w p n keep fs [] t h = absurd (cc)
n_scalar lim w p n keep fs (b ∷ bytes) t h = word (b == 117) (b == 97) refl refl h
  where
    word : (x y : Bool) → (b == 117) ≡ x → (b == 97) ≡ y → run lim w (suc (suc p)) (limited lim (suc p) (if x then to (word_on (if_kept keep p (k.null p)) (codes "ll") n fs) else if y then to (word_on (if_kept keep p (k.word p)) (codes "n") n fs) else m.refused NotJson)) bytes ≡ tree t → ScalarFound lim w p n keep fs (110 ∷ b ∷ bytes) t
    word true y e f g = subst (λ x. ScalarFound lim w p n keep fs (110 ∷ x ∷ bytes) t) (eq_is b 117 e) (word_scalar lim w p n keep fs (110 ∷ 117 ∷ []) (codes "ll") bytes t json.null (k.null p) tt refl refl (λ a. refl) tt refl (two_back lim w p (word_on (if_kept keep p (k.null p)) (codes "ll") n fs) bytes t g))
    word false true e f g = subst (λ x. ScalarFound lim w p n keep fs (110 ∷ x ∷ bytes) t) (eq_is b 97 f) (word_scalar lim w p n keep fs (110 ∷ 97 ∷ []) (codes "n") bytes t (json.bare (codes "nan")) (k.word p) is_nan refl refl (λ a. refl) tt refl (two_back lim w p (word_on (if_kept keep p (k.word p)) (codes "n") n fs) bytes t g))
    word false false e f g = absurd (never lim w (suc (suc p)) NotJson (suc p) bytes t g)

letter_n : (b : ℕ) → class b ≡ Letter → (b == 116) ≡ false → (b == 102) ≡ false → (b == 105) ≡ false → 110 ≡ b
unfolding class
letter_n b h t f i = grind (arith, nat_tests)

pub letter_scalar : (lim : Bounds) (w : Wishes) (p n : ℕ) (keep : Bool) (fs : List Frame) (b : ℕ) (bytes : List ℕ) (t : Kept) → class b ≡ Letter → run lim w (suc p) (word_go keep p n fs b) bytes ≡ tree t → ScalarFound lim w p n keep fs (b ∷ bytes) t
letter_scalar lim w p n keep fs b bytes t c h = word (b == 116) (b == 102) (b == 105) refl refl refl h
  where
    word : (x y z : Bool) → (b == 116) ≡ x → (b == 102) ≡ y → (b == 105) ≡ z
        → run lim w (suc p) (if x then word_on (if_kept keep p (k.flag p true)) (codes "rue") n fs else if y then word_on (if_kept keep p (k.flag p false)) (codes "alse") n fs else if z then word_on (if_kept keep p (k.word p)) (codes "nf") n fs else behind_n keep p n fs) bytes ≡ tree t
        → ScalarFound lim w p n keep fs (b ∷ bytes) t
    word true y z e f i g = subst (λ x. ScalarFound lim w p n keep fs (x ∷ bytes) t) (eq_is b 116 e) (word_scalar lim w p n keep fs (116 ∷ []) (codes "rue") bytes t (json.flag true) (k.flag p true) tt refl refl (λ a. refl) tt refl (one_back lim w p (word_on (if_kept keep p (k.flag p true)) (codes "rue") n fs) bytes t g))
    word false true z e f i g = subst (λ x. ScalarFound lim w p n keep fs (x ∷ bytes) t) (eq_is b 102 f) (word_scalar lim w p n keep fs (102 ∷ []) (codes "alse") bytes t (json.flag false) (k.flag p false) tt refl refl (λ a. refl) tt refl (one_back lim w p (word_on (if_kept keep p (k.flag p false)) (codes "alse") n fs) bytes t g))
    word false false true e f i g = subst (λ x. ScalarFound lim w p n keep fs (x ∷ bytes) t) (eq_is b 105 i) (word_scalar lim w p n keep fs (105 ∷ []) (codes "nf") bytes t (json.bare (codes "inf")) (k.word p) is_inf refl refl (λ a. refl) tt refl (one_back lim w p (word_on (if_kept keep p (k.word p)) (codes "nf") n fs) bytes t g))
    word false false false e f i g = subst (λ x. ScalarFound lim w p n keep fs (x ∷ bytes) t) (letter_n b c e f i) (n_scalar lim w p n keep fs bytes t g)
