-- Strings, numerals and words from a place to another.
use Rattle.std.proofs.Common.{◌≡◌, ℕ, zero, suc, ◌+◌, ◌-◌, ◌<◌, ◌≤◌, List, [], ◌∷◌, ◌++◌, length, get_or, drop, take, refl, ap, sym, subst, ◌∙◌, add-one, arith, Bool, true, false, inl, inr, append_assoc, append-nil, Some, None, Result, Ok, Err, lit≤}
use Rattle.std.specs.Prelude.{IfOk, IfErr, IsErr, IsErrAnd, slice_range, ◌⊎◌, ◌≢◌, ◌==◌, ◌&&◌, if◌then◌else◌, nat_lt, nat_le}
use Rattle.std.specs.List.{list_all}
use Rattle.std.proofs.Math.Seq.{drop-cons}
use Rattle.std.proofs.Math.ListN.{drop_of_length-le}
use Rattle.std.proofs.lemmas.List.{take-append-drop}
use Rattle.std.proofs.lemmas.Bool.Decides.{nat_tests}
use Rattle.std.proofs.lemmas.Bool.{and_parts, and_from}
use Rattle.json_text.specs.Kept.{Kept, Wishes}
use Rattle.json_text.specs.Kept as k
use Rattle.json_text.specs.Accepted.{all_bounds}
use Rattle.json_text.specs.Lending.{is_unmarked, IsUnmarked, HasEscape}
use Rattle.json_text.specs.Lexing.{between, ranged, is_plain, lex_next, lex_emits, lex_after, lex_end, lexed, LexRuns, went, number_next, is_whole}
use Rattle.json_text.specs.Machine as m
use Rattle.json_text.specs.Machine.{State, Frame, Purpose, Go, to, Outcome, fault, limited, from, run, go_on, class, in_string, in_number, in_word, word_on, finish, if_kept, string_go, string_end, answer_of, number_answer, refused}
use Rattle.json_text.specs.declared.fault.JsonCode.{JsonCode}
use Rattle.json_text.specs.declared.fault.JsonCode.TheVariants.{NotUtf8, NotJson}
use Rattle.json_text.specs.declared.lex.Lex.{Lex}
use Rattle.json_text.specs.declared.lex.Lex.TheVariants.{Between, Tail1, Tail2, Tail3, BehindE0, BehindEd, BehindF0, BehindF4, Escape, Hex0, Hex1, Hex2, Hex3, Backslash, LetterU, Low0, Low1, Low2, Low3}
use Rattle.json_text.specs.declared.lex.LexGo.TheVariants.{Goes, Ends, Bad}
use Rattle.json_text.specs.declared.number.Phase.{Phase}
use Rattle.json_text.specs.declared.number.Phase.TheVariants as phase
use Rattle.json_text.proofs.Chars.{split, between_a, between_b, between_c, lead_a, lead_b, lead_c, lead_d, lead_e, lead_f, lead_g}
use Rattle.json_text.proofs.CharRuns.{Runs, runs_nil, runs_cons, LexRuns-append, lexed-append, lex_end-append}
use Rattle.json_text.proofs.Found.{ends_between}
use Rattle.json_text.proofs.Steps.{from-step, from-end, from-go, from-refused, run-lexed, slice-length, slice-empty, slice-more, string-ends, string-bad, number-more, number-stops, number-ends, behind-finish, answer-finish}

drop_drop : (bytes : List ℕ) (i n : ℕ) → drop n (drop i bytes) ≡ drop (i + n) bytes
drop_drop bytes zero n = ap (λ m. drop m bytes) (omega arith)
drop_drop [] (suc i) n = drop_nil n ∙ sym (drop_nil (suc i + n))
  where
    drop_nil : (n : ℕ) → ◌≡◌ {A = List ℕ} (drop n []) []
    drop_nil zero = refl
    drop_nil (suc n) = refl
drop_drop (b ∷ bytes) (suc i) n =
    let more : suc i + n ≡ suc (i + n) = omega arith in
    drop_drop bytes i n ∙ sym (ap (λ m. drop m (b ∷ bytes)) more)

pub drop_split : (bytes : List ℕ) (i j : ℕ) → i ≤ j → drop i bytes ≡ slice_range bytes i j ++ drop j bytes
drop_split bytes i j le =
    let there : i + (j - i) ≡ j = omega arith in
    sym (take-append-drop (j - i) (drop i bytes)) ∙ ap (λ x. take (j - i) (drop i bytes) ++ x) (drop_drop bytes i (j - i) ∙ ap (λ m. drop m bytes) there)

-- a string over a part of the bytes
pub from-lexed : (w : Wishes) (bytes : List ℕ) (i j : ℕ) (q : Purpose) (s : List ℕ) (lex : Lex) (n : ℕ) (fs : List Frame) → i ≤ j → j ≤ length bytes → LexRuns lex (slice_range bytes i j)
    → from w bytes i (in_string q s lex n fs) ≡ from w bytes j (in_string q (s ++ lexed lex (slice_range bytes i j)) (lex_end lex (slice_range bytes i j)) n fs)
unfolding from
from-lexed w bytes i j q s lex n fs le within runs =
    let xs = slice_range bytes i j in
    let place : i + length xs ≡ j = omega (arith, slice-length bytes i j le within) in
    ap (run all_bounds w i (in_string q s lex n fs)) (drop_split bytes i j le) ∙ run-lexed all_bounds w i q s lex n fs xs (drop j bytes) runs
    ∙ ap (λ p. run all_bounds w p (in_string q (s ++ lexed lex xs) (lex_end lex xs) n fs) (drop j bytes)) place

join_step : (bytes : List ℕ) (a b c : ℕ) → a ≤ b → b ≤ c → c < length bytes → slice_range bytes a b ++ slice_range bytes b c ≡ slice_range bytes a c → slice_range bytes a b ++ slice_range bytes b (c + 1) ≡ slice_range bytes a (c + 1)
join_step bytes a b c ab bc lt again =
    let x = get_or bytes c 0 in
    ap (λ y. slice_range bytes a b ++ y) (slice-more bytes b c bc lt)
    ∙ sym (append_assoc (slice_range bytes a b) (slice_range bytes b c) (x ∷ [])) ∙ ap (λ y. y ++ x ∷ []) again ∙ sym (slice-more bytes a c (omega arith) lt)

join_by : (bytes : List ℕ) (a b n : ℕ) → a ≤ b → b + n ≤ length bytes → slice_range bytes a b ++ slice_range bytes b (b + n) ≡ slice_range bytes a (b + n)
join_by bytes a b zero ab within =
    let same : b + 0 ≡ b = omega arith in
    ap (λ y. slice_range bytes a b ++ slice_range bytes b y) same ∙ ap (λ y. slice_range bytes a b ++ y) (slice-empty bytes b) ∙ append-nil (slice_range bytes a b) ∙ ap (slice_range bytes a) (sym same)
join_by bytes a b (suc n) ab within =
    let same : b + suc n ≡ (b + n) + 1 = omega arith in
    ap (λ y. slice_range bytes a b ++ slice_range bytes b y) same ∙ join_step bytes a b (b + n) ab (omega arith) (omega arith) (join_by bytes a b n ab (omega arith)) ∙ ap (slice_range bytes a) (sym same)

pub slice_join : (bytes : List ℕ) (a b c : ℕ) → a ≤ b → b ≤ c → c ≤ length bytes → slice_range bytes a b ++ slice_range bytes b c ≡ slice_range bytes a c
slice_join bytes a b c ab bc within =
    let same : b + (c - b) ≡ c = omega arith in
    ap (λ y. slice_range bytes a b ++ slice_range bytes b y) (sym same) ∙ join_by bytes a b (c - b) ab (omega arith) ∙ ap (slice_range bytes a) same

-- bytes that stand for themselves
plain_goes : (b : ℕ) → is_plain b ≡ true → between b ≡ Goes Between
plain_goes b h = grind (arith, nat_tests)

plain_emits : (b : ℕ) → is_plain b ≡ true → lex_emits Between b ≡ b ∷ []
plain_emits b h = let e : (b == 92) ≡ false = grind (arith, nat_tests) in rw e refl

pub plain_runs : (xs : List ℕ) → list_all is_plain xs ≡ true → Runs Between xs xs Between
plain_runs [] h = runs_nil Between
plain_runs (b ∷ xs) h = let parts = and_parts (is_plain b) (list_all is_plain xs) h in runs_cons Between Between Between b xs (b ∷ []) xs (plain_goes b parts.0) (plain_emits b parts.0) (plain_runs xs parts.1)

pub all_plain_push : (xs : List ℕ) (b : ℕ) → list_all is_plain xs ≡ true → is_plain b ≡ true → list_all is_plain (xs ++ b ∷ []) ≡ true
all_plain_push [] b h d = and_from (is_plain b) true d refl
all_plain_push (y ∷ xs) b h d = let parts = and_parts (is_plain y) (list_all is_plain xs) h in and_from (is_plain y) (list_all is_plain (xs ++ b ∷ [])) parts.0 (all_plain_push xs b parts.1 d)

-- one byte more
pub record Pushed (lex next : Lex) (xs : List ℕ) (b : ℕ) : Type 0 where
  pub runs : LexRuns Between (xs ++ b ∷ [])
  pub end : lex_end Between (xs ++ b ∷ []) ≡ next
  pub value : lexed Between (xs ++ b ∷ []) ≡ lexed Between xs ++ lex_emits lex b

pub push : (lex next : Lex) (xs : List ℕ) (b : ℕ) → LexRuns Between xs → lex_end Between xs ≡ lex → lex_next lex b ≡ Goes next → Pushed lex next xs b
push lex next xs b r e g =
    let here : lex_next (lex_end Between xs) b ≡ Goes next = ap (λ x. lex_next x b) e ∙ g in
    let after : lex_after (lex_end Between xs) b ≡ next = ap went here in
    record {
      runs = LexRuns-append Between xs (b ∷ []) r (here ∙ ap Goes (sym after), tt);
      end = lex_end-append Between xs (b ∷ []) ∙ after;
      value = lexed-append Between xs (b ∷ []) ∙ ap (λ y. lexed Between xs ++ y) (append-nil (lex_emits (lex_end Between xs) b) ∙ ap (λ x. lex_emits x b) e);
    }

-- states in which each byte stands for itself
abbrev pub is_shown : Lex → Bool
is_shown Between = true
is_shown Tail1 = true
is_shown Tail2 = true
is_shown Tail3 = true
is_shown BehindE0 = true
is_shown BehindEd = true
is_shown BehindF0 = true
is_shown BehindF4 = true
is_shown Escape = false
is_shown Hex0 = false
is_shown (Hex1 v) = false
is_shown (Hex2 v) = false
is_shown (Hex3 v) = false
is_shown (Backslash high) = false
is_shown (LetterU high) = false
is_shown (Low0 high) = false
is_shown (Low1 high) = false
is_shown (Low2 high v) = false
is_shown (Low3 high v) = false

to_shown : (x goes : Lex) → x ≡ goes → is_shown x ≡ true → is_shown goes ≡ true
to_shown x goes e h = ap is_shown (sym e) ∙ h

range_shown : (low high : ℕ) (later goes : Lex) (b : ℕ) → is_shown later ≡ true → ranged low high later b ≡ Goes goes → is_shown goes ≡ true
range_shown low high later goes b i h = split (nat_le low b && nat_le b high) (Goes later) (Bad NotUtf8) (Goes goes) h (λ e g. to_shown later goes (cc) i) (λ e g. absurd (cc))

lead_shown : (b : ℕ) (goes : Lex) → lead_a b ≡ Goes goes → is_shown goes ≡ true
lead_shown b goes h =
    split (nat_lt b 224) (Goes Tail1) (lead_b b) (Goes goes) h (λ e g. to_shown Tail1 goes (cc) refl) (λ e1 h1.
    split (b == 224) (Goes BehindE0) (lead_c b) (Goes goes) h1 (λ e g. to_shown BehindE0 goes (cc) refl) (λ e2 h2.
    split (b == 237) (Goes BehindEd) (lead_d b) (Goes goes) h2 (λ e g. to_shown BehindEd goes (cc) refl) (λ e3 h3.
    split (nat_lt b 240) (Goes Tail2) (lead_e b) (Goes goes) h3 (λ e g. to_shown Tail2 goes (cc) refl) (λ e4 h4.
    split (b == 240) (Goes BehindF0) (lead_f b) (Goes goes) h4 (λ e g. to_shown BehindF0 goes (cc) refl) (λ e5 h5.
    split (nat_lt b 244) (Goes Tail3) (lead_g b) (Goes goes) h5 (λ e g. to_shown Tail3 goes (cc) refl) (λ e6 h6.
    split (b == 244) (Goes BehindF4) (Bad NotUtf8) (Goes goes) h6 (λ e g. to_shown BehindF4 goes (cc) refl) (λ e7 h7. absurd (cc))))))))

between_shown : (b : ℕ) (goes : Lex) → b ≢ 92 → between b ≡ Goes goes → is_shown goes ≡ true
between_shown b goes n h =
    split (b == 34) Ends (between_a b) (Goes goes) h (λ e g. absurd (cc)) (λ e34 h0.
    split (b == 92) (Goes Escape) (between_b b) (Goes goes) h0 (λ e g. absurd (n (grind (arith, nat_tests)))) (λ e92 h1.
    split (nat_lt b 32) (Bad NotJson) (between_c b) (Goes goes) h1 (λ e g. absurd (cc)) (λ e32 h2.
    split (nat_lt b 128) (Goes Between) (if nat_lt b 194 then Bad NotUtf8 else lead_a b) (Goes goes) h2 (λ e g. to_shown Between goes (cc) refl) (λ e128 h3.
    split (nat_lt b 194) (Bad NotUtf8) (lead_a b) (Goes goes) h3 (λ e g. absurd (cc)) (λ e h4. lead_shown b goes h4)))))

emits_self : (b : ℕ) → b ≢ 92 → (if b == 92 then [] else b ∷ []) ≡ b ∷ []
emits_self b n = let e : (b == 92) ≡ false = grind (arith, nat_tests) in rw e refl

pub shown_step : (lex goes : Lex) (b : ℕ) → is_shown lex ≡ true → (lex ≡ Between → b ≢ 92) → lex_next lex b ≡ Goes goes → (lex_emits lex b ≡ b ∷ []) × (is_shown goes ≡ true)
shown_step Between goes b s n h = (emits_self b (n refl), between_shown b goes (n refl) h)
shown_step Tail1 goes b s n h = (refl, range_shown 128 191 Between goes b refl h)
shown_step Tail2 goes b s n h = (refl, range_shown 128 191 Tail1 goes b refl h)
shown_step Tail3 goes b s n h = (refl, range_shown 128 191 Tail2 goes b refl h)
shown_step BehindE0 goes b s n h = (refl, range_shown 160 191 Tail1 goes b refl h)
shown_step BehindEd goes b s n h = (refl, range_shown 128 159 Tail1 goes b refl h)
shown_step BehindF0 goes b s n h = (refl, range_shown 144 191 Tail2 goes b refl h)
shown_step BehindF4 goes b s n h = (refl, range_shown 128 143 Tail2 goes b refl h)
shown_step Escape goes b s n h = absurd (cc)
shown_step Hex0 goes b s n h = absurd (cc)
shown_step (Hex1 v) goes b s n h = absurd (cc)
shown_step (Hex2 v) goes b s n h = absurd (cc)
shown_step (Hex3 v) goes b s n h = absurd (cc)
shown_step (Backslash high) goes b s n h = absurd (cc)
shown_step (LetterU high) goes b s n h = absurd (cc)
shown_step (Low0 high) goes b s n h = absurd (cc)
shown_step (Low1 high) goes b s n h = absurd (cc)
shown_step (Low2 high v) goes b s n h = absurd (cc)
shown_step (Low3 high v) goes b s n h = absurd (cc)

-- a byte that a string refuses, and the end of the input in one
pub from-bad : (w : Wishes) (bytes : List ℕ) (at i : ℕ) (q : Purpose) (s : List ℕ) (lex : Lex) (code : JsonCode) (n : ℕ) (fs : List Frame) → at ≤ i → i < length bytes → LexRuns Between (slice_range bytes at i) → lex_end Between (slice_range bytes at i) ≡ lex
    → lex_next lex (get_or bytes i 0) ≡ Bad code → from w bytes at (in_string q s Between n fs) ≡ fault code i
from-bad w bytes at i q s lex code n fs le lt runs e bad =
    from-lexed w bytes at i q s Between n fs le (omega arith) runs
    ∙ ap (λ x. from w bytes i (in_string q (s ++ lexed Between (slice_range bytes at i)) x n fs)) e
    ∙ from-refused w bytes i (in_string q (s ++ lexed Between (slice_range bytes at i)) lex n fs) code lt (string-bad w i q (s ++ lexed Between (slice_range bytes at i)) lex code n fs (get_or bytes i 0) (class (get_or bytes i 0)) bad)

pub from-cut : (w : Wishes) (bytes : List ℕ) (at i : ℕ) (q : Purpose) (s : List ℕ) (n : ℕ) (fs : List Frame) → at ≤ i → i ≤ length bytes → length bytes ≤ i → LexRuns Between (slice_range bytes at i) → from w bytes at (in_string q s Between n fs) ≡ fault NotJson i
from-cut w bytes at i q s n fs le within past runs =
    from-lexed w bytes at i q s Between n fs le within runs ∙ from-end w bytes i (in_string q (s ++ lexed Between (slice_range bytes at i)) (lex_end Between (slice_range bytes at i)) n fs) past

-- the quote that ends a string
pub from-quote : (w : Wishes) (bytes : List ℕ) (at i : ℕ) (q : Purpose) (n : ℕ) (fs : List Frame) → at ≤ i → i < length bytes → LexRuns Between (slice_range bytes at i) → lex_end Between (slice_range bytes at i) ≡ Between → get_or bytes i 0 ≡ 34
    → from w bytes at (in_string q [] Between n fs) ≡ from w bytes (i + 1) (string_end i q (lexed Between (slice_range bytes at i)) n fs)
from-quote w bytes at i q n fs le lt runs e quote =
    let s = lexed Between (slice_range bytes at i) in
    let ends : lex_next Between (get_or bytes i 0) ≡ Ends = ap (lex_next Between) quote in
    from-lexed w bytes at i q [] Between n fs le (omega arith) runs
    ∙ ap (λ x. from w bytes i (in_string q s x n fs)) e
    ∙ from-go w bytes i (in_string q s Between n fs) (string_go q s n fs) lt (string-ends w i q s Between n fs (get_or bytes i 0) (class (get_or bytes i 0)) ends)

-- behind a part that runs, a fault of the rest
pub from-later : (w : Wishes) (bytes : List ℕ) (at i : ℕ) (q : Purpose) (code : JsonCode) (place n : ℕ) (fs : List Frame) → at ≤ i → i ≤ length bytes → LexRuns Between (slice_range bytes at i) → lex_end Between (slice_range bytes at i) ≡ Between
    → from w bytes i (in_string q (lexed Between (slice_range bytes at i)) Between n fs) ≡ fault code place → from w bytes at (in_string q [] Between n fs) ≡ fault code place
from-later w bytes at i q code place n fs le within runs e h =
    from-lexed w bytes at i q [] Between n fs le within runs ∙ ap (λ x. from w bytes i (in_string q (lexed Between (slice_range bytes at i)) x n fs)) e ∙ h

-- two parts, one behind the other
pub record Joined (bytes : List ℕ) (a b c : ℕ) : Type 0 where
  pub runs : LexRuns Between (slice_range bytes a c)
  pub whole : lex_end Between (slice_range bytes a c) ≡ Between
  pub value : lexed Between (slice_range bytes a c) ≡ lexed Between (slice_range bytes a b) ++ lexed Between (slice_range bytes b c)

pub join : (bytes : List ℕ) (a b c : ℕ) → a ≤ b → b ≤ c → c ≤ length bytes → LexRuns Between (slice_range bytes a b) → lex_end Between (slice_range bytes a b) ≡ Between → LexRuns Between (slice_range bytes b c) → lex_end Between (slice_range bytes b c) ≡ Between
    → Joined bytes a b c
join bytes a b c ab bc within r e q f =
    let xs = slice_range bytes a b in
    let ys = slice_range bytes b c in
    let same = slice_join bytes a b c ab bc within in
    record {
      runs = subst (LexRuns Between) same (LexRuns-append Between xs ys r (subst (λ x. LexRuns x ys) (sym e) q));
      whole = ap (lex_end Between) (sym same) ∙ lex_end-append Between xs ys ∙ ap (λ x. lex_end x ys) e ∙ f;
      value = ap (lexed Between) (sym same) ∙ lexed-append Between xs ys ∙ ap (λ x. lexed Between xs ++ lexed x ys) e;
    }

-- a numeral goes on, ends, or is refused
pub from-digit : (w : Wishes) (bytes : List ℕ) (start i : ℕ) (keep : Bool) (now later : Phase) (n : ℕ) (fs : List Frame) → start ≤ i → i < length bytes → number_next now (get_or bytes i 0) ≡ Some later
    → from w bytes i (in_number keep start (slice_range bytes start i) now n fs) ≡ from w bytes (i + 1) (in_number keep start (slice_range bytes start (i + 1)) later n fs)
from-digit w bytes start i keep now later n fs le lt h =
    from-go w bytes i (in_number keep start (slice_range bytes start i) now n fs) _ lt (number-more w i keep start (slice_range bytes start i) now later n fs (get_or bytes i 0) (class (get_or bytes i 0)) h)
    ∙ ap (λ s. from w bytes (i + 1) (in_number keep start s later n fs)) (sym (slice-more bytes start i le lt))

pub from-number-ends : (w : Wishes) (bytes : List ℕ) (i : ℕ) (keep : Bool) (start : ℕ) (digits : List ℕ) (now : Phase) (n : ℕ) (fs : List Frame) → i < length bytes → number_next now (get_or bytes i 0) ≡ None → is_whole now ≡ true
    → from w bytes i (in_number keep start digits now n fs) ≡ from w bytes i (finish (if_kept keep start (k.number start digits)) n fs)
from-number-ends w bytes i keep start digits now n fs lt h whole =
    let b = get_or bytes i 0 in
    let v = if_kept keep start (k.number start digits) in
    from-go w bytes i (in_number keep start digits now n fs) (go_on w i (finish v n fs) b (class b)) lt (number-stops w i keep start digits now n fs b (class b) h ∙ number-ends keep start digits now n fs b whole ∙ behind-finish w i b v n fs)
    ∙ sym (from-step w bytes i (finish v n fs) lt)

pub from-number-end : (w : Wishes) (bytes : List ℕ) (i : ℕ) (keep : Bool) (start : ℕ) (digits : List ℕ) (now : Phase) (n : ℕ) (fs : List Frame) → length bytes ≤ i → is_whole now ≡ true
    → from w bytes i (in_number keep start digits now n fs) ≡ from w bytes i (finish (if_kept keep start (k.number start digits)) n fs)
from-number-end w bytes i keep start digits now n fs past whole =
    from-end w bytes i (in_number keep start digits now n fs) past ∙ ap (number_answer keep start digits i fs) whole ∙ answer-finish keep start digits i i n fs ∙ sym (from-end w bytes i (finish (if_kept keep start (k.number start digits)) n fs) past)

pub from-number-cut : (w : Wishes) (bytes : List ℕ) (i : ℕ) (keep : Bool) (start : ℕ) (digits : List ℕ) (now : Phase) (n : ℕ) (fs : List Frame) → length bytes ≤ i → is_whole now ≡ false → from w bytes i (in_number keep start digits now n fs) ≡ fault NotJson i
from-number-cut w bytes i keep start digits now n fs past part = from-end w bytes i (in_number keep start digits now n fs) past ∙ ap (number_answer keep start digits i fs) part ∙ cut fs
  where
    cut : (fs : List Frame) → number_answer keep start digits i fs false ≡ fault NotJson i
    cut [] = refl
    cut (f ∷ fs) = refl

number_refused : (keep : Bool) (start : ℕ) (digits : List ℕ) (now : Phase) (n : ℕ) (fs : List Frame) (b : ℕ) → (now ≡ phase.Minus → ⊥) → is_whole now ≡ false → m.number_ends keep start digits now n fs b ≡ refused NotJson
number_refused keep start digits phase.Minus n fs b h p = absurd (h refl)
number_refused keep start digits phase.Zero n fs b h p = absurd (cc)
number_refused keep start digits phase.Whole n fs b h p = absurd (cc)
number_refused keep start digits phase.Dot n fs b h p = refl
number_refused keep start digits phase.Fraction n fs b h p = absurd (cc)
number_refused keep start digits phase.Mark n fs b h p = refl
number_refused keep start digits phase.Sign n fs b h p = refl
number_refused keep start digits phase.Exponent n fs b h p = absurd (cc)

pub from-number-refused : (w : Wishes) (bytes : List ℕ) (i : ℕ) (keep : Bool) (start : ℕ) (digits : List ℕ) (now : Phase) (n : ℕ) (fs : List Frame) → i < length bytes → (now ≡ phase.Minus → ⊥) → number_next now (get_or bytes i 0) ≡ None → is_whole now ≡ false
    → from w bytes i (in_number keep start digits now n fs) ≡ fault NotJson i
from-number-refused w bytes i keep start digits now n fs lt nm h part =
    let b = get_or bytes i 0 in
    from-refused w bytes i (in_number keep start digits now n fs) NotJson lt (number-stops w i keep start digits now n fs b (class b) h ∙ number_refused keep start digits now n fs b nm part)

-- a word goes on, or is refused
pub from-letter : (w : Wishes) (bytes : List ℕ) (i : ℕ) (v : Kept) (a : ℕ) (rest : List ℕ) (n : ℕ) (fs : List Frame) → i < length bytes → get_or bytes i 0 ≡ a → from w bytes i (in_word v a rest n fs) ≡ from w bytes (i + 1) (word_on v rest n fs)
from-letter w bytes i v a rest n fs lt e =
    let same : (get_or bytes i 0 == a) ≡ true = rw e (itself a) in
    from-go w bytes i (in_word v a rest n fs) (to (word_on v rest n fs)) lt (ap (λ t. if t then to (word_on v rest n fs) else refused NotJson) same)
  where
    itself : (a : ℕ) → (a == a) ≡ true
    itself a = grind (arith, nat_tests)

pub from-wrong : (w : Wishes) (bytes : List ℕ) (i : ℕ) (v : Kept) (a : ℕ) (rest : List ℕ) (n : ℕ) (fs : List Frame) → i < length bytes → (get_or bytes i 0 ≡ a → ⊥) → from w bytes i (in_word v a rest n fs) ≡ fault NotJson i
from-wrong w bytes i v a rest n fs lt ne =
    let other : (get_or bytes i 0 == a) ≡ false = apart (get_or bytes i 0) a ne in
    from-refused w bytes i (in_word v a rest n fs) NotJson lt (ap (λ t. if t then to (word_on v rest n fs) else refused NotJson) other)
  where
    apart : (x a : ℕ) → (x ≡ a → ⊥) → (x == a) ≡ false
    apart x a h = grind (arith, nat_tests)

-- one byte more of a part
pub record PushedAt (bytes : List ℕ) (at i : ℕ) (lex next : Lex) : Type 0 where
  pub runs : LexRuns Between (slice_range bytes at (i + 1))
  pub end : lex_end Between (slice_range bytes at (i + 1)) ≡ next
  pub value : lexed Between (slice_range bytes at (i + 1)) ≡ lexed Between (slice_range bytes at i) ++ lex_emits lex (get_or bytes i 0)

pub push_at : (bytes : List ℕ) (at i : ℕ) (lex next : Lex) → at ≤ i → i < length bytes → LexRuns Between (slice_range bytes at i) → lex_end Between (slice_range bytes at i) ≡ lex → lex_next lex (get_or bytes i 0) ≡ Goes next → PushedAt bytes at i lex next
push_at bytes at i lex next le lt runs e g =
    let p = push lex next (slice_range bytes at i) (get_or bytes i 0) runs e g in
    let more = slice-more bytes at i le lt in
    record { runs = subst (LexRuns Between) (sym more) p.runs; end = ap (lex_end Between) more ∙ p.end; value = ap (lexed Between) more ∙ p.value }

-- bytes without a mark
pub unmarked_append : (xs ys : List ℕ) → IsUnmarked xs → IsUnmarked ys → IsUnmarked (xs ++ ys)
unmarked_append [] ys h u = u
unmarked_append (b ∷ xs) ys h u = let parts = and_parts (is_unmarked b) (list_all is_unmarked xs) h in and_from (is_unmarked b) (list_all is_unmarked (xs ++ ys)) parts.0 (unmarked_append xs ys parts.1 u)

pub plain_unmarked : (xs : List ℕ) → list_all is_plain xs ≡ true → IsUnmarked xs
plain_unmarked [] h = refl
plain_unmarked (b ∷ xs) h = let parts = and_parts (is_plain b) (list_all is_plain xs) h in and_from (is_unmarked b) (list_all is_unmarked xs) (one b parts.0) (plain_unmarked xs parts.1)
  where
    one : (b : ℕ) → is_plain b ≡ true → is_unmarked b ≡ true
    one b h = grind (arith, nat_tests)

pub unmarked_join : (bytes : List ℕ) (a b c : ℕ) → a ≤ b → b ≤ c → c ≤ length bytes → IsUnmarked (slice_range bytes a b) → IsUnmarked (slice_range bytes b c) → IsUnmarked (slice_range bytes a c)
unmarked_join bytes a b c ab bc within u v = subst IsUnmarked (slice_join bytes a b c ab bc within) (unmarked_append (slice_range bytes a b) (slice_range bytes b c) u v)

range_unmarked : (low high : ℕ) (later goes : Lex) (b : ℕ) → 128 ≤ low → ranged low high later b ≡ Goes goes → is_unmarked b ≡ true
range_unmarked low high later goes b le h = split (nat_le low b && nat_le b high) (Goes later) (Bad NotUtf8) (Goes goes) h (λ e g. above low high b le e) (λ e g. absurd (cc))
  where
    above : (low high b : ℕ) → 128 ≤ low → (nat_le low b && nat_le b high) ≡ true → is_unmarked b ≡ true
    above low high b le e = let parts = and_parts (nat_le low b) (nat_le b high) e in far low b le parts.0
      where
        far : (low b : ℕ) → 128 ≤ low → nat_le low b ≡ true → is_unmarked b ≡ true
        far low b le e = grind (arith, nat_tests)

-- in such a state a byte is no mark, but for a backslash at the beginning
pub shown_unmarked : (lex goes : Lex) (b : ℕ) → is_shown lex ≡ true → (lex ≡ Between → b ≢ 92) → lex_next lex b ≡ Goes goes → is_unmarked b ≡ true
shown_unmarked Between goes b s n h = split (b == 34) Ends (between_a b) (Goes goes) h (λ e g. absurd (cc)) (λ e g. unmarked b e (n refl))
  where
    unmarked : (b : ℕ) → (b == 34) ≡ false → b ≢ 92 → is_unmarked b ≡ true
    unmarked b e n = grind (arith, nat_tests)
shown_unmarked Tail1 goes b s n h = range_unmarked 128 191 Between goes b (lit≤ tt) h
shown_unmarked Tail2 goes b s n h = range_unmarked 128 191 Tail1 goes b (lit≤ tt) h
shown_unmarked Tail3 goes b s n h = range_unmarked 128 191 Tail2 goes b (lit≤ tt) h
shown_unmarked BehindE0 goes b s n h = range_unmarked 160 191 Tail1 goes b (lit≤ tt) h
shown_unmarked BehindEd goes b s n h = range_unmarked 128 159 Tail1 goes b (lit≤ tt) h
shown_unmarked BehindF0 goes b s n h = range_unmarked 144 191 Tail2 goes b (lit≤ tt) h
shown_unmarked BehindF4 goes b s n h = range_unmarked 128 143 Tail2 goes b (lit≤ tt) h
shown_unmarked Escape goes b s n h = absurd (cc)
shown_unmarked Hex0 goes b s n h = absurd (cc)
shown_unmarked (Hex1 v) goes b s n h = absurd (cc)
shown_unmarked (Hex2 v) goes b s n h = absurd (cc)
shown_unmarked (Hex3 v) goes b s n h = absurd (cc)
shown_unmarked (Backslash high) goes b s n h = absurd (cc)
shown_unmarked (LetterU high) goes b s n h = absurd (cc)
shown_unmarked (Low0 high) goes b s n h = absurd (cc)
shown_unmarked (Low1 high) goes b s n h = absurd (cc)
shown_unmarked (Low2 high v) goes b s n h = absurd (cc)
shown_unmarked (Low3 high v) goes b s n h = absurd (cc)

pub push_unmarked : (bytes : List ℕ) (at i : ℕ) (lex next : Lex) → at ≤ i → i < length bytes → lex_next lex (get_or bytes i 0) ≡ Goes next → (i ≡ at) ⊎ (lex ≡ Between → ⊥) → (get_or bytes at 0 ≡ 92 → ⊥)
    → (is_shown lex ≡ true) × IsUnmarked (slice_range bytes at i) → (is_shown next ≡ true) × IsUnmarked (slice_range bytes at (i + 1))
push_unmarked bytes at i lex next le lt g first ne h =
    let s = shown_step lex next (get_or bytes i 0) h.0 (no_back first) g in
    let u = shown_unmarked lex next (get_or bytes i 0) h.0 (no_back first) g in
    (s.1, subst IsUnmarked (sym (slice-more bytes at i le lt)) (unmarked_append (slice_range bytes at i) (get_or bytes i 0 ∷ []) h.1 (and_from (is_unmarked (get_or bytes i 0)) true u refl)))
  where
    no_back : (i ≡ at) ⊎ (lex ≡ Between → ⊥) → lex ≡ Between → get_or bytes i 0 ≡ 92 → ⊥
    no_back (inl e) b x = ne (ap (λ j. get_or bytes j 0) (sym e) ∙ x)
    no_back (inr n) b x = n b

-- without a mark a string stands for itself
pub shown_lexed : (lex : Lex) (s : List ℕ) → is_shown lex ≡ true → LexRuns lex s → IsUnmarked s → lexed lex s ≡ s
shown_lexed lex [] h runs u = refl
shown_lexed lex (b ∷ s) h runs u =
    let parts = and_parts (is_unmarked b) (list_all is_unmarked s) u in
    let one = shown_step lex (lex_after lex b) b h (λ e. no_backslash b parts.0) runs.0 in
    ap (λ x. x ++ lexed (lex_after lex b) s) one.0 ∙ ap (λ x. b ∷ x) (shown_lexed (lex_after lex b) s one.1 runs.1 parts.1)
  where
    no_backslash : (b : ℕ) → is_unmarked b ≡ true → b ≢ 92
    no_backslash b u = grind (arith, nat_tests)

-- a backslash behind what has no mark, and one that stands further on
pub escape_here : (bytes : List ℕ) (at i end : ℕ) → at ≤ i → i < end → IsUnmarked (slice_range bytes at i) → get_or bytes i 0 ≡ 92 → HasEscape bytes at end
escape_here bytes at i end le lt u e = (i, le, lt, u, e)

pub escape_later : (bytes : List ℕ) (at i end : ℕ) → i ≤ end → HasEscape bytes at i → HasEscape bytes at end
escape_later bytes at i end le h = (h.0, h.1, (let lt : h.0 < i = h.2 in omega arith), h.3, h.4)

pub no_end : (bytes : List ℕ) (at i : ℕ) (lex : Lex) → (get_or bytes at 0 ≡ 34 → ⊥) → (i ≡ at) ⊎ (lex ≡ Between → ⊥) → lex_next lex (get_or bytes i 0) ≡ Ends → ⊥
no_end bytes at i lex n (inl e) h = n (ap (λ j. get_or bytes j 0) (sym e) ∙ (ends_between lex (get_or bytes i 0) h).1)
no_end bytes at i lex n (inr f) h = f (ends_between lex (get_or bytes i 0) h).0

-- as a fault is told
pub said : (code told : JsonCode) (at place : ℕ) → told ≡ code → place ≡ at → fault code at ≡ fault told place
said code told at place e f = rw (e, f) refl

-- what stays when a flag of two parts is set
pub both_true : (x y : Bool) → (x && y) ≡ true → (x ≡ true) × (y ≡ true)
both_true true true h = (refl, refl)
both_true true false h = absurd (cc)
both_true false y h = absurd (cc)

pub from-word : (w : Wishes) (bytes rest : List ℕ) (i m : ℕ) (v : Kept) (n : ℕ) (fs : List Frame) → i < length bytes → m < length rest → get_or bytes i 0 ≡ get_or rest m 0 → from w bytes i (word_on v (drop m rest) n fs) ≡ from w bytes (i + 1) (word_on v (drop (m + 1) rest) n fs)
from-word w bytes rest i m v n fs lt short e =
    ap (λ x. from w bytes i (word_on v x n fs)) (drop-cons rest m 0 short) ∙ from-letter w bytes i v (get_or rest m 0) (drop (suc m) rest) n fs lt e ∙ ap (λ x. from w bytes (i + 1) (word_on v (drop x rest) n fs)) (sym (add-one m))

pub from-word-wrong : (w : Wishes) (bytes rest : List ℕ) (i m : ℕ) (v : Kept) (n : ℕ) (fs : List Frame) → i < length bytes → m < length rest → (get_or bytes i 0 ≡ get_or rest m 0 → ⊥) → from w bytes i (word_on v (drop m rest) n fs) ≡ fault NotJson i
from-word-wrong w bytes rest i m v n fs lt short ne = ap (λ x. from w bytes i (word_on v x n fs)) (drop-cons rest m 0 short) ∙ from-wrong w bytes i v (get_or rest m 0) (drop (suc m) rest) n fs lt ne

pub from-word-cut : (w : Wishes) (bytes rest : List ℕ) (i m : ℕ) (v : Kept) (n : ℕ) (fs : List Frame) → length bytes ≤ i → m < length rest → from w bytes i (word_on v (drop m rest) n fs) ≡ fault NotJson i
from-word-cut w bytes rest i m v n fs past short = ap (λ x. from w bytes i (word_on v x n fs)) (drop-cons rest m 0 short) ∙ from-end w bytes i (in_word v (get_or rest m 0) (drop (suc m) rest) n fs) past

pub from-word-ends : (w : Wishes) (bytes rest : List ℕ) (i m : ℕ) (v : Kept) (n : ℕ) (fs : List Frame) → length rest ≤ m → from w bytes i (word_on v (drop m rest) n fs) ≡ from w bytes i (finish v n fs)
from-word-ends w bytes rest i m v n fs past = ap (λ x. from w bytes i (word_on v x n fs)) (drop_of_length-le rest past)

-- what one result says, of the same
pub ok_then : {T E : Type 0} {P Q : T → Type 0} → (r : Result T E) → IfOk r P → ((x : T) → P x → Q x) → IfOk r Q
ok_then (Ok x) h f = f x h
ok_then (Err e) h f = tt

pub err_then : {T E : Type 0} {P Q : E → Type 0} → (r : Result T E) → IfErr r P → ((x : E) → P x → Q x) → IfErr r Q
err_then (Ok x) h f = tt
err_then (Err e) h f = f e h

-- what holds of a fault holds of the answer that `?` makes of it
pub err_at : {T E : Type 0} (P : E → Type 0) (r : Result T E) (x : E) → IsErr r × IsErrAnd r (λ e. e ≡ x) → P x → IfErr r P
err_at P (Ok y) x h p = tt
err_at P (Err e) x h p = subst P (sym h.1) p

pub ok_then2 : {T E : Type 0} {P Q R : T → Type 0} → (r : Result T E) → IfOk r P → IfOk r Q → ((x : T) → P x → Q x → R x) → IfOk r R
ok_then2 (Ok x) h g f = f x h g
ok_then2 (Err e) h g f = tt

pub err_then2 : {T E : Type 0} {P Q R : E → Type 0} → (r : Result T E) → IfErr r P → IfErr r Q → ((x : E) → P x → Q x → R x) → IfErr r R
err_then2 (Ok x) h g f = tt
err_then2 (Err e) h g f = f e h g

pub ok_then3 : {T E : Type 0} {P Q R S : T → Type 0} → (r : Result T E) → IfOk r P → IfOk r Q → IfOk r R → ((x : T) → P x → Q x → R x → S x) → IfOk r S
ok_then3 (Ok x) h g i f = f x h g i
ok_then3 (Err e) h g i f = tt

pub err_then4 : {T E : Type 0} {P Q R S U : E → Type 0} → (r : Result T E) → IfErr r P → IfErr r Q → IfErr r R → IfErr r S → ((x : E) → P x → Q x → R x → S x → U x) → IfErr r U
err_then4 (Ok x) h g i j f = tt
err_then4 (Err e) h g i j f = f e h g i j
