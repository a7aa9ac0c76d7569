-- What the scanning of a string, a numeral or a word has found, at its end and where it is cut short.
use Rattle.std.proofs.Common.{◌≡◌, ◌∙◌, ℕ, ◌+◌, ◌<◌, ◌≤◌, List, [], ◌∷◌, ◌++◌, length, get_or, take, drop, refl, ap, sym, subst, arith, Bool, true, false, inl, inr, append_assoc, append-nil, length-append, Some, None}
use Rattle.std.specs.Prelude.{slice_range, codes, flat_map, nat_le}
use Rattle.std.specs.List.{AllByRecursion, list_all}
use Rattle.std.specs.Char.{is_ascii_digit}
use Rattle.std.proofs.lemmas.Bool.Decides.{nat_tests}
use Rattle.std.proofs.lemmas.List.{take_more, take-append-drop, length-drop}
use Rattle.json_text.specs.Text.{Char, IsChar, char_text, IsNumber}
use Rattle.json_text.specs.Json.{IsJson, text}
use Rattle.json_text.specs.Json as json
use Rattle.json_text.specs.Lexing.{lex_next, lex_emits, lex_after, lex_end, lexed, LexRuns, number_next, is_whole, is_nonzero}
use Rattle.json_text.specs.Machine.{class}
use Rattle.json_text.specs.Cutting.{Phases, Starts, starts_zero, starts_whole, starts_minus, NumberTo, NumberStops, NumberCut, WordCut, IsScalarText, ScalarCut, IsStringText, StringCut, IsLexCode}
use Rattle.json_text.specs.declared.fault.JsonCode.{JsonCode}
use Rattle.json_text.specs.declared.fault.JsonCode.TheVariants.{NotJson, TooDeep}
use Rattle.json_text.specs.declared.class.Class.{Class}
use Rattle.json_text.specs.declared.class.Class.TheVariants.{Quote, Zero, Digit, Minus, Letter, Comma, Colon, OpenList, CloseList, OpenObject, CloseObject, Space, Other}
use Rattle.json_text.specs.declared.lex.Lex.{Lex}
use Rattle.json_text.specs.declared.lex.Lex.TheVariants.{Between}
use Rattle.json_text.specs.declared.lex.LexGo.TheVariants.{Bad}
use Rattle.json_text.specs.declared.number.Phase.{Phase}
use Rattle.json_text.specs.declared.number.Phase.TheVariants as phase
use Rattle.json_text.proofs.Chars.{ReadSoFar, reads_nothing, reads}
use Rattle.json_text.proofs.CharRuns.{LexRuns-append, lex_end-append}
use Rattle.json_text.proofs.Numerals.{NumberSoFar, number_reads, number_read, number_runs, phases_append}
use Rattle.json_text.proofs.Places.{completion}
use Rattle.json_text.proofs.Refusals.{refusal, not_utf8, not_json}
use Rattle.json_text.proofs.Steps.{slice-more, slice-one, slice-empty}
use Rattle.json_text.proofs.Lexed.{slice_join}

-- strings
pub so_far : (lex : Lex) (raw s xs : List ℕ) → ReadSoFar raw s lex → LexRuns lex xs → ReadSoFar (raw ++ xs) (s ++ lexed lex xs) (lex_end lex xs)
so_far lex raw s [] r h = subst (λ x. ReadSoFar x (s ++ []) lex) (sym (append-nil raw)) (subst (λ x. ReadSoFar raw x lex) (sym (append-nil s)) r)
so_far lex raw s (b ∷ xs) r h =
    let next = lex_after lex b in
    let on = so_far next (raw ++ b ∷ []) (s ++ lex_emits lex b) xs (reads raw s lex b next r h.0) h.1 in
    subst (λ x. ReadSoFar x (s ++ (lex_emits lex b ++ lexed next xs)) (lex_end next xs)) (append_assoc raw (b ∷ []) xs)
    (subst (λ x. ReadSoFar ((raw ++ b ∷ []) ++ xs) x (lex_end next xs)) (append_assoc s (lex_emits lex b) (lexed next xs)) on)

pub string_inside : (xs : List ℕ) → LexRuns Between xs → lex_end Between xs ≡ Between → (chars : List Char) × AllByRecursion IsChar chars × (xs ≡ flat_map char_text chars)
string_inside xs runs whole =
    let r = subst (ReadSoFar xs (lexed Between xs)) whole (so_far Between [] [] xs reads_nothing runs) in
    let none : r.pend ≡ [] = r.pending in
    (r.chars, r.are, r.raw_is ∙ ap (λ x. flat_map char_text r.chars ++ x) none ∙ append-nil (flat_map char_text r.chars))

pub slice_first : (bytes : List ℕ) (at k b : ℕ) → at < k → k ≤ length bytes → get_or bytes at 0 ≡ b → slice_range bytes at k ≡ b ∷ slice_range bytes (at + 1) k
slice_first bytes at k b lt within e = sym (slice_join bytes at (at + 1) k (omega arith) (omega arith) within) ∙ ap (λ x. x ++ slice_range bytes (at + 1) k) (slice-one bytes at (omega arith) ∙ ap (λ c. c ∷ []) e)

pub string_ok : (bytes : List ℕ) (at end : ℕ) → at < end → end < length bytes → get_or bytes at 0 ≡ 34 → get_or bytes end 0 ≡ 34 → LexRuns Between (slice_range bytes (at + 1) end) → lex_end Between (slice_range bytes (at + 1) end) ≡ Between
    → IsStringText (slice_range bytes at (end + 1))
string_ok bytes at end lt within opens closes runs whole =
    let c = string_inside (slice_range bytes (at + 1) end) runs whole in
    let last : slice_range bytes (at + 1) (end + 1) ≡ flat_map char_text c.0 ++ 34 ∷ [] = slice-more bytes (at + 1) end (omega arith) within ∙ ap (λ x. x ++ get_or bytes end 0 ∷ []) c.2 ∙ ap (λ b. flat_map char_text c.0 ++ b ∷ []) closes in
    record { chars = c.0; are = c.1; spelled = slice_first bytes at (end + 1) 34 (omega arith) (omega arith) opens ∙ ap (λ x. 34 ∷ x) last }

pub string_cut : (bytes : List ℕ) (at k : ℕ) → at < k → k ≤ length bytes → get_or bytes at 0 ≡ 34 → LexRuns Between (slice_range bytes (at + 1) k) → StringCut bytes at k
string_cut bytes at k lt within opens runs =
    let xs = slice_range bytes (at + 1) k in
    let lex = lex_end Between xs in
    let c = completion lex in
    let all = LexRuns-append Between xs c.bytes runs c.runs.runs in
    let end : lex_end Between (xs ++ c.bytes) ≡ Between = lex_end-append Between xs c.bytes ∙ c.runs.end_is in
    let found = string_inside (xs ++ c.bytes) all end in
    record {
      behind = omega arith;
      within = within;
      more = c.bytes ++ 34 ∷ [];
      some = omega (arith, length-append c.bytes (34 ∷ []));
      string = record {
        chars = found.0;
        are = found.1;
        spelled = ap (λ x. x ++ (c.bytes ++ 34 ∷ [])) (slice_first bytes at k 34 lt within opens) ∙ ap (λ x. 34 ∷ x) (sym (append_assoc xs c.bytes (34 ∷ [])) ∙ ap (λ x. x ++ 34 ∷ []) found.2);
      };
    }

pub lex_code : (lex : Lex) (xs : List ℕ) (b : ℕ) (code : JsonCode) → LexRuns Between xs → lex_end Between xs ≡ lex → lex_next lex b ≡ Bad code → IsLexCode code
lex_code lex xs b code runs e bad =
    let r = subst (ReadSoFar xs (lexed Between xs)) e (so_far Between [] [] xs reads_nothing runs) in
    elim (refusal lex r.pend b code r.pending bad) [ not_utf8 c n ↦ inl c | not_json c m ↦ inr c ]

-- numerals
phases_unique : (p : Phase) (xs : List ℕ) (q r : Phase) → Phases p xs q → Phases p xs r → q ≡ r
phases_unique p [] q r h i = sym h ∙ i
phases_unique p (b ∷ xs) q r h i =
    let same : i.0 ≡ h.0 = (let e : Some i.0 ≡ Some h.0 = sym i.1 ∙ h.1 in cc) in
    phases_unique h.0 xs q r h.2 (subst (λ x. Phases x xs r) same i.2)

phases_split : (p : Phase) (xs : List ℕ) (b : ℕ) (more : List ℕ) (last : Phase) → Phases p (xs ++ b ∷ more) last → (mid next : Phase) × Phases p xs mid × (number_next mid b ≡ Some next)
phases_split p [] b more last h = (p, h.0, refl, h.1)
phases_split p (c ∷ xs) b more last h = let s = phases_split h.0 xs b more last h.2 in (s.0, s.1, (h.0, h.1, s.2), s.3)

starts_unique : (b c : ℕ) (p q : Phase) → Starts b p → Starts c q → b ≡ c → p ≡ q
starts_unique b c p q starts_zero starts_zero e = refl
starts_unique b c p q starts_zero (starts_whole d h) e = absurd (let f : false ≡ true = ap is_nonzero e ∙ h in cc)
starts_unique b c p q starts_zero starts_minus e = absurd (omega (arith, e))
starts_unique b c p q (starts_whole d h) starts_zero e = absurd (let f : false ≡ true = ap is_nonzero (sym e) ∙ h in cc)
starts_unique b c p q (starts_whole d h) (starts_whole f i) e = refl
starts_unique b c p q (starts_whole d h) starts_minus e = absurd (let f : false ≡ true = ap is_nonzero (sym e) ∙ h in cc)
starts_unique b c p q starts_minus starts_zero e = absurd (omega (arith, e))
starts_unique b c p q starts_minus (starts_whole d h) e = absurd (let f : false ≡ true = ap is_nonzero e ∙ h in cc)
starts_unique b c p q starts_minus starts_minus e = refl

begins : (b : ℕ) (p : Phase) → Starts b p → NumberSoFar p (b ∷ [])
begins b p starts_zero = ([], inl refl, refl)
begins b p (starts_whole c h) = ([], c, [], inl refl, (λ e. apart c h e), digit c h, refl)
  where
    apart : (c : ℕ) → is_nonzero c ≡ true → c ≡ 48 → ⊥
    apart c h e = grind (arith, nat_tests)

    digit : (c : ℕ) → is_nonzero c ≡ true → list_all is_ascii_digit (c ∷ []) ≡ true
    digit c h = grind (arith, nat_tests)
begins b p starts_minus = refl

phases_read : (raw : List ℕ) (p : Phase) (xs : List ℕ) (q : Phase) → NumberSoFar p raw → Phases p xs q → NumberSoFar q (raw ++ xs)
phases_read raw p [] q h i = subst (NumberSoFar q) (sym (append-nil raw)) (subst (λ x. NumberSoFar x raw) i h)
phases_read raw p (b ∷ xs) q h i = subst (NumberSoFar q) (append_assoc raw (b ∷ []) xs) (phases_read (raw ++ b ∷ []) i.0 xs q (number_reads raw p i.0 b h i.1) i.2)

number_so_far : (p : Phase) (raw : List ℕ) → NumberTo p raw → NumberSoFar p raw
number_so_far p raw t = subst (NumberSoFar p) (sym t.spelled) (phases_read (t.first ∷ []) t.begin t.rest p (begins t.first t.begin t.starts) t.phases)

pub number_whole : (p : Phase) (raw : List ℕ) → NumberTo p raw → is_whole p ≡ true → IsNumber raw
number_whole p raw t h = number_read raw p (number_so_far p raw t) h

-- the phases of a numeral are those that were read
pub not_number : (p : Phase) (raw : List ℕ) → NumberTo p raw → is_whole p ≡ false → IsNumber raw → ⊥
not_number p raw t h n =
    let r = number_runs raw n in
    let both : r.first ∷ r.rest ≡ t.first ∷ t.rest = sym r.spelled ∙ t.spelled in
    let first : r.first ≡ t.first = cc in
    let rest : r.rest ≡ t.rest = cc in
    let begin : r.phase ≡ t.begin = starts_unique r.first t.first r.phase t.begin r.starts t.starts first in
    let there : Phases t.begin t.rest r.ends.last = subst (λ x. Phases x t.rest r.ends.last) begin (subst (λ x. Phases r.phase x r.ends.last) rest r.ends.phases) in
    let last : r.ends.last ≡ p = phases_unique t.begin t.rest r.ends.last p there t.phases in
    let wrong : true ≡ false = sym r.ends.whole ∙ ap is_whole last ∙ h in
    cc

pub number_stops : (p : Phase) (raw : List ℕ) (b : ℕ) (more : List ℕ) → NumberTo p raw → number_next p b ≡ None → IsNumber (raw ++ b ∷ more) → ⊥
number_stops p raw b more t none n =
    let r = number_runs (raw ++ b ∷ more) n in
    let both : r.first ∷ r.rest ≡ t.first ∷ (t.rest ++ b ∷ more) = sym r.spelled ∙ ap (λ x. x ++ b ∷ more) t.spelled in
    let first : r.first ≡ t.first = cc in
    let rest : r.rest ≡ t.rest ++ b ∷ more = cc in
    let begin : r.phase ≡ t.begin = starts_unique r.first t.first r.phase t.begin r.starts t.starts first in
    let there : Phases t.begin (t.rest ++ b ∷ more) r.ends.last = subst (λ x. Phases x (t.rest ++ b ∷ more) r.ends.last) begin (subst (λ x. Phases r.phase x r.ends.last) rest r.ends.phases) in
    let s = phases_split t.begin t.rest b more r.ends.last there in
    let mid : s.0 ≡ p = phases_unique t.begin t.rest s.0 p s.2 t.phases in
    let wrong : Some s.1 ≡ None = sym s.3 ∙ ap (λ x. number_next x b) mid ∙ none in
    cc

pub zero_goes : (p : Phase) → is_whole p ≡ false → (later : Phase) × (number_next p 48 ≡ Some later) × (is_whole later ≡ true)
zero_goes phase.Minus h = (phase.Zero, refl, refl)
zero_goes phase.Zero h = absurd (cc)
zero_goes phase.Whole h = absurd (cc)
zero_goes phase.Dot h = (phase.Fraction, refl, refl)
zero_goes phase.Fraction h = absurd (cc)
zero_goes phase.Mark h = (phase.Exponent, refl, refl)
zero_goes phase.Sign h = (phase.Exponent, refl, refl)
zero_goes phase.Exponent h = absurd (cc)

pub number_push : (p q : Phase) (raw : List ℕ) (b : ℕ) → NumberTo p raw → number_next p b ≡ Some q → NumberTo q (raw ++ b ∷ [])
number_push p q raw b t e = record { first = t.first; rest = t.rest ++ b ∷ []; begin = t.begin; spelled = ap (λ x. x ++ b ∷ []) t.spelled; starts = t.starts; phases = phases_append t.begin p q t.rest (b ∷ []) t.phases (q, e, refl) }

pub number_more_at : (bytes : List ℕ) (start i : ℕ) (p q : Phase) → start ≤ i → i < length bytes → NumberTo p (slice_range bytes start i) → number_next p (get_or bytes i 0) ≡ Some q → NumberTo q (slice_range bytes start (i + 1))
number_more_at bytes start i p q le lt t e = subst (NumberTo q) (sym (slice-more bytes start i le lt)) (number_push p q (slice_range bytes start i) (get_or bytes i 0) t e)

pub number_cut : (bytes : List ℕ) (start k : ℕ) (p : Phase) → NumberTo p (slice_range bytes start k) → is_whole p ≡ false → NumberCut bytes start k
number_cut bytes start k p t h =
    let z = zero_goes p h in
    record { more = 48 ∷ []; some = omega arith; number = number_whole z.0 (slice_range bytes start k ++ 48 ∷ []) (number_push p z.0 (slice_range bytes start k) 48 t z.1) z.2; cut = not_number p (slice_range bytes start k) t h }

pub number_stops_at : (bytes : List ℕ) (start end : ℕ) (p : Phase) → start ≤ end → NumberTo p (slice_range bytes start end) → number_next p (get_or bytes end 0) ≡ None → NumberStops bytes start end
number_stops_at bytes start end p le t none more lt n =
    number_stops p (slice_range bytes start end) (get_or bytes end 0) more t none (subst IsNumber (ap (λ x. x ++ more) (slice-more bytes start end le lt) ∙ append_assoc (slice_range bytes start end) (get_or bytes end 0 ∷ []) more) n)

pub stops_at_end : (bytes : List ℕ) (start end : ℕ) → length bytes ≤ end → NumberStops bytes start end
stops_at_end bytes start end past more lt n = absurd (omega arith)

-- no numeral begins so
abbrev pub is_number_class : Class → Bool
is_number_class Quote = false
is_number_class Zero = true
is_number_class Digit = true
is_number_class Minus = true
is_number_class Letter = false
is_number_class Comma = false
is_number_class Colon = false
is_number_class OpenList = false
is_number_class CloseList = false
is_number_class OpenObject = false
is_number_class CloseObject = false
is_number_class Space = false
is_number_class Other = false

starts_class : (b : ℕ) (p : Phase) → Starts b p → is_number_class (class b) ≡ true
unfolding class
starts_class b p starts_zero = refl
starts_class b p (starts_whole c h) = ap is_number_class (digit c h)
  where
    digit : (c : ℕ) → is_nonzero c ≡ true → class c ≡ Digit
    digit c h = grind (arith, nat_tests)
starts_class b p starts_minus = refl

pub other_first : (b : ℕ) (xs : List ℕ) → is_number_class (class b) ≡ false → IsNumber (b ∷ xs) → ⊥
other_first b xs h n =
    let r = number_runs (b ∷ xs) n in
    let both : b ∷ xs ≡ r.first ∷ r.rest = r.spelled in
    let first : b ≡ r.first = cc in
    let wrong : false ≡ true = sym h ∙ ap (λ x. is_number_class (class x)) first ∙ starts_class r.first r.phase r.starts in
    cc

pub nothing_read : IsNumber [] → ⊥
nothing_read n = let r = number_runs [] n in let both : [] ≡ r.first ∷ r.rest = r.spelled in cc

pub other_stops : (bytes : List ℕ) (at end : ℕ) → at < end → is_number_class (class (get_or bytes at 0)) ≡ false → NumberStops bytes at end
other_stops bytes at end lt h more inside n =
    other_first (get_or bytes at 0) (slice_range bytes (at + 1) (end + 1) ++ more) h (subst IsNumber (ap (λ x. x ++ more) (slice_first bytes at (end + 1) (get_or bytes at 0) (omega arith) (omega arith) refl)) n)

pub other_cut : (bytes : List ℕ) (at k : ℕ) → at ≤ k → k ≤ length bytes → (at < k → is_number_class (class (get_or bytes at 0)) ≡ false) → IsNumber (slice_range bytes at k) → ⊥
other_cut bytes at k le within h n = on (nat_le k at) refl
  where
    below : nat_le k at ≡ false → at < k
    below e = grind (arith, nat_tests)

    above : nat_le k at ≡ true → k ≡ at
    above e = (let le2 : k ≤ at = grind (arith, nat_tests) in omega arith)

    on : (t : Bool) → nat_le k at ≡ t → ⊥
    on true e = nothing_read (subst IsNumber (ap (slice_range bytes at) (above e) ∙ slice-empty bytes at) n)
    on false e = let lt = below e in other_first (get_or bytes at 0) (slice_range bytes (at + 1) k) (h lt) (subst IsNumber (slice_first bytes at k (get_or bytes at 0) lt within refl) n)

-- words
pub word_cut : (bytes word : List ℕ) (at i m : ℕ) → at ≤ i → i ≤ length bytes → m < length word → slice_range bytes at i ≡ take m word → WordCut bytes at i word
word_cut bytes word at i m le within short e = record {
  behind = le;
  within = within;
  more = drop m word;
  some = omega (arith, length-drop m word);
  spelled = sym (take-append-drop m word) ∙ ap (λ x. x ++ drop m word) (sym e);
}

pub word_more : (bytes word : List ℕ) (at i m : ℕ) → at ≤ i → i < length bytes → m < length word → slice_range bytes at i ≡ take m word → get_or bytes i 0 ≡ get_or word m 0 → slice_range bytes at (i + 1) ≡ take (m + 1) word
word_more bytes word at i m le lt short e b = slice-more bytes at i le lt ∙ ap (λ x. x ++ get_or bytes i 0 ∷ []) e ∙ ap (λ x. take m word ++ x ∷ []) b ∙ sym (take_more word m 0 short)

-- scalars
pub scalar_cut : (bytes : List ℕ) (at k : ℕ) → at ≤ k → k ≤ length bytes → NumberCut bytes at k → ScalarCut bytes at k
scalar_cut bytes at k le within c = record { behind = le; within = within; more = c.more; some = c.some; scalar = record { value = json.number (slice_range bytes at k ++ c.more); is_json = c.number; flat = refl; spelled = refl }; no_number = c.cut }

pub zero_number : IsNumber (48 ∷ [])
zero_number = number_whole phase.Zero (48 ∷ []) (record { first = 48; rest = []; begin = phase.Zero; spelled = refl; starts = starts_zero; phases = refl }) refl

-- nothing has been read
pub scalar_none : (bytes : List ℕ) (at : ℕ) → at ≤ length bytes → ScalarCut bytes at at
scalar_none bytes at within = record {
  behind = omega arith;
  within = within;
  more = 48 ∷ [];
  some = omega arith;
  scalar = record { value = json.number (48 ∷ []); is_json = zero_number; flat = refl; spelled = ap (λ x. x ++ 48 ∷ []) (slice-empty bytes at) };
  no_number = λ n. nothing_read (subst IsNumber (slice-empty bytes at) n);
}

-- only a minus has been read
minus_to : NumberTo phase.Minus (45 ∷ [])
minus_to = record { first = 45; rest = []; begin = phase.Minus; spelled = refl; starts = starts_minus; phases = refl }

pub scalar_minus : (bytes : List ℕ) (at : ℕ) → at < length bytes → get_or bytes at 0 ≡ 45 → ScalarCut bytes at (at + 1)
scalar_minus bytes at lt e =
    let one : slice_range bytes at (at + 1) ≡ 45 ∷ [] = slice-one bytes at lt ∙ ap (λ b. b ∷ []) e in
    scalar_cut bytes at (at + 1) (omega arith) (omega arith) (number_cut bytes at (at + 1) phase.Minus (subst (NumberTo phase.Minus) (sym one) minus_to) refl)

pub one_to : (bytes : List ℕ) (at b : ℕ) (p : Phase) → at < length bytes → get_or bytes at 0 ≡ b → Starts b p → NumberTo p (slice_range bytes at (at + 1))
one_to bytes at b p lt e s = record { first = b; rest = []; begin = p; spelled = slice-one bytes at lt ∙ ap (λ c. c ∷ []) e; starts = s; phases = refl }

pub two_to : (bytes : List ℕ) (at : ℕ) (p : Phase) → at + 1 < length bytes → get_or bytes at 0 ≡ 45 → number_next phase.Minus (get_or bytes (at + 1) 0) ≡ Some p → NumberTo p (slice_range bytes at (at + 2))
two_to bytes at p lt e n =
    let place : (at + 1) + 1 ≡ at + 2 = omega arith in
    subst (λ x. NumberTo p (slice_range bytes at x)) place (number_more_at bytes at (at + 1) phase.Minus p (omega arith) lt (one_to bytes at 45 phase.Minus (omega arith) e starts_minus) n)

-- a word from its first byte on, and from its second
pub word_one : (bytes : List ℕ) (at end a : ℕ) (rest : List ℕ) → at < end → end ≤ length bytes → get_or bytes at 0 ≡ a → slice_range bytes (at + 1) end ≡ rest → slice_range bytes at end ≡ a ∷ rest
word_one bytes at end a rest lt within e h = slice_first bytes at end a lt within e ∙ ap (λ x. a ∷ x) h

pub word_two : (bytes : List ℕ) (at end a b : ℕ) (rest : List ℕ) → at + 1 < end → end ≤ length bytes → get_or bytes at 0 ≡ a → get_or bytes (at + 1) 0 ≡ b → slice_range bytes (at + 2) end ≡ rest → slice_range bytes at end ≡ a ∷ b ∷ rest
word_two bytes at end a b rest lt within e f h =
    let place : at + 2 ≡ (at + 1) + 1 = omega arith in
    word_one bytes at end a (b ∷ rest) (omega arith) within e (word_one bytes (at + 1) end b rest lt within f (ap (λ x. slice_range bytes x end) (sym place) ∙ h))

pub cut_one : (bytes : List ℕ) (at k a : ℕ) (rest : List ℕ) → get_or bytes at 0 ≡ a → is_number_class (class a) ≡ false → WordCut bytes (at + 1) k rest → IsScalarText (a ∷ rest) → ScalarCut bytes at k
cut_one bytes at k a rest e other c t =
    let whole : slice_range bytes at k ≡ a ∷ slice_range bytes (at + 1) k = slice_first bytes at k a (omega (arith, c.behind)) c.within e in
    record {
      behind = omega (arith, c.behind);
      within = c.within;
      more = c.more;
      some = c.some;
      scalar = subst IsScalarText (ap (λ x. a ∷ x) c.spelled ∙ sym (ap (λ x. x ++ c.more) whole)) t;
      no_number = λ n. other_first a (slice_range bytes (at + 1) k) other (subst IsNumber whole n);
    }

pub minus_letter : (b : ℕ) (xs : List ℕ) → number_next phase.Minus b ≡ None → IsNumber (45 ∷ b ∷ xs) → ⊥
minus_letter b xs none n = number_stops phase.Minus (45 ∷ []) b xs minus_to none n

pub cut_two : (bytes : List ℕ) (at k a b : ℕ) (rest : List ℕ) → get_or bytes at 0 ≡ a → get_or bytes (at + 1) 0 ≡ b → ((xs : List ℕ) → IsNumber (a ∷ b ∷ xs) → ⊥) → WordCut bytes (at + 2) k rest → IsScalarText (a ∷ b ∷ rest) → ScalarCut bytes at k
cut_two bytes at k a b rest e f other c t =
    let whole : slice_range bytes at k ≡ a ∷ b ∷ slice_range bytes (at + 2) k = word_two bytes at k a b (slice_range bytes (at + 2) k) (omega (arith, c.behind)) c.within e f refl in
    record {
      behind = omega (arith, c.behind);
      within = c.within;
      more = c.more;
      some = c.some;
      scalar = subst IsScalarText (ap (λ x. a ∷ b ∷ x) c.spelled ∙ sym (ap (λ x. x ++ c.more) whole)) t;
      no_number = λ n. other (slice_range bytes (at + 2) k) (subst IsNumber whole n);
    }

-- only the first letter of a word has been read
pub cut_first : (bytes : List ℕ) (at a : ℕ) (rest : List ℕ) → at < length bytes → 0 < length rest → get_or bytes at 0 ≡ a → is_number_class (class a) ≡ false → IsScalarText (a ∷ rest) → ScalarCut bytes at (at + 1)
cut_first bytes at a rest lt some e other t = cut_one bytes at (at + 1) a rest e other (record { behind = omega arith; within = omega arith; more = rest; some = some; spelled = sym (ap (λ x. x ++ rest) (slice-empty bytes (at + 1))) }) t

-- a part of a string behind a whole part
pub runs_join : (bytes : List ℕ) (a b c : ℕ) → a ≤ b → b ≤ c → c ≤ length bytes → LexRuns Between (slice_range bytes a b) → lex_end Between (slice_range bytes a b) ≡ Between → LexRuns Between (slice_range bytes b c) → LexRuns Between (slice_range bytes a c)
runs_join bytes a b c ab bc within r e q = subst (LexRuns Between) (slice_join bytes a b c ab bc within) (LexRuns-append Between (slice_range bytes a b) (slice_range bytes b c) r (subst (λ x. LexRuns x (slice_range bytes b c)) (sym e) q))

pub string_none : (bytes : List ℕ) (at : ℕ) → at ≤ length bytes → StringCut bytes at at
string_none bytes at within = record { behind = omega arith; within = within; more = 34 ∷ 34 ∷ []; some = omega arith; string = record { chars = []; are = tt; spelled = ap (λ x. x ++ (34 ∷ 34 ∷ [])) (slice-empty bytes at) } }

pub number_scalar : (bytes : List ℕ) → IsNumber bytes → IsScalarText bytes
number_scalar bytes n = record { value = json.number bytes; is_json = n; flat = refl; spelled = refl }

-- the words
pub null_text : IsScalarText (codes "null")
null_text = record { value = json.null; is_json = tt; flat = refl; spelled = refl }

pub true_text : IsScalarText (codes "true")
true_text = record { value = json.flag true; is_json = tt; flat = refl; spelled = refl }

pub false_text : IsScalarText (codes "false")
false_text = record { value = json.flag false; is_json = tt; flat = refl; spelled = refl }

pub inf_text : IsScalarText (codes "inf")
inf_text = record { value = json.bare (codes "inf"); is_json = (0, omega arith, refl); flat = refl; spelled = refl }

pub minus_inf_text : IsScalarText (codes "-inf")
minus_inf_text = record { value = json.bare (codes "-inf"); is_json = (1, omega arith, refl); flat = refl; spelled = refl }

pub nan_text : IsScalarText (codes "nan")
nan_text = record { value = json.bare (codes "nan"); is_json = (2, omega arith, refl); flat = refl; spelled = refl }

pub minus_nan_text : IsScalarText (codes "-nan")
minus_nan_text = record { value = json.bare (codes "-nan"); is_json = (3, omega arith, refl); flat = refl; spelled = refl }

-- the words as they end
pub one_ok : (bytes : List ℕ) (at end a : ℕ) (rest : List ℕ) → at < end → end ≤ length bytes → get_or bytes at 0 ≡ a → slice_range bytes (at + 1) end ≡ rest → IsScalarText (a ∷ rest) → IsScalarText (slice_range bytes at end)
one_ok bytes at end a rest lt within e h t = subst IsScalarText (sym (word_one bytes at end a rest lt within e h)) t

pub two_ok : (bytes : List ℕ) (at end a b : ℕ) (rest : List ℕ) → at + 1 < end → end ≤ length bytes → get_or bytes at 0 ≡ a → get_or bytes (at + 1) 0 ≡ b → slice_range bytes (at + 2) end ≡ rest → IsScalarText (a ∷ b ∷ rest) → IsScalarText (slice_range bytes at end)
two_ok bytes at end a b rest lt within e f h t = subst IsScalarText (sym (word_two bytes at end a b rest lt within e f h)) t

-- behind -inf and -nan
pub two_stops : (bytes : List ℕ) (at end : ℕ) → at + 1 < end → get_or bytes at 0 ≡ 45 → number_next phase.Minus (get_or bytes (at + 1) 0) ≡ None → NumberStops bytes at end
two_stops bytes at end lt e none more inside n =
    let whole = word_two bytes at (end + 1) 45 (get_or bytes (at + 1) 0) (slice_range bytes (at + 2) (end + 1)) (omega arith) (omega arith) e refl refl in
    minus_letter (get_or bytes (at + 1) 0) (slice_range bytes (at + 2) (end + 1) ++ more) none (subst IsNumber (ap (λ x. x ++ more) whole) n)

pub letter_class : (b : ℕ) (c : Class) → class b ≡ c → is_number_class c ≡ false → is_number_class (class b) ≡ false
letter_class b c e h = ap is_number_class e ∙ h

pub is_n : (b : ℕ) → class b ≡ Letter → (b ≡ 116 → ⊥) → (b ≡ 102 → ⊥) → (b ≡ 105 → ⊥) → b ≡ 110
unfolding class
is_n b h t f i = grind (arith, nat_tests)

pub n_class : is_number_class (class 110) ≡ false
unfolding class
n_class = refl

pub not_deep : (code : JsonCode) → code ≡ NotJson → code ≡ TooDeep → ⊥
not_deep code h e = cc
