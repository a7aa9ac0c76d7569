-- What can be added to the text of a string, by what was read of it.
use Rattle.std.proofs.Common.{◌≡◌, ◌∙◌, ℕ, suc, ◌+◌, ◌*◌, ◌<◌, ◌≤◌, List, ◌++◌, length, get_or, take, drop, refl, ap, sym, subst, arith, true, add-one, append_assoc, append-nil}
use Rattle.std.specs.Prelude.{◌==◌, if◌then◌else◌}
use Rattle.std.specs.Char.{digit_value}
use Rattle.std.specs.Str.{IsUtf8, is_utf8}
use Rattle.std.proofs.Math.Seq.{drop-cons}
use Rattle.std.proofs.lemmas.List.{take_more}
use Rattle.std.proofs.lemmas.Bool.Decides.{nat_tests}
use Rattle.std.proofs.lemmas.Str.{is_utf8-from_IsUtf8}
use Rattle.json_text.specs.Text.{string_value}
use Rattle.json_text.specs.Lexing.{is_short, is_hex, bad_byte, more, last_hex, lex_next, lex_emits, lex_after, lex_end, lexed, LexRuns, went}
use Rattle.json_text.specs.Emitting.{CanEmit}
use Rattle.json_text.specs.declared.lex.Lex.{Lex}
use Rattle.json_text.specs.declared.lex.Lex.TheVariants.{Between, Tail1, Tail2, Tail3, BehindE0, BehindEd, BehindF0, BehindF4, Escape, Hex0, Hex1, Hex2, Hex3, Backslash, LetterU, Low0, Low1, Low2, Low3}
use Rattle.json_text.specs.declared.lex.LexGo.{LexGo}
use Rattle.json_text.specs.declared.lex.LexGo.TheVariants.{Goes}
use Rattle.json_text.proofs.Chars.{split, ReadSoFar, reads, Half, bad_never, scalar_hex, not_between, not_below, hex_small, high_range, low_range}
use Rattle.json_text.proofs.Refusals.{string_utf8}

escape_ascii : (b : ℕ) (next : Lex) → (if b == 117 then Goes Hex0 else if is_short b then Goes Between else bad_byte b) ≡ Goes next → b < 128
escape_ascii b next h =
    split (b == 117) (Goes Hex0) (if is_short b then Goes Between else bad_byte b) (Goes next) h (λ e g. grind (arith, nat_tests))
    (λ e g. split (is_short b) (Goes Between) (bad_byte b) (Goes next) g (λ f k. grind (arith, nat_tests)) (λ f k. bad_never b next k))

hex_is : (b : ℕ) (x : LexGo) (next : Lex) → (if is_hex b then x else bad_byte b) ≡ Goes next → is_hex b ≡ true
hex_is b x next h = split (is_hex b) x (bad_byte b) (Goes next) h (λ e g. e) (λ e g. bad_never b next g)

pub can_emit : (raw s : List ℕ) (lex : Lex) (b : ℕ) (next : Lex) → ReadSoFar raw s lex → lex_next lex b ≡ Goes next → CanEmit lex b
can_emit raw s Between b next r h = tt
can_emit raw s Tail1 b next r h = tt
can_emit raw s Tail2 b next r h = tt
can_emit raw s Tail3 b next r h = tt
can_emit raw s BehindE0 b next r h = tt
can_emit raw s BehindEd b next r h = tt
can_emit raw s BehindF0 b next r h = tt
can_emit raw s BehindF4 b next r h = tt
can_emit raw s Escape b next r h = escape_ascii b next h
can_emit raw s Hex0 b next r h = tt
can_emit raw s (Hex1 v) b next r h = tt
can_emit raw s (Hex2 v) b next r h = tt
can_emit raw s (Hex3 v) d next r h =
    let p = r.pending in
    let a = p.0 in
    let b = p.1 in
    let c = p.2 in
    let hd = hex_is d (last_hex (more v d)) next h in
    let v_is : v ≡ more (more (digit_value a) b) c = p.6 in
    let small_a = hex_small a p.3 in
    let small_b = hex_small b p.4 in
    (hd, λ e. rw v_is (scalar_hex (more (digit_value a) b) (digit_value c) (digit_value d) (omega arith) (hex_small c p.5) (hex_small d hd) (not_between 0xDC 0xDF (more (digit_value a) b) p.7) (not_below 0xD800 0xDC00 (more (more (more (digit_value a) b) c) d) (rw (← v_is) e))))
can_emit raw s (Backslash high) b next r h = tt
can_emit raw s (LetterU high) b next r h = tt
can_emit raw s (Low0 high) b next r h = tt
can_emit raw s (Low1 high) b next r h = tt
can_emit raw s (Low2 high v) b next r h = tt
can_emit raw s (Low3 high v) d next r h =
    let p = r.pending in
    let half : Half high p.0 = p.1 in
    let t = p.2 in
    let hd = hex_is d (Goes Between) next h in
    let range = high_range high half.2 in
    let second = low_range (more 13 t.1) t.8 in
    let small_b = hex_small t.1 t.5 in
    let small_c = hex_small t.2 t.6 in
    let small_d = hex_small d hd in
    let low_is : more v d ≡ 16 * (16 * (more 13 t.1) + digit_value t.2) + digit_value d = rw t.7 refl in
    (hd, record { from_low = range.0; below = range.1 }, record { from_low = omega arith; below = omega arith })

-- what a loop over the bytes has behind and before it
pub record Unescaping (bytes : List ℕ) (i : ℕ) (text : List ℕ) (lex : Lex) : Type 0 where
  pub within : i ≤ length bytes
  pub runs : LexRuns lex (drop i bytes)
  pub whole : lex_end lex (drop i bytes) ≡ Between
  pub value : text ++ lexed lex (drop i bytes) ≡ lexed Between bytes
  pub reads : ReadSoFar (take i bytes) text lex

pub goes_there : (bytes : List ℕ) (i : ℕ) (text : List ℕ) (lex : Lex) → i < length bytes → Unescaping bytes i text lex → lex_next lex (get_or bytes i 0) ≡ Goes (lex_after lex (get_or bytes i 0))
goes_there bytes i text lex lt u = (subst (LexRuns lex) (drop-cons bytes i 0 lt) u.runs).0

pub unescape_step : (bytes : List ℕ) (i : ℕ) (text : List ℕ) (lex next : Lex) → i < length bytes → Unescaping bytes i text lex → lex_next lex (get_or bytes i 0) ≡ Goes next → Unescaping bytes (i + 1) (text ++ lex_emits lex (get_or bytes i 0)) next
unescape_step bytes i text lex next lt u g =
    let b = get_or bytes i 0 in
    let cut = drop-cons bytes i 0 lt in
    let after : lex_after lex b ≡ next = ap went g in
    let one : i + 1 ≡ suc i = add-one i in
    record {
      within = omega arith;
      runs = subst (λ x. LexRuns next (drop x bytes)) (sym one) (subst (λ x. LexRuns x (drop (suc i) bytes)) after (subst (LexRuns lex) cut u.runs).1);
      whole = ap (λ x. lex_end next (drop x bytes)) one ∙ ap (λ x. lex_end x (drop (suc i) bytes)) (sym after) ∙ ap (lex_end lex) (sym cut) ∙ u.whole;
      value = ap (λ x. (text ++ lex_emits lex b) ++ lexed next (drop x bytes)) one ∙ ap (λ x. (text ++ lex_emits lex b) ++ lexed x (drop (suc i) bytes)) (sym after)
          ∙ append_assoc text (lex_emits lex b) (lexed (lex_after lex b) (drop (suc i) bytes)) ∙ ap (λ x. text ++ lexed lex x) (sym cut) ∙ u.value;
      reads = subst (λ x. ReadSoFar x (text ++ lex_emits lex b) next) (sym (take_more bytes i 0 lt)) (reads (take i bytes) text lex b next u.reads g);
    }

pub unescaped_utf8 : (raw text : List ℕ) (lex : Lex) → ReadSoFar raw text lex → lex ≡ Between → is_utf8 text ≡ true
unescaped_utf8 raw text lex r e =
    let w : ReadSoFar raw text Between = subst (ReadSoFar raw text) e r in
    is_utf8-from_IsUtf8 text (subst IsUtf8 (sym (w.value_is ∙ append-nil (string_value w.chars))) (string_utf8 w.chars w.are))
