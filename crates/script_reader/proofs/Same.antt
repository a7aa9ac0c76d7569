-- Lines that spell the same words.
use Rattle.std.specs.Prelude.{◌≡◌, ℕ, Bool, true, false, not, ◌==◌, ◌||◌, ◌&&◌, List, [], ◌∷◌, ◌++◌, Option, Some, Result, Ok, Err}
use Rattle.std.specs.List.{list_all}
use Rattle.std.proofs.Common.{refl, sym, ap, subst, ◌∙◌, inl, inr, append_assoc}
use Rattle.std.proofs.lemmas.Bool.{not-true}
use Rattle.plan_lines.specs.declared.command.Command.{Command}
use Rattle.script_reader.specs.declared.fault.ScriptFault.{ScriptFault}
use Rattle.script_reader.specs.Words.{is_separator, is_plain, unquoted, ends_word, IsBare, SpellsWord, SpellsFirst, SpellsLine}
use Rattle.script_reader.specs.Reading.{gives, the_one, and_then}
use Rattle.script_reader.specs.Arguments.{command_of_words}
use Rattle.script_reader.specs.Lines.{HasWords, has_no_command, utf8, spelled, command_unless, command_of_line}
use Rattle.script_reader.proofs.Spelling.{plain_more, one_reading, all_tail}

-- ---- a bare word between quotes
plain_byte : (a b q : Bool) → not ((a || b) || q) ≡ true → q ≡ false
plain_byte true b q e = absurd (cc)
plain_byte false true q e = absurd (cc)
plain_byte false false true e = absurd (cc)
plain_byte false false false e = refl

says_itself : (word : List ℕ) → list_all is_plain word ≡ true → list_all (λ c. not (c == 92)) word ≡ true → unquoted word ≡ Some word
says_itself [] h k = refl
says_itself (c ∷ cs) h k =
    let p : (is_plain c ≡ true) × (list_all is_plain cs ≡ true) = all_tail is_plain c cs h in
    let q : (not (c == 92) ≡ true) × (list_all (λ c. not (c == 92)) cs ≡ true) = all_tail (λ c. not (c == 92)) c cs k in
    plain_more c cs cs (plain_byte (c == 32) (c == 9) (c == 34) p.0) (not-true (c == 92) q.0) (says_itself cs p.1 q.1)

bare_spells : (word : List ℕ) → IsBare word → SpellsWord word word
bare_spells word b = inl (b.some, b.plain, refl)

quoted_spells : (word : List ℕ) → IsBare word → SpellsWord (34 ∷ (word ++ 34 ∷ [])) word
quoted_spells word b = inr (word, refl, says_itself word b.plain b.unescaped)

pub bare_or_quoted : (word : List ℕ) → IsBare word → SpellsWord word word × SpellsWord (34 ∷ (word ++ 34 ∷ [])) word
bare_or_quoted word b = (bare_spells word b, quoted_spells word b)

-- ---- one line behind another
both_all : (p : ℕ → Bool) (xs ys : List ℕ) → list_all p xs ≡ true → list_all p ys ≡ true → list_all p (xs ++ ys) ≡ true
both_all p [] ys h k = k
both_all p (x ∷ xs) ys h k = let t : (p x ≡ true) × (list_all p xs ≡ true) = all_tail p x xs h in ap (λ b. b && list_all p (xs ++ ys)) t.0 ∙ both_all p xs ys t.1 k

ends_both : (a b : List ℕ) → ends_word a ≡ true → ends_word b ≡ true → ends_word (a ++ b) ≡ true
ends_both [] b h k = k
ends_both (c ∷ cs) b h k = h

pub joined : (front rest : List ℕ) (us vs : List (List ℕ)) → SpellsLine front us → SpellsLine rest vs → ends_word rest ≡ true → SpellsLine (front ++ rest) (us ++ vs)
joined front rest [] [] h k e = both_all is_separator front rest h k
joined front rest [] (v ∷ vs) h k e =
    let s : SpellsFirst rest v k.0 = k.1 in
    (k.0, record { before = front ++ s.before; text = s.text; blank = both_all is_separator front s.before h s.blank; spells = s.spells; ends = s.ends; line_is = ap (λ l. front ++ l) s.line_is ∙ sym (append_assoc front s.before (s.text ++ k.0)) }, k.2)
joined front rest (u ∷ us) vs h k e =
    let s : SpellsFirst front u h.0 = h.1 in
    (h.0 ++ rest, record { before = s.before; text = s.text; blank = s.blank; spells = s.spells; ends = ends_both h.0 rest s.ends e; line_is = ap (λ l. l ++ rest) s.line_is ∙ (append_assoc s.before (s.text ++ h.0) rest ∙ ap (λ l. s.before ++ l) (append_assoc s.text h.0 rest)) }, joined h.0 rest us vs h.2 k e)

word_first : (text word rest : List ℕ) (words : List (List ℕ)) → SpellsWord text word → SpellsLine rest words → ends_word rest ≡ true → SpellsLine (32 ∷ (text ++ rest)) (word ∷ words)
word_first text word rest words s k e = (rest, record { before = 32 ∷ []; text = text; blank = refl; spells = s; ends = e; line_is = refl }, k)

pub in_line : (front word rest : List ℕ) (us vs : List (List ℕ)) → IsBare word → SpellsLine front us → SpellsLine rest vs → ends_word rest ≡ true → SpellsLine (front ++ 32 ∷ (word ++ rest)) (us ++ word ∷ vs) × SpellsLine (front ++ 32 ∷ ((34 ∷ (word ++ 34 ∷ [])) ++ rest)) (us ++ word ∷ vs)
in_line front word rest us vs b h k e = (
  joined front (32 ∷ (word ++ rest)) us (word ∷ vs) h (word_first word word rest vs (bare_spells word b) k e) refl,
  joined front (32 ∷ ((34 ∷ (word ++ 34 ∷ [])) ++ rest)) us (word ∷ vs) h (word_first (34 ∷ (word ++ 34 ∷ [])) word rest vs (quoted_spells word b) k e) refl,
)

-- ---- the same words, the same command
spelled_too : (line other : List ℕ) (words : List (List ℕ)) → SpellsLine line words → SpellsLine other words → (read : Result (List (List ℕ)) ScriptFault) → spelled line read → spelled other read
unfolding the_one
spelled_too line other words h k (Ok ws) s = (subst (SpellsLine other) (one_reading line words ws h s.0) k, s.1)
spelled_too line other words h k (Err fault) s = (s.0, λ ws t. s.1 ws (subst (SpellsLine line) (one_reading other words ws k t.0) h, t.1))

first_too : {A B : Type 0} (first other : Result A ScriptFault → Type 0) (next : A → Result B ScriptFault → Type 0) → ((read : Result A ScriptFault) → first read → other read) → (result : Result B ScriptFault) → and_then first next result → and_then other next result
unfolding and_then
first_too first other next f (Ok b) h = (h.0, f (Ok h.0) h.1, h.2)
first_too first other next f (Err fault) (inl h) = inl (f (Err fault) h)
first_too first other next f (Err fault) (inr h) = inr (h.0, f (Ok h.0) h.1, h.2)

read_both : {A B : Type 0} (first other : Result A ScriptFault → Type 0) (next more : A → Result B ScriptFault → Type 0) → ((read : Result A ScriptFault) → first read → other read) → ((a : A) (read : Result B ScriptFault) → next a read → more a read) → (result : Result B ScriptFault) → and_then first next result → and_then other more result
unfolding and_then
read_both first other next more f g (Ok b) h = (h.0, f (Ok h.0) h.1, g h.0 (Ok b) h.2)
read_both first other next more f g (Err fault) (inl h) = inl (f (Err fault) h)
read_both first other next more f g (Err fault) (inr h) = inr (h.0, f (Ok h.0) h.1, g h.0 (Err fault) h.2)

utf8_too : (line other : List ℕ) (words : List (List ℕ)) → HasWords line words → HasWords other words → (read : Result (Unit {0}) ScriptFault) → utf8 line read → utf8 other read
unfolding the_one
utf8_too line other words h k (Ok u) s = k.in_utf8
utf8_too line other words h k (Err fault) s = absurd (s.1 tt h.in_utf8)

pub same_command : (line other : List ℕ) (words : List (List ℕ)) → HasWords line words → HasWords other words → (result : Result (Option Command) ScriptFault) → command_of_line line result → command_of_line other result
same_command line other words h k result r =
    read_both (utf8 line) (utf8 other) (λ u. command_unless (has_no_command line) line) (λ u. command_unless (has_no_command other) other) (utf8_too line other words h k) (λ u read s.
    subst (λ (b : Bool). command_unless b other read) (sym k.has_command)
    (first_too (spelled line) (spelled other) (λ words. and_then (command_of_words words) (λ command. gives (Some command))) (spelled_too line other words h.spells k.spells) read
    (subst (λ (b : Bool). command_unless b line read) h.has_command s))) result r
