-- A reader of words takes a printed word for the word itself.
use Rattle.std.specs.Prelude.{◌≡◌, ℕ, Bool, true, false, not, ◌==◌, ◌||◌, ◌&&◌, List, [], ◌∷◌, ◌++◌, map, Some, None, if◌then◌else◌}
use Rattle.std.specs.List.{list_all, flat_map}
use Rattle.std.proofs.Common.{refl, sym, ap, ◌∙◌, arith, inl, inr, eqb-true}
use Rattle.std.proofs.lemmas.Bool.{and_parts}
use Rattle.plan_base.specs.declared.shape.Kind.{Kind}
use Rattle.script_reader.specs.Fields.{IsName, WritesObject, kind_word}
use Rattle.script_reader.specs.Words.{is_plain, escaped, put, unquoted, ends_word, SpellsLine, SpellsWord}
use Rattle.plan_report.specs.Layout.{spaced}
use Rattle.plan_report.specs.Words.{in_quotes, is_bare, needs_quotes, object_word, printed_word, quoted}

-- ---- between quotes
-- a byte that stands for itself, before any more
alone : (byte : ℕ) (rest word : List ℕ) → (byte == 34) ≡ false → (byte == 92) ≡ false → unquoted rest ≡ Some word → unquoted (byte ∷ rest) ≡ Some (byte ∷ word)
alone byte [] word quote slash is =
    let none : [] ≡ word = cc in
    ap (λ b. if b || byte == 92 then None else Some (byte ∷ [])) quote ∙ ap (λ b. if b then None else Some (byte ∷ [])) slash ∙ ap (λ w. Some (byte ∷ w)) none
alone byte (next ∷ rest) word quote slash is =
    ap (λ b. if b then None else if byte == 92 then put (escaped next) (unquoted rest) else put (Some byte) (unquoted (next ∷ rest))) quote
    ∙ ap (λ b. if b then put (escaped next) (unquoted rest) else put (Some byte) (unquoted (next ∷ rest))) slash
    ∙ ap (put (Some byte)) is

-- what stands for a byte, by the tests of its kind
by_tests : ℕ → Bool → Bool → Bool → Bool → Bool → List ℕ
by_tests byte quote slash newline tab return =
    if quote then 92 ∷ 34 ∷ [] else if slash then 92 ∷ 92 ∷ [] else if newline then 92 ∷ 110 ∷ [] else if tab then 92 ∷ 116 ∷ [] else if return then 92 ∷ 114 ∷ [] else byte ∷ []

read_back : (byte : ℕ) (rest word : List ℕ) → unquoted rest ≡ Some word → (quote slash newline tab return : Bool)
    → (byte == 34) ≡ quote → (byte == 92) ≡ slash → (byte == 10) ≡ newline → (byte == 9) ≡ tab → (byte == 13) ≡ return
    → unquoted (by_tests byte quote slash newline tab return ++ rest) ≡ Some (byte ∷ word)
unfolding by_tests
read_back byte rest word is true slash newline tab return e34 e92 e10 e9 e13 = ap (put (Some 34)) is ∙ ap (λ b. Some (b ∷ word)) (sym (eqb-true byte 34 e34))
read_back byte rest word is false true newline tab return e34 e92 e10 e9 e13 = ap (put (Some 92)) is ∙ ap (λ b. Some (b ∷ word)) (sym (eqb-true byte 92 e92))
read_back byte rest word is false false true tab return e34 e92 e10 e9 e13 = ap (put (Some 10)) is ∙ ap (λ b. Some (b ∷ word)) (sym (eqb-true byte 10 e10))
read_back byte rest word is false false false true return e34 e92 e10 e9 e13 = ap (put (Some 9)) is ∙ ap (λ b. Some (b ∷ word)) (sym (eqb-true byte 9 e9))
read_back byte rest word is false false false false true e34 e92 e10 e9 e13 = ap (put (Some 13)) is ∙ ap (λ b. Some (b ∷ word)) (sym (eqb-true byte 13 e13))
read_back byte rest word is false false false false false e34 e92 e10 e9 e13 = alone byte rest word e34 e92 is

in_quotes-is : (byte : ℕ) → in_quotes byte ≡ by_tests byte (byte == 34) (byte == 92) (byte == 10) (byte == 9) (byte == 13)
unfolding by_tests
in_quotes-is byte = refl

unquoted-more : (byte : ℕ) (rest word : List ℕ) → unquoted rest ≡ Some word → unquoted (in_quotes byte ++ rest) ≡ Some (byte ∷ word)
unquoted-more byte rest word is = ap (λ front. unquoted (front ++ rest)) (in_quotes-is byte) ∙ read_back byte rest word is (byte == 34) (byte == 92) (byte == 10) (byte == 9) (byte == 13) refl refl refl refl refl

unquoted-quoted : (word : List ℕ) → unquoted (flat_map in_quotes word) ≡ Some word
unquoted-quoted [] = refl
unquoted-quoted (byte ∷ word) = unquoted-more byte (flat_map in_quotes word) word (unquoted-quoted word)

spells-quoted : (word : List ℕ) → SpellsWord (quoted word) word
spells-quoted word = inr (flat_map in_quotes word, refl, unquoted-quoted word)

-- ---- bare
plain_by : (separator_ tab newline return quote slash : Bool) → not (separator_ || (tab || (newline || (return || (quote || slash))))) ≡ true → not ((separator_ || tab) || quote) ≡ true
plain_by true tab newline return quote slash is = cc
plain_by false true newline return quote slash is = cc
plain_by false false true return quote slash is = cc
plain_by false false false true quote slash is = cc
plain_by false false false false true slash is = cc
plain_by false false false false false slash is = refl

all_plain : (word : List ℕ) → list_all (λ b. not (needs_quotes b)) word ≡ true → list_all is_plain word ≡ true
all_plain [] is = refl
all_plain (byte ∷ bytes) is =
    let parts = and_parts (not (needs_quotes byte)) (list_all (λ b. not (needs_quotes b)) bytes) is in
    let first : is_plain byte ≡ true = plain_by (byte == 32) (byte == 9) (byte == 10) (byte == 13) (byte == 34) (byte == 92) parts.0 in
    ap (λ b. b && list_all is_plain bytes) first ∙ all_plain bytes parts.1

spells-bare : (word : List ℕ) → is_bare word ≡ true → SpellsWord word word
spells-bare [] is = cc
spells-bare (byte ∷ bytes) is =
    let parts = and_parts (not (byte == 35)) (list_all (λ b. not (needs_quotes b)) (byte ∷ bytes)) is in
    inl (omega arith, all_plain (byte ∷ bytes) parts.1, refl)

spells_by : (word : List ℕ) (bare : Bool) → is_bare word ≡ bare → SpellsWord (if bare then word else quoted word) word
spells_by word true is = spells-bare word is
spells_by word false is = spells-quoted word

pub spells-printed : (word : List ℕ) → SpellsWord (printed_word word) word
unfolding printed_word
spells-printed word = spells_by word (is_bare word) refl

-- ---- lines and objects
ends_spaced : (words : List (List ℕ)) → ends_word (spaced (map printed_word words)) ≡ true
ends_spaced [] = refl
ends_spaced (word ∷ words) = refl

pub spells-line : (words : List (List ℕ)) → SpellsLine (spaced (map printed_word words)) words
spells-line [] = refl
spells-line (word ∷ words) = (
  spaced (map printed_word words),
  record { before = 32 ∷ []; text = printed_word word; blank = refl; spells = spells-printed word; ends = ends_spaced words; line_is = refl },
  spells-line words,
)

pub spells-object : (kind : Kind) (name : List ℕ) → IsName kind name → (word : List ℕ) × SpellsWord (object_word kind name) word × WritesObject word kind name
spells-object kind name is = (kind_word kind ++ 58 ∷ name, spells-printed (kind_word kind ++ 58 ∷ name), record { name_is = is; word_is = refl })
