-- The bytes of a letter between quotes: a letter past ASCII stands for itself. The name of an object, with quotes and without.
use Rattle.std.proofs.Common.{◌≡◌, ◌<◌, ◌≤◌, ℕ, suc, Bool, true, false, not, if◌then◌else◌, List, [], ◌∷◌, ◌++◌, length, get_or, refl, sym, ap, ap₂, ◌∙◌, arith, append_assoc, append-nil, inl, inr}
use Rattle.std.specs.List.{flat_map, list_all}
use Rattle.std.proofs.lemmas.Bool.{cases_lt}
use Rattle.std.proofs.lemmas.Grind.{common_steps, flat_map-append}
use Rattle.std.proofs.lemmas.Str.{encode_ascii, inside_one}
use Rattle.std.proofs.lemmas.List.Concat.{flat_map-cons}
use lib.Utf8.{encode}
use Rattle.plan_base.specs.declared.shape.Kind.{Kind}
use Rattle.plan_base.specs.declared.shape.Kind.TheVariants.{Special, Item, Fluid, Recipe, Source, Machine, Tech}
use Rattle.script_reader.specs.Fields.{kind_word}
use Rattle.plan_report.specs.Words.{in_quotes, is_bare, needs_quotes, object_word, printed_word, quoted}

high_byte : (byte : ℕ) → 128 ≤ byte → in_quotes byte ≡ byte ∷ []
high_byte byte high = grind (arith, common_steps, high)

high_bytes : (bytes : List ℕ) → ((k : ℕ) → k < length bytes → 128 ≤ get_or bytes k 0) → flat_map in_quotes bytes ≡ bytes
high_bytes [] high = refl
high_bytes (byte ∷ bytes) high =
    flat_map-cons in_quotes byte bytes
    ∙ ap₂ (λ (a b : List ℕ). a ++ b) (high_byte byte (high 0 (omega arith))) (high_bytes bytes (λ k within. high (suc k) (omega arith)))

-- a letter that stands for itself, of one byte or more
pub alone_in_quotes : (letter : ℕ) → (letter < 128 → in_quotes letter ≡ letter ∷ []) → flat_map in_quotes (encode letter) ≡ encode letter
alone_in_quotes letter alone = elim (cases_lt letter 128) [
  | inl low ↦ rw (encode_ascii letter low) (flat_map-cons in_quotes letter [] ∙ rw append-nil (alone low))
  | inr past ↦ high_bytes (encode letter) (λ k within. elim (cases_lt (get_or (encode letter) k 0) 128) [
    | inl low ↦ absurd (omega (arith, inside_one letter [] (encode letter) k (sym (append-nil _)) within low))
    | inr high ↦ high
  ])
]

-- one more letter between quotes
pub letter_more : (text letter rest more : List ℕ) → more ≡ letter ++ rest → text ++ flat_map in_quotes more ≡ (text ++ flat_map in_quotes letter) ++ flat_map in_quotes rest
letter_more text letter rest more is =
    ap (λ m. text ++ flat_map in_quotes m) is ∙ ap (λ m. text ++ m) (flat_map-append in_quotes letter rest) ∙ sym (append_assoc text (flat_map in_quotes letter) (flat_map in_quotes rest))

-- ---- the name of an object
-- no kind needs quotes
bare_front : (kind : Kind) (name : List ℕ) → is_bare (kind_word kind ++ 58 ∷ name) ≡ list_all (λ byte. not (needs_quotes byte)) name
bare_front Special name = refl
bare_front Item name = refl
bare_front Fluid name = refl
bare_front Recipe name = refl
bare_front Source name = refl
bare_front Machine name = refl
bare_front Tech name = refl

printed_by : (word : List ℕ) (bare : Bool) → is_bare word ≡ bare → printed_word word ≡ (if bare then word else quoted word)
unfolding printed_word
printed_by word bare is = ap (λ b. if b then word else quoted word) is

pub bare_object : (kind : Kind) (name : List ℕ) → list_all (λ byte. not (needs_quotes byte)) name ≡ true → object_word kind name ≡ kind_word kind ++ 58 ∷ name
bare_object kind name bare = printed_by (kind_word kind ++ 58 ∷ name) true (bare_front kind name ∙ bare)

pub quoted_object : (kind : Kind) (name : List ℕ) → list_all (λ byte. not (needs_quotes byte)) name ≡ false → object_word kind name ≡ quoted (kind_word kind ++ 58 ∷ name)
quoted_object kind name not_bare = printed_by (kind_word kind ++ 58 ∷ name) false (bare_front kind name ∙ not_bare)
