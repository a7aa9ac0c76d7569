-- The references of the bytes of a letter, and that no harm is left.
use Rattle.std.proofs.Common.{◌≡◌, ◌<◌, ◌≤◌, ℕ, suc, List, [], ◌∷◌, ◌++◌, length, get_or, refl, sym, ap, ap₂, ◌∙◌, arith, append_assoc, append-nil, inl, inr, true}
use Rattle.std.specs.List.{flat_map, list_all}
use Rattle.std.proofs.lemmas.Bool.{cases_lt}
use Rattle.std.proofs.lemmas.Grind.{common_steps, flat_map-append}
use Rattle.std.proofs.lemmas.List.Folds.{list_all-append}
use Rattle.std.proofs.lemmas.Str.{encode_ascii, inside_one}
use Rattle.std.proofs.lemmas.List.Concat.{flat_map-cons}
use lib.Utf8.{encode}
use Rattle.page_parts.specs.Escape.{escaped, is_harmless, reference}

high_byte : (byte : ℕ) → 128 ≤ byte → reference byte ≡ byte ∷ []
high_byte byte high = grind (arith, common_steps, high)

high_bytes : (bytes : List ℕ) → ((k : ℕ) → k < length bytes → 128 ≤ get_or bytes k 0) → flat_map reference bytes ≡ bytes
high_bytes [] high = refl
high_bytes (byte ∷ bytes) high =
    flat_map-cons reference byte bytes
    ∙ ap₂ (λ (a b : List ℕ). a ++ b) (high_byte byte (high 0 (omega arith))) (high_bytes bytes (λ k within. high (suc k) (omega arith)))

-- a letter that stands for itself, of one byte or more
pub stands_alone : (letter : ℕ) → (letter < 128 → reference letter ≡ letter ∷ []) → flat_map reference (encode letter) ≡ encode letter
stands_alone letter alone = elim (cases_lt letter 128) [
  | inl low ↦ rw (encode_ascii letter low) (flat_map-cons reference letter [] ∙ rw append-nil (alone low))
  | inr past ↦ high_bytes (encode letter) (λ k within. elim (cases_lt (get_or (encode letter) k 0) 128) [
    | inl low ↦ absurd (omega (arith, inside_one letter [] (encode letter) k (sym (append-nil _)) within low))
    | inr high ↦ high
  ])
]

-- one more letter
pub letter_more : (text letter rest more : List ℕ) → more ≡ letter ++ rest → text ++ flat_map reference more ≡ (text ++ flat_map reference letter) ++ flat_map reference rest
letter_more text letter rest more is =
    ap (λ m. text ++ flat_map reference m) is ∙ ap (λ m. text ++ m) (flat_map-append reference letter rest) ∙ sym (append_assoc text (flat_map reference letter) (flat_map reference rest))

harmless_byte : (byte : ℕ) → list_all is_harmless (reference byte) ≡ true
harmless_byte byte = grind (arith, common_steps)

harmless : (text : List ℕ) → list_all is_harmless (escaped text) ≡ true
harmless [] = refl
harmless (byte ∷ bytes) =
    ap (list_all is_harmless) (flat_map-cons reference byte bytes)
    ∙ list_all-append is_harmless (reference byte) (escaped bytes)
    ∙ rw (harmless_byte byte) (harmless bytes)

pub harmless_text : (text plain : List ℕ) → text ≡ escaped plain → list_all is_harmless text ≡ true
harmless_text text plain is = ap (list_all is_harmless) is ∙ harmless plain
