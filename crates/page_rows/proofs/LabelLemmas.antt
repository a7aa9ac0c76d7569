-- What stands for the bytes of a letter in a label.
use Rattle.std.proofs.Common.{◌≡◌, ◌<◌, ◌≤◌, ℕ, suc, List, [], ◌∷◌, ◌++◌, length, get_or, refl, sym, ap, ap₂, ◌∙◌, arith, append_assoc, append-nil, inl, inr}
use Rattle.std.specs.List.{flat_map}
use Rattle.std.proofs.lemmas.Bool.{cases_lt}
use Rattle.std.proofs.lemmas.Grind.{common_steps, flat_map-append}
use Rattle.std.proofs.lemmas.Str.{encode_ascii, inside_one}
use Rattle.std.proofs.lemmas.List.Concat.{flat_map-cons}
use lib.Utf8.{encode}
use Rattle.page_rows.specs.Labels.{labelled}

high_byte : (byte : ℕ) → 128 ≤ byte → labelled byte ≡ byte ∷ []
high_byte byte high = grind (arith, common_steps, high)

high_bytes : (bytes : List ℕ) → ((k : ℕ) → k < length bytes → 128 ≤ get_or bytes k 0) → flat_map labelled bytes ≡ bytes
high_bytes [] high = refl
high_bytes (byte ∷ bytes) high =
    flat_map-cons labelled byte bytes
    ∙ ap₂ (λ (a b : List ℕ). a ++ b) (high_byte byte (high 0 (omega arith))) (high_bytes bytes (λ k within. high (suc k) (omega arith)))

-- a letter that stands for itself, of one byte or more
pub stands_alone : (letter : ℕ) → (letter < 128 → labelled letter ≡ letter ∷ []) → flat_map labelled (encode letter) ≡ encode letter
stands_alone letter alone = elim (cases_lt letter 128) [
  | inl low ↦ rw (encode_ascii letter low) (flat_map-cons labelled letter [] ∙ rw append-nil (alone low))
  | inr past ↦ high_bytes (encode letter) (λ k within. elim (cases_lt (get_or (encode letter) k 0) 128) [
    | inl low ↦ absurd (omega (arith, inside_one letter [] (encode letter) k (sym (append-nil _)) within low))
    | inr high ↦ high
  ])
]

control_byte : (letter : ℕ) → letter < 32 → labelled letter ≡ 239 ∷ 191 ∷ 189 ∷ []
control_byte letter low = grind (arith, common_steps, low)

-- a letter below the space
pub control : (letter : ℕ) → letter < 32 → flat_map labelled (encode letter) ≡ 239 ∷ 191 ∷ 189 ∷ []
control letter low = rw (encode_ascii letter (omega arith)) (flat_map-cons labelled letter [] ∙ rw append-nil (control_byte letter low))

-- one more letter
pub letter_more : (text letter rest more : List ℕ) → more ≡ letter ++ rest → text ++ flat_map labelled more ≡ (text ++ flat_map labelled letter) ++ flat_map labelled rest
letter_more text letter rest more is =
    ap (λ m. text ++ flat_map labelled m) is ∙ ap (λ m. text ++ m) (flat_map-append labelled letter rest) ∙ sym (append_assoc text (flat_map labelled letter) (flat_map labelled rest))
