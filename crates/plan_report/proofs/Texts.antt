-- Texts that are written piece by piece.
use Rattle.std.proofs.Common.{◌≡◌, ◌∙◌, ◌<◌, ◌≤◌, ◌+◌, ◌++◌, ℕ, List, [], ◌∷◌, length, map, drop, get_or, refl, ap, sym, append_assoc, append-nil}
use Rattle.std.specs.List.{flat_map}
use Rattle.plan_base.proofs.Walks.{next, drop_all}
use Rattle.plan_report.specs.Layout.{line_then, spaced}

-- what is written for each of a list, so far, with what is to come
pub record TextSoFar {A B : Type 0} (write : B → List ℕ) (read : A → B) (xs : List A) (k : ℕ) (text : List ℕ) : Type 0 where
  pub joined : text ++ flat_map write (map read (drop k xs)) ≡ flat_map write (map read xs)

pub text_first : {A B : Type 0} (write : B → List ℕ) (read : A → B) (xs : List A) (text : List ℕ) → text ≡ [] → TextSoFar write read xs 0 text
text_first write read xs text empty = record { joined = ap (λ t. t ++ flat_map write (map read xs)) empty }

pub text_more : {A B : Type 0} (write : B → List ℕ) (read : A → B) (xs : List A) (k : ℕ) (x : A) (text new : List ℕ) → k < length xs → x ≡ get_or xs k x
    → new ≡ text ++ write (read x) → TextSoFar write read xs k text → TextSoFar write read xs (k + 1) new
text_more write read xs k x text new within is put before = record {
  joined =
      ap (λ n. n ++ flat_map write (map read (drop (k + 1) xs))) put
      ∙ append_assoc text (write (read x)) (flat_map write (map read (drop (k + 1) xs)))
      ∙ ap (λ rest. text ++ flat_map write (map read rest)) (sym (next xs k x within is))
      ∙ before.joined;
}

pub text_end : {A B : Type 0} (write : B → List ℕ) (read : A → B) (xs : List A) (k : ℕ) (text : List ℕ) → length xs ≤ k → TextSoFar write read xs k text → text ≡ flat_map write (map read xs)
text_end write read xs k text end before = sym (append-nil text) ∙ ap (λ rest. text ++ flat_map write (map read rest)) (sym (drop_all xs k end)) ∙ before.joined

-- what is written for each of a list behind a text, so far, with what is to come
pub record TextBehind {A B : Type 0} (write : B → List ℕ) (read : A → B) (xs : List A) (k : ℕ) (old text : List ℕ) : Type 0 where
  pub joined : text ++ flat_map write (map read (drop k xs)) ≡ old ++ flat_map write (map read xs)

pub behind_first : {A B : Type 0} (write : B → List ℕ) (read : A → B) (xs : List A) (old : List ℕ) → TextBehind write read xs 0 old old
behind_first write read xs old = record { joined = refl }

pub behind_more : {A B : Type 0} (write : B → List ℕ) (read : A → B) (xs : List A) (k : ℕ) (x : A) (old text new : List ℕ) → k < length xs → x ≡ get_or xs k x
    → new ≡ text ++ write (read x) → TextBehind write read xs k old text → TextBehind write read xs (k + 1) old new
behind_more write read xs k x old text new within is put before = record {
  joined =
      ap (λ n. n ++ flat_map write (map read (drop (k + 1) xs))) put
      ∙ append_assoc text (write (read x)) (flat_map write (map read (drop (k + 1) xs)))
      ∙ ap (λ rest. text ++ flat_map write (map read rest)) (sym (next xs k x within is))
      ∙ before.joined;
}

pub behind_end : {A B : Type 0} (write : B → List ℕ) (read : A → B) (xs : List A) (k : ℕ) (old text : List ℕ) → length xs ≤ k → TextBehind write read xs k old text
    → text ≡ old ++ flat_map write (map read xs)
behind_end write read xs k old text end before = sym (append-nil text) ∙ ap (λ rest. text ++ flat_map write (map read rest)) (sym (drop_all xs k end)) ∙ before.joined

-- ---- lines with words of any number
pub line_words : (words : List (List ℕ)) (rest : List ℕ) → line_then words rest ≡ spaced words ++ 10 ∷ rest
line_words [] rest = refl
line_words (word ∷ words) rest = ap (λ t. 32 ∷ (word ++ t)) (line_words words rest) ∙ ap (λ t. 32 ∷ t) (sym (append_assoc word (spaced words) (10 ∷ rest)))

-- words and the end of their line behind a text
pub words_behind : (old new : List ℕ) (words : List (List ℕ)) → new ≡ (old ++ spaced words) ++ 10 ∷ [] → new ≡ old ++ line_then words []
words_behind old new words written = written ∙ append_assoc old (spaced words) (10 ∷ []) ∙ ap (λ t. old ++ t) (sym (line_words words []))
