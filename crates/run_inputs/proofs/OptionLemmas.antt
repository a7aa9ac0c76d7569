-- The words without the option that names a certificate.
use Rattle.std.proofs.Common.{◌≡◌, ◌∙◌, ◌<◌, ◌≤◌, ◌+◌, ◌++◌, ◌∷◌, [], ℕ, List, length, drop, get_or, ap, sym, refl, append_assoc, append-nil, arith, drop-cons, add-one, true, false, codes}
use Rattle.std.specs.Prelude.{Option, Some, None}
use Rattle.std.specs.Str.{bytes_eq}
use Rattle.std.proofs.lemmas.Grind.{common_steps}
use Rattle.run_inputs.specs.Words.{Plain, behind, cert_here, plain, taken, taken_or}

-- ---- copies of words behind others
pub copied_next : (front words : List (List ℕ)) (k : ℕ) (word : List ℕ) → k < length words → word ≡ get_or words k word → front ++ drop k words ≡ (front ++ word ∷ []) ++ drop (k + 1) words
copied_next front words k word within is =
    ap (λ l. front ++ l) (drop-cons words k word within ∙ ap (λ j. get_or words k word ∷ drop j words) (sym (add-one k)) ∙ ap (λ y. y ∷ drop (k + 1) words) (sym is))
    ∙ sym (append_assoc front (word ∷ []) (drop (k + 1) words))

copied_all : (words : List (List ℕ)) (k : ℕ) → length words ≤ k → drop k words ≡ []
copied_all words k end = grind (arith, common_steps)

pub copied_end : (front words : List (List ℕ)) (k : ℕ) → length words ≤ k → front ++ drop k words ≡ front
copied_end front words k end = ap (λ l. front ++ l) (copied_all words k end) ∙ append-nil front

-- ---- the words that were passed over, and what the rest gives
pub record Passed (old words : List (List ℕ)) (front rest : List (List ℕ)) : Type 0 where
  pub words_are : front ++ (taken rest).words ≡ old ++ (taken words).words
  pub cert_is : (taken rest).cert ≡ (taken words).cert

pub passed_none : (old words : List (List ℕ)) → Passed old words old words
passed_none old words = record { words_are = refl; cert_is = refl }

-- one more word that is neither `--` nor the option
step : (word : List ℕ) (words : List (List ℕ)) → bytes_eq word (codes "--") ≡ false → cert_here word words ≡ None → taken (word ∷ words) ≡ behind word (taken words)
step word words dashes here = rw (dashes, here) refl

pub passed_word : (old words front rest : List (List ℕ)) (word : List ℕ) (more : List (List ℕ)) → rest ≡ word ∷ more → bytes_eq word (codes "--") ≡ false → cert_here word more ≡ None → Passed old words front rest → Passed old words (front ++ word ∷ []) more
passed_word old words front rest word more is dashes here so =
    let at : taken rest ≡ behind word (taken more) = ap taken is ∙ step word more dashes here in
    record {
      words_are = append_assoc front (word ∷ []) (taken more).words ∙ (ap (λ (p : Plain). front ++ p.words) (sym at) ∙ so.words_are);
      cert_is = ap (λ (p : Plain). p.cert) (sym at) ∙ so.cert_is;
    }

-- the option
found : (word : List ℕ) (words : List (List ℕ)) (file : List ℕ) (more : List (List ℕ)) → bytes_eq word (codes "--") ≡ false → cert_here word words ≡ Some (file, more) → taken (word ∷ words) ≡ plain more (Some file)
found word words file more dashes here = rw (dashes, here) refl

pub passed_option : (old words front rest : List (List ℕ)) (word : List ℕ) (more : List (List ℕ)) (file : List ℕ) (last : List (List ℕ)) → rest ≡ word ∷ more → bytes_eq word (codes "--") ≡ false → cert_here word more ≡ Some (file, last)
    → Passed old words front rest → (front ++ last ≡ old ++ (taken words).words) × (Some file ≡ (taken words).cert)
passed_option old words front rest word more file last is dashes here so =
    let at : taken rest ≡ plain last (Some file) = ap taken is ∙ found word more file last dashes here in
    (ap (λ (p : Plain). front ++ p.words) (sym at) ∙ so.words_are, ap (λ (p : Plain). p.cert) (sym at) ∙ so.cert_is)

-- the first `--`
dashed : (word : List ℕ) (words : List (List ℕ)) → bytes_eq word (codes "--") ≡ true → taken (word ∷ words) ≡ plain (word ∷ words) None
dashed word words dashes = rw dashes refl

pub passed_dashes : (old words front rest : List (List ℕ)) (word : List ℕ) (more : List (List ℕ)) → rest ≡ word ∷ more → bytes_eq word (codes "--") ≡ true → Passed old words front rest → (front ++ rest ≡ old ++ (taken words).words) × (None ≡ (taken words).cert)
passed_dashes old words front rest word more is dashes so =
    let at : taken rest ≡ plain rest None = ap taken is ∙ (dashed word more dashes ∙ ap (λ (l : List (List ℕ)). plain l None) (sym is)) in
    (ap (λ (p : Plain). front ++ p.words) (sym at) ∙ so.words_are, ap (λ (p : Plain). p.cert) (sym at) ∙ so.cert_is)

-- the end of the words
pub passed_all : (old words front rest : List (List ℕ)) → rest ≡ [] → Passed old words front rest → (front ++ rest ≡ old ++ (taken words).words) × (None ≡ (taken words).cert)
passed_all old words front rest is so =
    let at : taken rest ≡ plain rest None = ap taken is ∙ ap (λ (l : List (List ℕ)). plain l None) (sym is) in
    (ap (λ (p : Plain). front ++ p.words) (sym at) ∙ so.words_are, ap (λ (p : Plain). p.cert) (sym at) ∙ so.cert_is)
