-- The words of a run without the first `--`, as the run reads them and as the hints do.
use Rattle.std.proofs.Common.{◌≡◌, ◌∙◌, ◌+◌, ◌∷◌, [], ℕ, suc, Bool, true, false, List, ap, sym, refl, codes, option_map, arith}
use Rattle.std.specs.Prelude.{Option, Some, None, drop, if◌then◌else◌}
use Rattle.std.specs.Str.{bytes_eq}
use Rattle.run_inputs.specs.Words.{ThreeWords, is_option, plain_words, three_in, three_of}
use Rattle.std.specs.List.{position_or_len, slice_get}
use Rattle.std.proofs.lemmas.Option.{same_Some, none-some}
use Rattle.program_runs.specs.Names.{dump_name, is_dashes, script_name, without_dashes}

one_more : (n : ℕ) → 1 + n ≡ suc n
one_more n = omega arith

add_one : (n : ℕ) → suc n + 1 ≡ suc (n + 1)
add_one n = omega arith

-- where the first word isn't left out
kept : (word : List ℕ) (words : List (List ℕ)) → bytes_eq word (codes "--") ≡ false → without_dashes (word ∷ words) ≡ word ∷ without_dashes words
kept word words is = rw (is, one_more (position_or_len is_dashes words), add_one (position_or_len is_dashes words)) refl

behind_word : (option : Bool) (word : List ℕ) (later : Option (List (List ℕ))) (words rest : List (List ℕ)) → ((l : List (List ℕ)) → later ≡ Some l → words ≡ l)
    → (if option then None else option_map (λ l. word ∷ l) later) ≡ Some rest → word ∷ words ≡ rest
behind_word true word later words rest same read = absurd (none-some rest read)
behind_word false word None words rest same read = absurd (none-some rest read)
behind_word false word (Some l) words rest same read = ap (λ (ws : List (List ℕ)). word ∷ ws) (same l refl) ∙ same_Some (word ∷ l) rest read

-- a word, and what is behind it
on_word : (word : List ℕ) (words rest : List (List ℕ)) → ((later : List (List ℕ)) → plain_words words ≡ Some later → without_dashes words ≡ later)
    → plain_words (word ∷ words) ≡ Some rest → without_dashes (word ∷ words) ≡ rest
on_word word words rest same read = by_test (bytes_eq word (codes "--")) refl read
  where
    by_test : (test : Bool) → bytes_eq word (codes "--") ≡ test
        → (if test then Some words else if is_option word then None else option_map (λ l. word ∷ l) (plain_words words)) ≡ Some rest
        → without_dashes (word ∷ words) ≡ rest
    by_test true is read = cc
    by_test false is read = kept word words is ∙ behind_word (is_option word) word (plain_words words) (without_dashes words) rest same read

pub without_is_plain : (words rest : List (List ℕ)) → plain_words words ≡ Some rest → without_dashes words ≡ rest
without_is_plain [] rest read = same_Some [] rest read
without_is_plain (word ∷ words) rest read = on_word word words rest (without_is_plain words) read

-- three words, of the second and the third of which the files are named
named_by : (plain : Option (List (List ℕ))) (words : List (List ℕ)) (three : ThreeWords) → ((rest : List (List ℕ)) → plain ≡ Some rest → words ≡ rest)
    → three_in plain ≡ Some three → (slice_get words 1 ≡ Some three.first) × (slice_get words 2 ≡ Some three.second)
named_by None words three same read = absurd (none-some three read)
named_by (Some []) words three same read = absurd (none-some three read)
named_by (Some (a ∷ [])) words three same read = absurd (none-some three read)
named_by (Some (a ∷ b ∷ [])) words three same read = absurd (none-some three read)
named_by (Some (a ∷ b ∷ c ∷ [])) words three same read =
    let is = sym (same_Some _ _ read) in
    rw (same (a ∷ b ∷ c ∷ []) refl, is) (refl, refl)
named_by (Some (a ∷ b ∷ c ∷ d ∷ rest)) words three same read = absurd (none-some three read)

pub names_are : (words : List (List ℕ)) (three : ThreeWords) → three_of words ≡ Some three
    → (dump_name words ≡ Some three.first) × (script_name words ≡ Some three.second)
names_are words three read = named_by (plain_words (drop 1 words)) (without_dashes (drop 1 words)) three (without_is_plain (drop 1 words)) read
