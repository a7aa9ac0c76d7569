-- A line end behind a printed value changes nothing that is read.
use Rattle.std.proofs.Common.{◌≡◌, ◌∙◌, ℕ, Bool, true, false, cond, ◌&&◌, List, [], ◌∷◌, ◌++◌, refl, sym, ap, ap₂, append_assoc, append-nil}
use Rattle.json.specs.Token.{Token, begin_object, end_object, begin_array, end_array, key, string, number, boolean, null, bad}
use Rattle.json.specs.Word.{ends_word, word}
use Rattle.json.specs.Lex.{between, colon, comma, fresh, in_word, lex, punctuate, string_token, token, tokens}
use Rattle.json.specs.Print.{ArePrintable, IsPrintable, begins, ends, escape, print, print_from, quoted, separator, token_text}
use Rattle.json.specs.Tree as tree
use Rattle.json.proofs.Printed.Numbers.{in_word-ended, lex-number}
use Rattle.json.proofs.Printed.Strings.{content-escape, lex-escape}
use Rattle.json.proofs.Printed.Trees.{ArePrintable-json_tokens}
use Rattle.serde_json.specs.Data.{Data}
use Rattle.serde_json.specs.Written.{compact_text, outline}
use Rattle.serde_json.proofs.Texts.{print-outline}

-- ---- the same token before texts that give the same lexemes
string_lexemes : (s r : List ℕ) → lex between (quoted s ++ r) ≡ token (string s) ∷ lex between r
unfolding lex
string_lexemes s r =
    ap (λ l. lex between (34 ∷ l)) (append_assoc (escape s) (34 ∷ []) r) ∙ ap₂ (λ o l. token (string_token o) ∷ l) (content-escape s r) (lex-escape s r)

string_before : (s r q : List ℕ) → lex between r ≡ lex between q → lex between (quoted s ++ r) ≡ lex between (quoted s ++ q)
string_before s r q same = string_lexemes s r ∙ (ap (λ l. token (string s) ∷ l) same ∙ sym (string_lexemes s q))

word_before : (shown : Token) (r q : List ℕ) → ends_word r ≡ true → ends_word q ≡ true → lex between r ≡ lex between q
    → token (cond (ends_word r) shown bad) ∷ lex in_word r ≡ token (cond (ends_word q) shown bad) ∷ lex in_word q
word_before shown r q ends_r ends_q same = ap₂ (λ b l. token (cond b shown bad) ∷ l) (ends_r ∙ sym ends_q) (in_word-ended r ends_r ∙ (same ∙ sym (in_word-ended q ends_q)))

token_before : (t : Token) (r q : List ℕ) → IsPrintable t → (ends t ≡ true → ends_word r ≡ true) → (ends t ≡ true → ends_word q ≡ true) → lex between r ≡ lex between q
    → lex between (token_text t ++ r) ≡ lex between (token_text t ++ q)
unfolding lex word
token_before begin_object r q h ends_r ends_q same = ap (λ l. token begin_object ∷ l) same
token_before end_object r q h ends_r ends_q same = ap (λ l. token end_object ∷ l) same
token_before begin_array r q h ends_r ends_q same = ap (λ l. token begin_array ∷ l) same
token_before end_array r q h ends_r ends_q same = ap (λ l. token end_array ∷ l) same
token_before (key s) r q h ends_r ends_q same =
    ap (lex between) (append_assoc (quoted s) (58 ∷ []) r)
    ∙ (string_before s (58 ∷ r) (58 ∷ q) (ap (λ l. colon ∷ l) same)
    ∙ sym (ap (lex between) (append_assoc (quoted s) (58 ∷ []) q)))
token_before (string s) r q h ends_r ends_q same = string_before s r q same
token_before (number s) r q h ends_r ends_q same = lex-number s r h (ends_r refl) ∙ (ap (λ l. token (number s) ∷ l) same ∙ sym (lex-number s q h (ends_q refl)))
token_before (boolean true) r q h ends_r ends_q same = word_before (boolean true) r q (ends_r refl) (ends_q refl) same
token_before (boolean false) r q h ends_r ends_q same = word_before (boolean false) r q (ends_r refl) (ends_q refl) same
token_before null r q h ends_r ends_q same = word_before null r q (ends_r refl) (ends_q refl) same
token_before bad r q h ends_r ends_q same = absurd h

comma_before : (b : Bool) (r q : List ℕ) → lex between r ≡ lex between q → lex between (cond b (44 ∷ []) [] ++ r) ≡ lex between (cond b (44 ∷ []) [] ++ q)
unfolding lex
comma_before true r q same = ap (λ l. comma ∷ l) same
comma_before false r q same = same

-- ---- a line end behind printed tokens
-- a value is followed by a comma, a bracket, or what ends a word
value_ends : (ts : List Token) (more : List ℕ) → ends_word more ≡ true → ends_word (print_from true ts ++ more) ≡ true
unfolding print_from
value_ends [] more h = h
value_ends (begin_object ∷ ts) more h = refl
value_ends (end_object ∷ ts) more h = refl
value_ends (begin_array ∷ ts) more h = refl
value_ends (end_array ∷ ts) more h = refl
value_ends (key s ∷ ts) more h = refl
value_ends (string s ∷ ts) more h = refl
value_ends (number s ∷ ts) more h = refl
value_ends (boolean b ∷ ts) more h = refl
value_ends (null ∷ ts) more h = refl
value_ends (bad ∷ ts) more h = refl

same_lexemes : (after : Bool) (ts : List Token) → ArePrintable ts → lex between (print_from after ts ++ 10 ∷ []) ≡ lex between (print_from after ts)
unfolding lex print_from ArePrintable
same_lexemes after [] h = refl
same_lexemes after (t ∷ ts) h =
    let rest : List ℕ = print_from (ends t) ts in
    let ends_with : ends t ≡ true → ends_word (rest ++ 10 ∷ []) ≡ true = λ e. ap (λ (b : Bool). ends_word (print_from b ts ++ 10 ∷ [])) e ∙ value_ends ts (10 ∷ []) refl in
    let ends_without : ends t ≡ true → ends_word rest ≡ true =
    λ e. ap (λ (b : Bool). ends_word (print_from b ts)) e ∙ (ap ends_word (sym (append-nil (print_from true ts))) ∙ value_ends ts [] refl) in
    ap (lex between) (append_assoc (separator after t) (token_text t ++ rest) (10 ∷ []) ∙ ap (λ l. separator after t ++ l) (append_assoc (token_text t) rest (10 ∷ [])))
    ∙ comma_before (after && begins t) (token_text t ++ (rest ++ 10 ∷ [])) (token_text t ++ rest) (token_before t (rest ++ 10 ∷ []) rest h.0 ends_with ends_without (same_lexemes (ends t) ts h.1))

pub same_tokens : (d : Data) → tree.HasNumbers (outline d) → tokens (compact_text d ++ 10 ∷ []) ≡ tokens (compact_text d)
same_tokens d numbers =
    let ts : List Token = tree.json_tokens (outline d) in
    let same : tokens (print ts ++ 10 ∷ []) ≡ tokens (print ts) = ap (punctuate fresh) (same_lexemes false ts (ArePrintable-json_tokens (outline d) numbers)) in
    ap (λ l. tokens (l ++ 10 ∷ [])) (sym (print-outline d)) ∙ (same ∙ ap tokens (print-outline d))
