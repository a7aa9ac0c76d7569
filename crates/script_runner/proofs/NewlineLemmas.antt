-- A newline behind a JSON text says nothing.
use Rattle.std.proofs.Common.{◌≡◌, ◌≤◌, ◌-◌, ◌+◌, ◌*◌, ◌==◌, ℕ, List, [], ◌∷◌, ◌++◌, length, take, drop, Bool, true, false, cond, refl, ap, ap₂, ◌∙◌, arith, length-append}
use Rattle.std.specs.Prelude.{Option, Some, None, option_map, option_and_then, nat_lt, nat_eq, ◌&&◌, ◌||◌}
use Rattle.std.specs.List.{prefix_len, starts_with}
use Rattle.std.specs.Char.{digit_value, encode_utf8, is_ascii_digit, is_digit}
use Rattle.std.proofs.lemmas.List.{take-append-le, drop-append-le}
use Rattle.std.proofs.lemmas.List.Sums.{prefix_len-le-length}
use Rattle.json.specs.Token.{Token, boolean, null, bad, number}
use Rattle.json.specs.Ascii as ascii
use Rattle.json.specs.Text.{Within, plain, after_backslash, after_u, after_high, content, code_unit, is_high_surrogate, is_low_surrogate, prepend, short_escape, surrogate_pair}
use Rattle.json.specs.Word.{after_digits, after_exponent, after_fraction, after_minus, after_number, after_sign, after_whole, ends_word, literal, number_before, word}
use Rattle.json.specs.Lex.{Class, Lexeme, Mode, between, class, fresh, in_escape, in_string, in_word, lex, lex_byte, operator, operator_lexeme, other, punctuate, quote, space, backslash, string_token, token}
use Rattle.json.specs.Json as json
use Rattle.serde_json.specs.Read.{max_depth, of_json, read}

abbrev ended : List ℕ → List ℕ
ended t = t ++ 10 ∷ []

cond_same : (b : Bool) (u v : List ℕ) → cond b (ended u) (ended v) ≡ ended (cond b u v)
cond_same true u v = refl
cond_same false u v = refl

-- ---- strings
last_false : (x y z : Bool) (o : Option ℕ) → cond (x && y && z && false) o None ≡ None
last_false true true true o = refl
last_false true true false o = refl
last_false true false z o = refl
last_false false y z o = refl

no_unit : (a b c : ℕ) → code_unit a b c 10 ≡ None
unfolding code_unit
no_unit a b c = last_false (is_digit a 16) (is_digit b 16) (is_digit c 16) (Some (digit_value a * 4096 + digit_value b * 256 + digit_value c * 16 + digit_value 10))

-- what a code unit stands for: more, where it is the first of two
abbrev meant : (ℕ → Option (List ℕ)) → Option (List ℕ) → ℕ → Option (List ℕ)
meant high rest u = cond (is_high_surrogate u) (high u) (cond (is_low_surrogate u) None (prepend (encode_utf8 u) rest))

meant_same : (high more_high : ℕ → Option (List ℕ)) (rest more : Option (List ℕ)) → ((u : ℕ) → high u ≡ more_high u) → rest ≡ more → (o : Option ℕ) → option_and_then (λ u. meant high rest u) o ≡ option_and_then (λ u. meant more_high more u) o
meant_same high more_high rest more each same None = refl
meant_same high more_high rest more each same (Some u) =
    ap₂ (λ (a b : Option (List ℕ)). cond (is_high_surrogate u) a (cond (is_low_surrogate u) None (prepend (encode_utf8 u) b))) (each u) same

never : (b : Bool) (o : Option (List ℕ)) → o ≡ None → cond b o None ≡ None
never true o none = none
never false o none = refl

content_ended : (m : Within) (t : List ℕ) → content m (ended t) ≡ content m t
unfolding content short_escape
content_ended plain [] = refl
content_ended plain (x ∷ xs) =
    ap₂ (λ (a b : Option (List ℕ)). cond (x == ascii.quote) (Some []) (cond (x == ascii.backslash) a (cond (nat_lt x ascii.space) None (prepend (x ∷ []) b)))) (content_ended after_backslash xs) (content_ended plain xs)
content_ended after_backslash [] = refl
content_ended after_backslash (x ∷ xs) =
    ap₂ (λ (a b : Option (List ℕ)). cond (x == ascii.lower_u) a (option_and_then (λ c. prepend (c ∷ []) b) (short_escape x))) (content_ended after_u xs) (content_ended plain xs)
content_ended after_u [] = refl
content_ended after_u (a ∷ []) = refl
content_ended after_u (a ∷ b ∷ []) = refl
content_ended after_u (a ∷ b ∷ c ∷ []) = ap (λ (o : Option ℕ). option_and_then (λ u. meant (λ v. None) None u) o) (no_unit a b c)
content_ended after_u (a ∷ b ∷ c ∷ d ∷ xs) =
    meant_same (λ u. content (after_high u) (ended xs)) (λ u. content (after_high u) xs) (content plain (ended xs)) (content plain xs) (λ u. content_ended (after_high u) xs) (content_ended plain xs) (code_unit a b c d)
content_ended (after_high h) [] = refl
content_ended (after_high h) (s ∷ []) = refl
content_ended (after_high h) (s ∷ u ∷ []) = refl
content_ended (after_high h) (s ∷ u ∷ a ∷ []) = refl
content_ended (after_high h) (s ∷ u ∷ a ∷ b ∷ []) = refl
content_ended (after_high h) (s ∷ u ∷ a ∷ b ∷ c ∷ []) =
    never ((s == ascii.backslash) && (u == ascii.lower_u)) _ (ap (λ (o : Option ℕ). option_and_then (λ l. cond (is_low_surrogate l) (prepend (encode_utf8 (surrogate_pair h l)) None) None) o) (no_unit a b c))
content_ended (after_high h) (s ∷ u ∷ a ∷ b ∷ c ∷ d ∷ xs) =
    ap (λ (r : Option (List ℕ)). cond ((s == ascii.backslash) && (u == ascii.lower_u)) (option_and_then (λ l. cond (is_low_surrogate l) (prepend (encode_utf8 (surrogate_pair h l)) r) None) (code_unit a b c d)) None) (content_ended plain xs)

-- ---- numbers
prefix_ended : (t : List ℕ) → prefix_len is_ascii_digit (ended t) ≡ prefix_len is_ascii_digit t
prefix_ended [] = refl
prefix_ended (x ∷ xs) = ap (λ (n : ℕ). cond (is_ascii_digit x) (1 + n) 0) (prefix_ended xs)

digits_ended : (t : List ℕ) → after_digits (ended t) ≡ option_map ended (after_digits t)
digits_ended t =
    ap (λ (n : ℕ). cond (n == 0) None (Some (drop n (ended t)))) (prefix_ended t)
    ∙ (ap (λ (l : List ℕ). cond (prefix_len is_ascii_digit t == 0) None (Some l)) (drop-append-le (prefix_len is_ascii_digit t) t (10 ∷ []) (prefix_len-le-length is_ascii_digit t)) ∙ choice (prefix_len is_ascii_digit t == 0))
  where
    choice : (b : Bool) → cond b None (Some (ended (drop (prefix_len is_ascii_digit t) t))) ≡ option_map ended (cond b None (Some (drop (prefix_len is_ascii_digit t) t)))
    choice true = refl
    choice false = refl

minus_ended : (t : List ℕ) → after_minus (ended t) ≡ ended (after_minus t)
minus_ended [] = refl
minus_ended (x ∷ xs) = cond_same (x == ascii.minus) xs (x ∷ xs)

sign_ended : (t : List ℕ) → after_sign (ended t) ≡ ended (after_sign t)
sign_ended [] = refl
sign_ended (x ∷ xs) = cond_same ((x == ascii.minus) || (x == ascii.plus)) xs (x ∷ xs)

choose : (b : Bool) (u v : Option (List ℕ)) → cond b (option_map ended u) (option_map ended v) ≡ option_map ended (cond b u v)
choose true u v = refl
choose false u v = refl

whole_ended : (t : List ℕ) → after_whole (ended t) ≡ option_map ended (after_whole t)
whole_ended [] = refl
whole_ended (x ∷ xs) = ap (λ (o : Option (List ℕ)). cond (x == ascii.zero) (Some (ended xs)) o) (digits_ended (x ∷ xs)) ∙ choose (x == ascii.zero) (Some xs) (after_digits (x ∷ xs))

fraction_ended : (t : List ℕ) → after_fraction (ended t) ≡ option_map ended (after_fraction t)
fraction_ended [] = refl
fraction_ended (x ∷ xs) = ap (λ (o : Option (List ℕ)). cond (x == ascii.dot) o (Some (ended (x ∷ xs)))) (digits_ended xs) ∙ choose (x == ascii.dot) (after_digits xs) (Some (x ∷ xs))

exponent_ended : (t : List ℕ) → after_exponent (ended t) ≡ option_map ended (after_exponent t)
exponent_ended [] = refl
exponent_ended (x ∷ xs) =
    ap (λ (o : Option (List ℕ)). cond ((x == ascii.lower_e) || (x == ascii.upper_e)) o (Some (ended (x ∷ xs)))) (ap after_digits (sign_ended xs) ∙ digits_ended (after_sign xs))
    ∙ choose ((x == ascii.lower_e) || (x == ascii.upper_e)) (after_digits (after_sign xs)) (Some (x ∷ xs))

then_ended : (f : List ℕ → Option (List ℕ)) → ((t : List ℕ) → f (ended t) ≡ option_map ended (f t)) → (o : Option (List ℕ)) → option_and_then f (option_map ended o) ≡ option_map ended (option_and_then f o)
then_ended f each None = refl
then_ended f each (Some t) = each t

number_ended : (t : List ℕ) → after_number (ended t) ≡ option_map ended (after_number t)
unfolding after_number
number_ended t =
    ap (λ (l : List ℕ). option_and_then after_exponent (option_and_then after_fraction (after_whole l))) (minus_ended t)
    ∙ (ap (λ (o : Option (List ℕ)). option_and_then after_exponent (option_and_then after_fraction o)) (whole_ended (after_minus t))
    ∙ (ap (λ (o : Option (List ℕ)). option_and_then after_exponent o) (then_ended after_fraction fraction_ended (after_whole (after_minus t))) ∙ then_ended after_exponent exponent_ended (option_and_then after_fraction (after_whole (after_minus t)))))

ends_ended : (t : List ℕ) → ends_word (ended t) ≡ ends_word t
ends_ended [] = refl
ends_ended (x ∷ xs) = refl

before_ended : (t : List ℕ) (o : Option (List ℕ)) → number_before (ended t) (option_map ended o) ≡ number_before t o
before_ended t None = refl
before_ended t (Some rest) =
    let count : length (ended t) - length (ended rest) ≡ length t - length rest = omega (arith, length-append t (10 ∷ []), length-append rest (10 ∷ [])) in
    let few : length t - length rest ≤ length t = omega arith in
    ap₂ (λ (b : Bool) (l : List ℕ). cond b (number l) bad) (ends_ended rest) (ap (λ (n : ℕ). take n (ended t)) count ∙ take-append-le (length t - length rest) t (10 ∷ []) few)

-- ---- literals
true_ended : (t : List ℕ) → literal ascii.true_text (boolean true) (ended t) ≡ literal ascii.true_text (boolean true) t
true_ended [] = refl
true_ended (a ∷ []) = refl
true_ended (a ∷ b ∷ []) = refl
true_ended (a ∷ b ∷ c ∷ []) = refl
true_ended (a ∷ b ∷ c ∷ d ∷ t) = ap (λ (e : Bool). cond (starts_with nat_eq (a ∷ b ∷ c ∷ d ∷ t) ascii.true_text && e) (boolean true) bad) (ends_ended t)

null_ended : (t : List ℕ) → literal ascii.null_text null (ended t) ≡ literal ascii.null_text null t
null_ended [] = refl
null_ended (a ∷ []) = refl
null_ended (a ∷ b ∷ []) = refl
null_ended (a ∷ b ∷ c ∷ []) = refl
null_ended (a ∷ b ∷ c ∷ d ∷ t) = ap (λ (e : Bool). cond (starts_with nat_eq (a ∷ b ∷ c ∷ d ∷ t) ascii.null_text && e) null bad) (ends_ended t)

false_ended : (t : List ℕ) → literal ascii.false_text (boolean false) (ended t) ≡ literal ascii.false_text (boolean false) t
false_ended [] = refl
false_ended (a ∷ []) = refl
false_ended (a ∷ b ∷ []) = refl
false_ended (a ∷ b ∷ c ∷ []) = refl
false_ended (a ∷ b ∷ c ∷ d ∷ []) = refl
false_ended (a ∷ b ∷ c ∷ d ∷ e ∷ t) = ap (λ (o : Bool). cond (starts_with nat_eq (a ∷ b ∷ c ∷ d ∷ e ∷ t) ascii.false_text && o) (boolean false) bad) (ends_ended t)

word_ended : (x : ℕ) (xs : List ℕ) → word (ended (x ∷ xs)) ≡ word (x ∷ xs)
unfolding word
word_ended x xs =
    let numbers = ap (number_before (ended (x ∷ xs))) (number_ended (x ∷ xs)) ∙ before_ended (x ∷ xs) (after_number (x ∷ xs)) in
    ap₂ (λ (a b : Token). cond (x == ascii.lower_t) a b) (true_ended (x ∷ xs))
    (ap₂ (λ (a b : Token). cond (x == ascii.lower_f) a b) (false_ended (x ∷ xs)) (ap₂ (λ (a b : Token). cond (x == ascii.lower_n) a b) (null_ended (x ∷ xs)) numbers))

-- ---- the whole text
byte_ended : (m : Mode) (c : Class) (x : ℕ) (xs : List ℕ) → ((next : Mode) → lex next (ended xs) ≡ lex next xs) → lex_byte m c x (ended xs) (λ next. lex next (ended xs)) ≡ lex_byte m c x xs (λ next. lex next xs)
byte_ended between quote x xs rest = ap₂ (λ (o : Option (List ℕ)) (l : List Lexeme). token (string_token o) ∷ l) (content_ended plain xs) (rest in_string)
byte_ended between backslash x xs rest = ap (λ (l : List Lexeme). token bad ∷ l) (rest in_word)
byte_ended between operator x xs rest = ap (λ (l : List Lexeme). operator_lexeme x ∷ l) (rest between)
byte_ended between space x xs rest = rest between
byte_ended between other x xs rest = ap₂ (λ (w : Token) (l : List Lexeme). token w ∷ l) (word_ended x xs) (rest in_word)
byte_ended in_word quote x xs rest = rest in_word
byte_ended in_word backslash x xs rest = rest in_word
byte_ended in_word operator x xs rest = ap (λ (l : List Lexeme). operator_lexeme x ∷ l) (rest between)
byte_ended in_word space x xs rest = rest between
byte_ended in_word other x xs rest = rest in_word
byte_ended in_string quote x xs rest = rest between
byte_ended in_string backslash x xs rest = rest in_escape
byte_ended in_string operator x xs rest = rest in_string
byte_ended in_string space x xs rest = rest in_string
byte_ended in_string other x xs rest = rest in_string
byte_ended in_escape c x xs rest = rest in_string

none_left : (m : Mode) → lex m (10 ∷ []) ≡ []
unfolding lex
none_left between = refl
none_left in_word = refl
none_left in_string = refl
none_left in_escape = refl

lex_ended : (t : List ℕ) (m : Mode) → lex m (ended t) ≡ lex m t
unfolding lex
lex_ended [] m = none_left m
lex_ended (x ∷ xs) m = byte_ended m (class x) x xs (λ next. lex_ended xs next)

-- what a text says it says with a newline behind it
pub read_ended : (t : List ℕ) → read (t ++ 10 ∷ []) ≡ read t
read_ended t =
    ap (λ (ts : List Token). option_and_then of_json (option_and_then (λ p. json.if_last p.0 p.1) (json.value max_depth ts))) (ap (λ (ls : List Lexeme). punctuate fresh ls) (lex_ended t between))
