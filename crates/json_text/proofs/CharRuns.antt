-- The characters of a string are read as such.
use Rattle.std.proofs.Common.{◌≡◌, ℕ, zero, suc, ◌+◌, ◌*◌, ◌/◌, ◌%◌, ◌<◌, ◌≤◌, List, [], ◌∷◌, ◌++◌, refl, ap, sym, subst, ◌∙◌, arith, lt-ltb, false, true, inl, inr, append_assoc, append-nil}
use Rattle.std.specs.Prelude.{encode_utf8, ◌⊎◌, ◌==◌, ◌≢◌, if◌then◌else◌, flat_map, codes, slice_index_or}
use Rattle.std.specs.List.{AllByRecursion}
use Rattle.std.specs.Char.{IsScalar, digit_value}
use Rattle.std.proofs.lemmas.Bool.Decides.{nat_tests}
use Rattle.json_text.specs.Text.{Char, plain, short, unicode, surrogates, IsChar, IsHex, hex_value, char_text, char_value, string_value, short_value}
use Rattle.json_text.specs.Lexing.{between, ranged, is_short, is_hex, if_hex, more, is_low, is_high, second_hex, last_hex, low_first, low_second, pair, lex_next, lex_emits, lex_after, lex_end, lexed, LexRuns, went}
use Rattle.json_text.specs.declared.lex.Lex.{Lex}
use Rattle.json_text.specs.declared.lex.Lex.TheVariants.{Between, Tail1, Tail2, Tail3, BehindE0, BehindEd, BehindF0, BehindF4, Escape, Hex0, Hex1, Hex2, Hex3, Backslash, LetterU, Low0, Low1, Low2, Low3}
use Rattle.json_text.specs.declared.lex.LexGo.{LexGo}
use Rattle.json_text.specs.declared.lex.LexGo.TheVariants.{Goes}
use Rattle.json_text.proofs.Utf8.{encoded, one_byte, two_bytes, three_bytes, four_bytes, scalar_range, order}

pub LexRuns-append : (lex : Lex) (xs ys : List ℕ) → LexRuns lex xs → LexRuns (lex_end lex xs) ys → LexRuns lex (xs ++ ys)
LexRuns-append lex [] ys h i = i
LexRuns-append lex (b ∷ xs) ys h i = (h.0, LexRuns-append (lex_after lex b) xs ys h.1 i)

pub lexed-append : (lex : Lex) (xs ys : List ℕ) → lexed lex (xs ++ ys) ≡ lexed lex xs ++ lexed (lex_end lex xs) ys
lexed-append lex [] ys = refl
lexed-append lex (b ∷ xs) ys = ap (λ s. lex_emits lex b ++ s) (lexed-append (lex_after lex b) xs ys) ∙ sym (append_assoc (lex_emits lex b) (lexed (lex_after lex b) xs) (lexed (lex_end (lex_after lex b) xs) ys))

pub lex_end-append : (lex : Lex) (xs ys : List ℕ) → lex_end lex (xs ++ ys) ≡ lex_end (lex_end lex xs) ys
lex_end-append lex [] ys = refl
lex_end-append lex (b ∷ xs) ys = lex_end-append (lex_after lex b) xs ys

pub record Runs (lex : Lex) (bytes value : List ℕ) (end : Lex) : Type 0 where
  pub runs : LexRuns lex bytes
  pub value_is : lexed lex bytes ≡ value
  pub end_is : lex_end lex bytes ≡ end

pub runs_nil : (lex : Lex) → Runs lex [] [] lex
runs_nil lex = record { runs = tt; value_is = refl; end_is = refl }

pub runs_cons : (lex next end : Lex) (b : ℕ) (bytes u v : List ℕ) → lex_next lex b ≡ Goes next → lex_emits lex b ≡ u → Runs next bytes v end → Runs lex (b ∷ bytes) (u ++ v) end
runs_cons lex next end b bytes u v e f r =
    let a : lex_after lex b ≡ next = ap went e in
    record {
      runs = (e ∙ ap Goes (sym a), subst (λ x. LexRuns x bytes) (sym a) r.runs);
      value_is = ap (λ s. s ++ lexed (lex_after lex b) bytes) f ∙ ap (λ x. u ++ lexed x bytes) a ∙ ap (λ s. u ++ s) r.value_is;
      end_is = ap (λ x. lex_end x bytes) a ∙ r.end_is;
    }

pub runs_append : (lex mid end : Lex) (xs ys v u : List ℕ) → Runs lex xs v mid → Runs mid ys u end → Runs lex (xs ++ ys) (v ++ u) end
runs_append lex mid end xs ys v u r q = record {
  runs = LexRuns-append lex xs ys r.runs (subst (λ x. LexRuns x ys) (sym r.end_is) q.runs);
  value_is = lexed-append lex xs ys ∙ ap (λ s. s ++ lexed (lex_end lex xs) ys) r.value_is ∙ ap (λ x. v ++ lexed x ys) r.end_is ∙ ap (λ s. v ++ s) q.value_is;
  end_is = lex_end-append lex xs ys ∙ ap (λ x. lex_end x ys) r.end_is ∙ q.end_is;
}

in_between : (b : ℕ) → 32 ≤ b → b < 128 → b ≢ 34 → b ≢ 92 → between b ≡ Goes Between
in_between b low high quote back = grind (arith, nat_tests)

not_back : (b : ℕ) → b ≢ 92 → (if b == 92 then [] else b ∷ []) ≡ b ∷ []
not_back b h = let e : (b == 92) ≡ false = grind (arith, nat_tests) in rw e refl

lead_two : (b : ℕ) → 194 ≤ b → b ≤ 223 → between b ≡ Goes Tail1
lead_two b low high = grind (arith, nat_tests)

lead_three : (b : ℕ) → 224 ≤ b → b ≤ 239 → b ≢ 224 → b ≢ 237 → between b ≡ Goes Tail2
lead_three b low high e0 ed = grind (arith, nat_tests)

lead_four : (b : ℕ) → 241 ≤ b → b ≤ 243 → between b ≡ Goes Tail3
lead_four b low high = grind (arith, nat_tests)

ranged_goes : (low high : ℕ) (next : Lex) (b : ℕ) → low ≤ b → b ≤ high → ranged low high next b ≡ Goes next
ranged_goes low high next b l h = grind (arith, nat_tests)

runs_tail : (b : ℕ) → 128 ≤ b → b ≤ 191 → Runs Tail1 (b ∷ []) (b ∷ []) Between
runs_tail b low high = runs_cons Tail1 Between Between b [] (b ∷ []) [] (ranged_goes 128 191 Between b low high) refl (runs_nil Between)

runs_tails : (b c : ℕ) → 128 ≤ b → b ≤ 191 → 128 ≤ c → c ≤ 191 → Runs Tail2 (b ∷ c ∷ []) (b ∷ c ∷ []) Between
runs_tails b c low high clow chigh = runs_cons Tail2 Tail1 Between b (c ∷ []) (b ∷ []) (c ∷ []) (ranged_goes 128 191 Tail1 b low high) refl (runs_tail c clow chigh)

runs_two : (b c : ℕ) → 194 ≤ b → b ≤ 223 → 128 ≤ c → c ≤ 191 → Runs Between (b ∷ c ∷ []) (b ∷ c ∷ []) Between
runs_two b c low high clow chigh = runs_cons Between Tail1 Between b (c ∷ []) (b ∷ []) (c ∷ []) (lead_two b low high) (not_back b (λ h. omega arith)) (runs_tail c clow chigh)

runs_three : (b c d : ℕ) → 224 ≤ b → b ≤ 239 → 128 ≤ c → c ≤ 191 → 128 ≤ d → d ≤ 191 → (b ≡ 224 → 160 ≤ c) → (b ≡ 237 → c ≤ 159) → Runs Between (b ∷ c ∷ d ∷ []) (b ∷ c ∷ d ∷ []) Between
runs_three b c d low high clow chigh dlow dhigh e0 ed = on (decide_eq b 224) (decide_eq b 237)
  where
    decide_eq : (m n : ℕ) → (m ≡ n) ⊎ (m ≢ n)
    decide_eq m n = elim (order m n) [ inl h ↦ inr (λ e. omega arith) | inr h ↦ elim (order n m) [ inl g ↦ inr (λ e. omega arith) | inr g ↦ inl (omega arith) ] ]

    on : (b ≡ 224) ⊎ (b ≢ 224) → (b ≡ 237) ⊎ (b ≢ 237) → Runs Between (b ∷ c ∷ d ∷ []) (b ∷ c ∷ d ∷ []) Between
    on (inl e) y = runs_cons Between BehindE0 Between b (c ∷ d ∷ []) (b ∷ []) (c ∷ d ∷ []) (rw e refl) (not_back b (λ h. omega arith)) (runs_cons BehindE0 Tail1 Between c (d ∷ []) (c ∷ []) (d ∷ []) (ranged_goes 160 191 Tail1 c (e0 e) chigh) refl (runs_tail d dlow dhigh))
    on (inr n) (inl e) = runs_cons Between BehindEd Between b (c ∷ d ∷ []) (b ∷ []) (c ∷ d ∷ []) (rw e refl) (not_back b (λ h. omega arith)) (runs_cons BehindEd Tail1 Between c (d ∷ []) (c ∷ []) (d ∷ []) (ranged_goes 128 159 Tail1 c clow (ed e)) refl (runs_tail d dlow dhigh))
    on (inr n) (inr m) = runs_cons Between Tail2 Between b (c ∷ d ∷ []) (b ∷ []) (c ∷ d ∷ []) (lead_three b low high n m) (not_back b (λ h. omega arith)) (runs_tails c d clow chigh dlow dhigh)

runs_four : (b c d e : ℕ) → 240 ≤ b → b ≤ 244 → 128 ≤ c → c ≤ 191 → 128 ≤ d → d ≤ 191 → 128 ≤ e → e ≤ 191 → (b ≡ 240 → 144 ≤ c) → (b ≡ 244 → c ≤ 143) → Runs Between (b ∷ c ∷ d ∷ e ∷ []) (b ∷ c ∷ d ∷ e ∷ []) Between
runs_four b c d e low high clow chigh dlow dhigh elow ehigh f0 f4 = on (decide_eq b 240) (decide_eq b 244)
  where
    decide_eq : (m n : ℕ) → (m ≡ n) ⊎ (m ≢ n)
    decide_eq m n = elim (order m n) [ inl h ↦ inr (λ e. omega arith) | inr h ↦ elim (order n m) [ inl g ↦ inr (λ e. omega arith) | inr g ↦ inl (omega arith) ] ]

    on : (b ≡ 240) ⊎ (b ≢ 240) → (b ≡ 244) ⊎ (b ≢ 244) → Runs Between (b ∷ c ∷ d ∷ e ∷ []) (b ∷ c ∷ d ∷ e ∷ []) Between
    on (inl x) y = runs_cons Between BehindF0 Between b (c ∷ d ∷ e ∷ []) (b ∷ []) (c ∷ d ∷ e ∷ []) (rw x refl) (not_back b (λ h. omega arith)) (runs_cons BehindF0 Tail2 Between c (d ∷ e ∷ []) (c ∷ []) (d ∷ e ∷ []) (ranged_goes 144 191 Tail2 c (f0 x) chigh) refl (runs_tails d e dlow dhigh elow ehigh))
    on (inr n) (inl x) = runs_cons Between BehindF4 Between b (c ∷ d ∷ e ∷ []) (b ∷ []) (c ∷ d ∷ e ∷ []) (rw x refl) (not_back b (λ h. omega arith)) (runs_cons BehindF4 Tail2 Between c (d ∷ e ∷ []) (c ∷ []) (d ∷ e ∷ []) (ranged_goes 128 143 Tail2 c clow (f4 x)) refl (runs_tails d e dlow dhigh elow ehigh))
    on (inr n) (inr m) = runs_cons Between Tail3 Between b (c ∷ d ∷ e ∷ []) (b ∷ []) (c ∷ d ∷ e ∷ []) (lead_four b (omega arith) (omega arith)) (not_back b (λ h. omega arith)) (runs_cons Tail3 Tail2 Between c (d ∷ e ∷ []) (c ∷ []) (d ∷ e ∷ []) (ranged_goes 128 191 Tail2 c clow chigh) refl (runs_tails d e dlow dhigh elow ehigh))

plain_runs : (c : ℕ) → IsScalar c → 32 ≤ c → c ≢ 34 → c ≢ 92 → Runs Between (encode_utf8 c) (encode_utf8 c) Between
plain_runs c scalar low quote back =
    let range = scalar_range c scalar in
    elim (encoded c) [
      | one_byte small e ↦ rw e (runs_cons Between Between Between c [] (c ∷ []) [] (in_between c low small quote back) (not_back c back) (runs_nil Between))
      | two_bytes l h e ↦ rw e (runs_two (192 + c / 64) (128 + c % 64) (omega arith) (omega arith) (omega arith) (omega arith))
      | three_bytes l h e ↦ rw e (runs_three (224 + c / 4096) (128 + (c / 64) % 64) (128 + c % 64) (omega arith) (omega arith) (omega arith) (omega arith) (omega arith) (omega arith) (λ x. omega arith) (λ x. elim range.1 [ inl g ↦ omega arith | inr g ↦ omega arith ]))
      | four_bytes l e ↦ rw e (runs_four (240 + c / 262144) (128 + (c / 4096) % 64) (128 + (c / 64) % 64) (128 + c % 64) (omega arith) (omega (arith, range.0)) (omega arith) (omega arith) (omega arith) (omega arith) (omega arith) (omega arith) (λ x. omega arith) (λ x. omega (arith, range.0)))
    ]

short_is : (k b : ℕ) → k < 8 → slice_index_or (codes "\"\\/bfnrt") k b ≡ b → is_short b ≡ true
short_is zero b h e = subst (λ x. is_short x ≡ true) e refl
short_is (suc zero) b h e = subst (λ x. is_short x ≡ true) e refl
short_is (suc (suc zero)) b h e = subst (λ x. is_short x ≡ true) e refl
short_is (suc (suc (suc zero))) b h e = subst (λ x. is_short x ≡ true) e refl
short_is (suc (suc (suc (suc zero)))) b h e = subst (λ x. is_short x ≡ true) e refl
short_is (suc (suc (suc (suc (suc zero))))) b h e = subst (λ x. is_short x ≡ true) e refl
short_is (suc (suc (suc (suc (suc (suc zero)))))) b h e = subst (λ x. is_short x ≡ true) e refl
short_is (suc (suc (suc (suc (suc (suc (suc zero))))))) b h e = subst (λ x. is_short x ≡ true) e refl
short_is (suc (suc (suc (suc (suc (suc (suc (suc k)))))))) b h e = absurd (omega arith)

short_not_u : (b : ℕ) → is_short b ≡ true → (b == 117) ≡ false
short_not_u b h = grind (arith, nat_tests)

short_runs : (b : ℕ) → is_short b ≡ true → Runs Between (92 ∷ b ∷ []) (encode_utf8 (short_value b)) Between
short_runs b h =
    let not_u = short_not_u b h in
    let r = runs_cons Between Escape Between 92 (b ∷ []) [] (encode_utf8 (short_value b) ++ []) refl refl (runs_cons Escape Between Between b [] (encode_utf8 (short_value b)) [] (rw (not_u, h) refl) (rw not_u refl) (runs_nil Between)) in
    record { runs = r.runs; value_is = r.value_is ∙ append-nil (encode_utf8 (short_value b)); end_is = r.end_is }

is_hex-true : (d : ℕ) → digit_value d < 16 → is_hex d ≡ true
is_hex-true d h = lt-ltb (digit_value d) 16 h

hex_goes : (d : ℕ) (x : LexGo) → digit_value d < 16 → if_hex d x ≡ x
hex_goes d x h = rw (is_hex-true d h) refl

not_low : (v2 c d : ℕ) → c < 16 → d < 16 → (16 * (16 * v2 + c) + d < 55296) ⊎ (57344 ≤ 16 * (16 * v2 + c) + d) → is_low v2 ≡ false
not_low v2 c d hc hd (inl h) = let few : v2 < 220 = omega arith in grind (arith, nat_tests)
not_low v2 c d hc hd (inr h) = let many : 224 ≤ v2 = omega arith in grind (arith, nat_tests)

not_high : (v : ℕ) → (v < 55296) ⊎ (57344 ≤ v) → is_high v ≡ false
not_high v (inl h) = grind (arith, nat_tests)
not_high v (inr h) = grind (arith, nat_tests)

low_is : (v2 c d : ℕ) → v2 < 256 → c < 16 → d < 16 → 0xDC00 ≤ 16 * (16 * v2 + c) + d → 16 * (16 * v2 + c) + d < 0xE000 → is_low v2 ≡ true
low_is v2 c d h hc hd low high = let a : 220 ≤ v2 = omega arith in let b : v2 ≤ 223 = omega arith in grind (arith, nat_tests)

thirteen : (a b c d : ℕ) → a < 16 → b < 16 → c < 16 → d < 16 → 0xDC00 ≤ 16 * (16 * (16 * a + b) + c) + d → 16 * (16 * (16 * a + b) + c) + d < 0xE000 → a ≡ 13
thirteen a b c d ha hb hc hd low high = omega arith

is_high-true : (v : ℕ) → 0xD800 ≤ v → v < 0xDC00 → is_high v ≡ true
is_high-true v low high = grind (arith, nat_tests)

-- the value of four digits
pub four_digits : (a b c d : ℕ) → hex_value (a ∷ b ∷ c ∷ d ∷ []) ≡ more (more (more (digit_value a) b) c) d
four_digits a b c d = let first : more 0 a ≡ digit_value a = omega arith in ap (λ x. more (more (more x b) c) d) first

hex_steps : (a b c d : ℕ) (end : Lex) (add : List ℕ) → digit_value a < 16 → digit_value b < 16 → digit_value c < 16 → digit_value d < 16 → is_low (more (digit_value a) b) ≡ false
    → last_hex (more (more (more (digit_value a) b) c) d) ≡ Goes end → lex_emits (Hex3 (more (more (digit_value a) b) c)) d ≡ add → Runs Between (92 ∷ 117 ∷ a ∷ b ∷ c ∷ d ∷ []) add end
hex_steps a b c d end add ha hb hc hd low last shows =
    let v1 = digit_value a in
    let v2 = more v1 b in
    let v3 = more v2 c in
    let s6 = runs_cons (Hex3 v3) end end d [] add [] (hex_goes d (last_hex (more v3 d)) hd ∙ last) shows (runs_nil end) in
    let s5 = runs_cons (Hex2 v2) (Hex3 v3) end c (d ∷ []) [] (add ++ []) (hex_goes c (Goes (Hex3 v3)) hc) refl s6 in
    let s4 = runs_cons (Hex1 v1) (Hex2 v2) end b (c ∷ d ∷ []) [] (add ++ []) (hex_goes b (second_hex v2) hb ∙ rw low refl) refl s5 in
    let s3 = runs_cons Hex0 (Hex1 v1) end a (b ∷ c ∷ d ∷ []) [] (add ++ []) (hex_goes a (Goes (Hex1 v1)) ha) refl s4 in
    let s2 = runs_cons Escape Hex0 end 117 (a ∷ b ∷ c ∷ d ∷ []) [] (add ++ []) refl refl s3 in
    let s1 = runs_cons Between Escape end 92 (117 ∷ a ∷ b ∷ c ∷ d ∷ []) [] (add ++ []) refl refl s2 in
    record { runs = s1.runs; value_is = s1.value_is ∙ append-nil add; end_is = s1.end_is }

unicode_runs : (hex : List ℕ) → IsHex hex → IsScalar (hex_value hex) → Runs Between (92 ∷ 117 ∷ hex) (encode_utf8 (hex_value hex)) Between
unicode_runs [] h s = absurd (omega (arith, h.0))
unicode_runs (a ∷ []) h s = absurd (omega (arith, h.0))
unicode_runs (a ∷ b ∷ []) h s = absurd (omega (arith, h.0))
unicode_runs (a ∷ b ∷ c ∷ []) h s = absurd (omega (arith, h.0))
unicode_runs (a ∷ b ∷ c ∷ d ∷ []) h s =
    let all = h.1 in
    let range = scalar_range (hex_value (a ∷ b ∷ c ∷ d ∷ [])) s in
    let v = more (more (more (digit_value a) b) c) d in
    let same : hex_value (a ∷ b ∷ c ∷ d ∷ []) ≡ v = four_digits a b c d in
    let apart : (v < 55296) ⊎ (57344 ≤ v) = subst (λ x. (x < 55296) ⊎ (57344 ≤ x)) same range.1 in
    let high = not_high v apart in
    hex_steps a b c d Between (encode_utf8 (hex_value (a ∷ b ∷ c ∷ d ∷ []))) all.0 all.1.0 all.1.1.0 all.1.1.1.0 (not_low (more (digit_value a) b) (digit_value c) (digit_value d) all.1.1.0 all.1.1.1.0 apart) (rw high refl) (rw high (ap encode_utf8 (sym same)))
unicode_runs (a ∷ b ∷ c ∷ d ∷ e ∷ hex) h s = absurd (omega (arith, h.0))

low_steps : (high a b c d : ℕ) → digit_value a ≡ 13 → digit_value b < 16 → digit_value c < 16 → digit_value d < 16 → is_low (more 13 b) ≡ true
    → Runs (Backslash high) (92 ∷ 117 ∷ a ∷ b ∷ c ∷ d ∷ []) (encode_utf8 (pair high (more (more (more 13 b) c) d))) Between
low_steps high a b c d ha hb hc hd low =
    let v2 = more 13 b in
    let v3 = more v2 c in
    let add = encode_utf8 (pair high (more v3 d)) in
    let s6 = runs_cons (Low3 high v3) Between Between d [] add [] (hex_goes d (Goes Between) hd) refl (runs_nil Between) in
    let s5 = runs_cons (Low2 high v2) (Low3 high v3) Between c (d ∷ []) [] (add ++ []) (hex_goes c (Goes (Low3 high v3)) hc) refl s6 in
    let s4 = runs_cons (Low1 high) (Low2 high v2) Between b (c ∷ d ∷ []) [] (add ++ []) (hex_goes b (low_second high v2) hb ∙ rw low refl) refl s5 in
    let s3 = runs_cons (Low0 high) (Low1 high) Between a (b ∷ c ∷ d ∷ []) [] (add ++ []) (hex_goes a (low_first high (digit_value a)) (omega arith) ∙ ap (low_first high) ha) refl s4 in
    let s2 = runs_cons (LetterU high) (Low0 high) Between 117 (a ∷ b ∷ c ∷ d ∷ []) [] (add ++ []) refl refl s3 in
    let s1 = runs_cons (Backslash high) (LetterU high) Between 92 (117 ∷ a ∷ b ∷ c ∷ d ∷ []) [] (add ++ []) refl refl s2 in
    record { runs = s1.runs; value_is = s1.value_is ∙ append-nil add; end_is = s1.end_is }

high_runs : (hex : List ℕ) → IsHex hex → 0xD800 ≤ hex_value hex → hex_value hex < 0xDC00 → Runs Between (92 ∷ 117 ∷ hex) [] (Backslash (hex_value hex))
high_runs [] h s t = absurd (omega (arith, h.0))
high_runs (a ∷ []) h s t = absurd (omega (arith, h.0))
high_runs (a ∷ b ∷ []) h s t = absurd (omega (arith, h.0))
high_runs (a ∷ b ∷ c ∷ []) h s t = absurd (omega (arith, h.0))
high_runs (a ∷ b ∷ c ∷ d ∷ []) h s t =
    let all = h.1 in
    let v = more (more (more (digit_value a) b) c) d in
    let same : hex_value (a ∷ b ∷ c ∷ d ∷ []) ≡ v = four_digits a b c d in
    let low : is_low (more (digit_value a) b) ≡ false = (let few : more (digit_value a) b < 220 = omega (arith, same, all.1.1.0, all.1.1.1.0) in below_low (more (digit_value a) b) few) in
    let high : is_high v ≡ true = is_high-true v (omega (arith, same)) (omega (arith, same)) in
    hex_steps a b c d (Backslash (hex_value (a ∷ b ∷ c ∷ d ∷ []))) [] all.0 all.1.0 all.1.1.0 all.1.1.1.0 low (rw high (ap (λ x. Goes (Backslash x)) (sym same))) (rw high refl)
  where
    below_low : (v : ℕ) → v < 220 → is_low v ≡ false
    below_low v h = grind (arith, nat_tests)
high_runs (a ∷ b ∷ c ∷ d ∷ e ∷ hex) h s t = absurd (omega (arith, h.0))

low_runs : (high : ℕ) (hex : List ℕ) → IsHex hex → 0xDC00 ≤ hex_value hex → hex_value hex < 0xE000 → Runs (Backslash high) (92 ∷ 117 ∷ hex) (encode_utf8 (pair high (hex_value hex))) Between
low_runs high [] h s t = absurd (omega (arith, h.0))
low_runs high (a ∷ []) h s t = absurd (omega (arith, h.0))
low_runs high (a ∷ b ∷ []) h s t = absurd (omega (arith, h.0))
low_runs high (a ∷ b ∷ c ∷ []) h s t = absurd (omega (arith, h.0))
low_runs high (a ∷ b ∷ c ∷ d ∷ []) h s t =
    let all = h.1 in
    let same : hex_value (a ∷ b ∷ c ∷ d ∷ []) ≡ more (more (more (digit_value a) b) c) d = four_digits a b c d in
    let is13 : digit_value a ≡ 13 = thirteen (digit_value a) (digit_value b) (digit_value c) (digit_value d) all.0 all.1.0 all.1.1.0 all.1.1.1.0 (omega (arith, same)) (omega (arith, same)) in
    let same13 : hex_value (a ∷ b ∷ c ∷ d ∷ []) ≡ more (more (more 13 b) c) d = same ∙ ap (λ x. more (more (more x b) c) d) is13 in
    let low : is_low (more 13 b) ≡ true = low_is (more 13 b) (digit_value c) (digit_value d) (omega (arith, all.1.0)) all.1.1.0 all.1.1.1.0 (omega (arith, same13)) (omega (arith, same13)) in
    let r = low_steps high a b c d is13 all.1.0 all.1.1.0 all.1.1.1.0 low in
    record { runs = r.runs; value_is = r.value_is ∙ ap (λ x. encode_utf8 (pair high x)) (sym same13); end_is = r.end_is }
low_runs high (a ∷ b ∷ c ∷ d ∷ e ∷ hex) h s t = absurd (omega (arith, h.0))

pub char_runs : (c : Char) → IsChar c → Runs Between (char_text c) (char_value c) Between
char_runs (plain c) h = plain_runs c h.0 h.1 h.2 h.3
char_runs (short b) h = short_runs b (short_is h.0 b h.1 h.2)
char_runs (unicode hex) h = unicode_runs hex h.0 h.1
char_runs (surrogates high low) h =
    let regroup : (92 ∷ 117 ∷ high) ++ (92 ∷ 117 ∷ low) ≡ 92 ∷ 117 ∷ (high ++ (92 ∷ 117 ∷ low)) = refl in
    let r = runs_append Between (Backslash (hex_value high)) Between (92 ∷ 117 ∷ high) (92 ∷ 117 ∷ low) [] (encode_utf8 (pair (hex_value high) (hex_value low))) (high_runs high h.0 h.2 h.3) (low_runs (hex_value high) low h.1 h.4 h.5) in
    record { runs = r.runs; value_is = r.value_is; end_is = r.end_is }

pub chars_run : (cs : List Char) → AllByRecursion IsChar cs → Runs Between (flat_map char_text cs) (string_value cs) Between
chars_run [] h = runs_nil Between
chars_run (c ∷ cs) h = runs_append Between Between Between (char_text c) (flat_map char_text cs) (char_value c) (string_value cs) (char_runs c h.0) (chars_run cs h.1)
