-- Bytes that are looked at together: how many pass a test before the first that doesn't, by a mask of those that don't.
use Rattle.std.proofs.Common.{◌≡◌, ℕ, suc, zero, ◌+◌, ◌-◌, ◌<◌, ◌≤◌, ◌%◌, ◌^◌, List, [], ◌∷◌, length, map, take, drop, refl, ap, sym, subst, ◌∙◌, arith, Bool, true, false, cond}
use Rattle.std.specs.Prelude.{◌&&◌, ◌||◌, not, nat_lt, slice_range, bit_or, replicate}
use Rattle.std.specs.List.{list_all, prefix_len}
use Rattle.std.specs.Simd.Lanes.{zip2, top, mask_l, chunk}
use Rattle.std.specs.Int.Count.{count_trailing_zeros}
use Rattle.std.proofs.lemmas.Bool.Decides.{nat_tests}
use Rattle.std.proofs.lemmas.List.Sums.{prefix_len-le-length}
use Rattle.std.proofs.lemmas.Simd.{length-chunk, mask_l-mod, leading_from_mask_l, trailing_mask_l}
use Rattle.std.proofs.lemmas.List.{length-map}
use Rattle.json_text.specs.Lexing.{is_digit}
use Rattle.json_text.specs.Blanks.{is_blank}
use Rattle.json_text.proofs.Lanes.{lane, is_below}

-- one byte more in front
front_at : (good : ℕ → Bool) (b : ℕ) (xs : List ℕ) (t : Bool) → good b ≡ t → list_all good (take (prefix_len (λ x. not (not (good x))) xs) xs) ≡ true
    → list_all good (take (prefix_len (λ x. not (not (good x))) (b ∷ xs)) (b ∷ xs)) ≡ true
front_at good b xs true e h =
    let k = prefix_len (λ x. not (not (good x))) xs in
    ap (λ t. list_all good (take (cond (not (not t)) (1 + k) 0) (b ∷ xs))) e ∙ ap (λ n. list_all good (take n (b ∷ xs))) (one_more k) ∙ ap (λ t. t && list_all good (take k xs)) e ∙ h
  where
    one_more : (k : ℕ) → 1 + k ≡ suc k
    one_more k = omega arith
front_at good b xs false e h = ap (λ t. list_all good (take (cond (not (not t)) (1 + prefix_len (λ x. not (not (good x))) xs) 0) (b ∷ xs))) e

front : (good : ℕ → Bool) (xs : List ℕ) → list_all good (take (prefix_len (λ x. not (not (good x))) xs) xs) ≡ true
front good [] = refl
front good (b ∷ xs) = front_at good b xs (good b) refl (front good xs)

taken : (n k : ℕ) (xs : List ℕ) → k ≤ n → take k (take n xs) ≡ take k xs
taken n zero xs h = refl
taken zero (suc k) xs h = absurd (omega arith)
taken (suc n) (suc k) [] h = refl
taken (suc n) (suc k) (x ∷ xs) h = ap (λ ys. x ∷ ys) (taken n k xs (omega arith))

good_to : (good : ℕ → Bool) (bytes : List ℕ) (at k : ℕ) → at + 16 ≤ length bytes → k ≡ prefix_len (λ x. not (not (good x))) (chunk at 16 bytes) → list_all good (slice_range bytes at (at + k)) ≡ true
good_to good bytes at k room e =
    let xs = chunk at 16 bytes in
    let short : k ≤ 16 = omega (arith, e, prefix_len-le-length (λ x. not (not (good x))) xs, length-chunk at 16 bytes room) in
    let cut : at + k - at ≡ k = omega arith in
    ap (λ j. list_all good (take j (drop at bytes))) cut ∙ ap (list_all good) (sym (taken 16 k (drop at bytes) short)) ∙ ap (λ j. list_all good (take j xs)) e ∙ front good xs

-- where none is marked
none_bad : (good : ℕ → Bool) (bytes : List ℕ) (at m : ℕ) → at + 16 ≤ length bytes → m ≡ mask_l (map (λ x. not (good x)) (chunk at 16 bytes)) → m ≡ 0 → list_all good (slice_range bytes at (at + 16)) ≡ true
none_bad good bytes at m room is e =
    let xs = chunk at 16 bytes in
    good_to good bytes at 16 room (sym (leading_from_mask_l (λ x. not (good x)) xs (sym is ∙ e) ∙ length-chunk at 16 bytes room))

-- the first that is marked
first_is : (good : ℕ → Bool) (bytes : List ℕ) (at m : ℕ) → at + 16 ≤ length bytes → m ≡ mask_l (map (λ x. not (good x)) (chunk at 16 bytes)) → 0 < m
    → count_trailing_zeros 64 m ≡ prefix_len (λ x. not (not (good x))) (chunk at 16 bytes)
first_is good bytes at m room is h =
    let xs = chunk at 16 bytes in
    let long = length-chunk at 16 bytes room in
    ap (count_trailing_zeros 64) is ∙ trailing_mask_l (λ x. not (good x)) 64 xs (omega (arith, long)) (subst (λ n. 0 < n) is h)

first_within : (good : ℕ → Bool) (bytes : List ℕ) (at m : ℕ) → at + 16 ≤ length bytes → m ≡ mask_l (map (λ x. not (good x)) (chunk at 16 bytes)) → 0 < m → count_trailing_zeros 64 m ≤ 16
first_within good bytes at m room is h = omega (arith, first_is good bytes at m room is h, prefix_len-le-length (λ x. not (not (good x))) (chunk at 16 bytes), length-chunk at 16 bytes room)

first_bad : (good : ℕ → Bool) (bytes : List ℕ) (at m : ℕ) → at + 16 ≤ length bytes → m ≡ mask_l (map (λ x. not (good x)) (chunk at 16 bytes)) → 0 < m → list_all good (slice_range bytes at (at + count_trailing_zeros 64 m)) ≡ true
first_bad good bytes at m room is h = good_to good bytes at (count_trailing_zeros 64 m) room (first_is good bytes at m room is h)

either : (p q : Bool) → top 7 (bit_or (lane p) (lane q)) ≡ (p || q)
either true true = refl
either true false = refl
either false true = refl
either false false = refl

-- digits
abbrev pub digit_mask : List ℕ → ℕ
digit_mask xs = mask_l (map (top 7) (zip2 bit_or (zip2 is_below xs (replicate 16 48)) (zip2 is_below (replicate 16 57) xs))) % 2 ^ 64

no_digit : (b : ℕ) → (nat_lt b 48 || nat_lt 57 b) ≡ not (is_digit b)
no_digit b = grind (arith, nat_tests)

no_digits : (n : ℕ) (xs : List ℕ) → length xs ≡ n → map (top 7) (zip2 bit_or (zip2 is_below xs (replicate n 48)) (zip2 is_below (replicate n 57) xs)) ≡ map (λ x. not (is_digit x)) xs
no_digits zero [] e = refl
no_digits zero (x ∷ xs) e = absurd (omega arith)
no_digits (suc n) [] e = absurd (omega arith)
no_digits (suc n) (x ∷ xs) e = λ i. (either (nat_lt x 48) (nat_lt 57 x) ∙ no_digit x) i ∷ no_digits n xs (omega arith) i

digit_mask_is : (xs : List ℕ) → length xs ≡ 16 → digit_mask xs ≡ mask_l (map (λ x. not (is_digit x)) xs)
digit_mask_is xs e = ap (λ ms. mask_l ms % 2 ^ 64) (no_digits 16 xs e) ∙ mask_l-mod (map (λ x. not (is_digit x)) xs) 64 (omega (arith, length-map xs (λ x. not (is_digit x)), e))

pub all_digits : (bytes : List ℕ) (at : ℕ) → at + 16 ≤ length bytes → digit_mask (chunk at 16 bytes) ≡ 0 → list_all is_digit (slice_range bytes at (at + 16)) ≡ true
all_digits bytes at room e = none_bad is_digit bytes at (digit_mask (chunk at 16 bytes)) room (digit_mask_is (chunk at 16 bytes) (length-chunk at 16 bytes room)) e

pub digits_within : (bytes : List ℕ) (at : ℕ) → at + 16 ≤ length bytes → 0 < digit_mask (chunk at 16 bytes) → count_trailing_zeros 64 (digit_mask (chunk at 16 bytes)) ≤ 16
digits_within bytes at room h = first_within is_digit bytes at (digit_mask (chunk at 16 bytes)) room (digit_mask_is (chunk at 16 bytes) (length-chunk at 16 bytes room)) h

pub digits_before : (bytes : List ℕ) (at : ℕ) → at + 16 ≤ length bytes → 0 < digit_mask (chunk at 16 bytes) → list_all is_digit (slice_range bytes at (at + count_trailing_zeros 64 (digit_mask (chunk at 16 bytes)))) ≡ true
digits_before bytes at room h = first_bad is_digit bytes at (digit_mask (chunk at 16 bytes)) room (digit_mask_is (chunk at 16 bytes) (length-chunk at 16 bytes room)) h

-- blanks
abbrev pub blank_mask : List ℕ → ℕ
blank_mask xs = mask_l (map (top 7) (zip2 bit_or (zip2 is_below xs (replicate 16 32)) (zip2 is_below (replicate 16 32) xs))) % 2 ^ 64

no_blank : (b : ℕ) → (nat_lt b 32 || nat_lt 32 b) ≡ not (is_blank b)
no_blank b = grind (arith, nat_tests)

no_blanks : (n : ℕ) (xs : List ℕ) → length xs ≡ n → map (top 7) (zip2 bit_or (zip2 is_below xs (replicate n 32)) (zip2 is_below (replicate n 32) xs)) ≡ map (λ x. not (is_blank x)) xs
no_blanks zero [] e = refl
no_blanks zero (x ∷ xs) e = absurd (omega arith)
no_blanks (suc n) [] e = absurd (omega arith)
no_blanks (suc n) (x ∷ xs) e = λ i. (either (nat_lt x 32) (nat_lt 32 x) ∙ no_blank x) i ∷ no_blanks n xs (omega arith) i

blank_mask_is : (xs : List ℕ) → length xs ≡ 16 → blank_mask xs ≡ mask_l (map (λ x. not (is_blank x)) xs)
blank_mask_is xs e = ap (λ ms. mask_l ms % 2 ^ 64) (no_blanks 16 xs e) ∙ mask_l-mod (map (λ x. not (is_blank x)) xs) 64 (omega (arith, length-map xs (λ x. not (is_blank x)), e))

pub all_blanks : (bytes : List ℕ) (at : ℕ) → at + 16 ≤ length bytes → blank_mask (chunk at 16 bytes) ≡ 0 → list_all is_blank (slice_range bytes at (at + 16)) ≡ true
all_blanks bytes at room e = none_bad is_blank bytes at (blank_mask (chunk at 16 bytes)) room (blank_mask_is (chunk at 16 bytes) (length-chunk at 16 bytes room)) e

pub blanks_within : (bytes : List ℕ) (at : ℕ) → at + 16 ≤ length bytes → 0 < blank_mask (chunk at 16 bytes) → count_trailing_zeros 64 (blank_mask (chunk at 16 bytes)) ≤ 16
blanks_within bytes at room h = first_within is_blank bytes at (blank_mask (chunk at 16 bytes)) room (blank_mask_is (chunk at 16 bytes) (length-chunk at 16 bytes room)) h

pub blanks_before : (bytes : List ℕ) (at : ℕ) → at + 16 ≤ length bytes → 0 < blank_mask (chunk at 16 bytes) → list_all is_blank (slice_range bytes at (at + count_trailing_zeros 64 (blank_mask (chunk at 16 bytes)))) ≡ true
blanks_before bytes at room h = first_bad is_blank bytes at (blank_mask (chunk at 16 bytes)) room (blank_mask_is (chunk at 16 bytes) (length-chunk at 16 bytes room)) h
