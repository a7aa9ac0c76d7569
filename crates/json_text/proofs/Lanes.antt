-- The bytes that are looked at together: which of them do not stand for themselves, and how many stand before the first of these.
use Rattle.std.proofs.Common.{◌≡◌, ℕ, suc, zero, ◌+◌, ◌-◌, ◌<◌, ◌≤◌, ◌%◌, ◌^◌, List, [], ◌∷◌, length, map, take, drop, refl, ap, sym, subst, ◌∙◌, arith, Bool, true, false, cond}
use Rattle.std.specs.Prelude.{◌==◌, ◌&&◌, ◌||◌, not, nat_lt, slice_range, bit_or, replicate}
use Rattle.std.specs.List.{list_all, prefix_len}
use Rattle.std.specs.Simd.Lanes.{zip2, top, mask_l, chunk}
use Rattle.std.specs.Int.Count.{count_trailing_zeros}
use Rattle.std.proofs.lemmas.Bool.Decides.{nat_tests}
use Rattle.std.proofs.lemmas.List.Sums.{prefix_len-le-length}
use Rattle.std.proofs.lemmas.Simd.{length-chunk, mask_l-mod, leading_from_mask_l, trailing_mask_l}
use Rattle.std.proofs.lemmas.List.{length-map}
use Rattle.std.proofs.lemmas.List.Folds.{list_all-append}
use Rattle.std.proofs.lemmas.Bool.{and_from}
use Rattle.json_text.specs.Lexing.{is_plain}
use Rattle.json_text.proofs.Lexed.{slice_join}

-- the lane of a test
abbrev pub lane : Bool → ℕ
lane t = cond t 255 0

abbrev pub is_below : ℕ → ℕ → ℕ
is_below a b = lane (nat_lt a b)

abbrev pub is_same : ℕ → ℕ → ℕ
is_same a b = lane (a == b)

-- the lanes of the bytes that do not stand for themselves
abbrev pub marks : List ℕ → List ℕ
marks xs = zip2 bit_or (zip2 bit_or (zip2 bit_or (zip2 is_below xs (replicate 16 32)) (zip2 is_below (replicate 16 127) xs)) (zip2 is_same xs (replicate 16 34))) (zip2 is_same xs (replicate 16 92))

abbrev pub mask : List ℕ → ℕ
mask xs = mask_l (map (top 7) (marks xs)) % 2 ^ 64

abbrev is_marked : ℕ → Bool
is_marked b = not (is_plain b)

either : (p q : Bool) → bit_or (lane p) (lane q) ≡ lane (p || q)
either true true = refl
either true false = refl
either false true = refl
either false false = refl

shown : (p : Bool) → top 7 (lane p) ≡ p
shown true = refl
shown false = refl

four : (p q r s : Bool) → top 7 (bit_or (bit_or (bit_or (lane p) (lane q)) (lane r)) (lane s)) ≡ (((p || q) || r) || s)
four p q r s =
    ap (λ n. top 7 (bit_or (bit_or n (lane r)) (lane s))) (either p q) ∙ ap (λ n. top 7 (bit_or n (lane s))) (either (p || q) r) ∙ ap (top 7) (either ((p || q) || r) s) ∙ shown (((p || q) || r) || s)

tests : (b : ℕ) → (((nat_lt b 32 || nat_lt 127 b) || b == 34) || b == 92) ≡ is_marked b
tests b = grind (arith, nat_tests)

marked : (n : ℕ) (xs : List ℕ) → length xs ≡ n
    → map (top 7) (zip2 bit_or (zip2 bit_or (zip2 bit_or (zip2 is_below xs (replicate n 32)) (zip2 is_below (replicate n 127) xs)) (zip2 is_same xs (replicate n 34))) (zip2 is_same xs (replicate n 92))) ≡ map is_marked xs
marked zero [] e = refl
marked zero (x ∷ xs) e = absurd (omega arith)
marked (suc n) [] e = absurd (omega arith)
marked (suc n) (x ∷ xs) e = λ i. (four (nat_lt x 32) (nat_lt 127 x) (x == 34) (x == 92) ∙ tests x) i ∷ marked n xs (omega arith) i

mask_is : (xs : List ℕ) → length xs ≡ 16 → mask xs ≡ mask_l (map is_marked xs)
mask_is xs e = ap (λ ms. mask_l ms % 2 ^ 64) (marked 16 xs e) ∙ mask_l-mod (map is_marked xs) 64 (omega (arith, length-map xs is_marked))

front_at : (b : ℕ) (xs : List ℕ) (t : Bool) → is_plain b ≡ t → list_all is_plain (take (prefix_len (λ b. not (is_marked b)) xs) xs) ≡ true
    → list_all is_plain (take (prefix_len (λ b. not (is_marked b)) (b ∷ xs)) (b ∷ xs)) ≡ true
front_at b xs true e h =
    let k = prefix_len (λ b. not (is_marked b)) xs in
    ap (λ t. list_all is_plain (take (cond (not (not t)) (1 + k) 0) (b ∷ xs))) e ∙ ap (λ n. list_all is_plain (take n (b ∷ xs))) (one_more k) ∙ ap (λ t. t && list_all is_plain (take k xs)) e ∙ h
  where
    one_more : (k : ℕ) → 1 + k ≡ suc k
    one_more k = omega arith
front_at b xs false e h = ap (λ t. list_all is_plain (take (cond (not (not t)) (1 + prefix_len (λ b. not (is_marked b)) xs) 0) (b ∷ xs))) e

front : (xs : List ℕ) → list_all is_plain (take (prefix_len (λ b. not (is_marked b)) xs) xs) ≡ true
front [] = refl
front (b ∷ xs) = front_at b xs (is_plain b) refl (front xs)

taken : (n k : ℕ) (xs : List ℕ) → k ≤ n → take k (take n xs) ≡ take k xs
taken n zero xs h = refl
taken zero (suc k) xs h = absurd (omega arith)
taken (suc n) (suc k) [] h = refl
taken (suc n) (suc k) (x ∷ xs) h = ap (λ ys. x ∷ ys) (taken n k xs (omega arith))

plain_to : (bytes : List ℕ) (at k : ℕ) → at + 16 ≤ length bytes → k ≡ prefix_len (λ b. not (is_marked b)) (chunk at 16 bytes) → list_all is_plain (slice_range bytes at (at + k)) ≡ true
plain_to bytes at k room e =
    let xs = chunk at 16 bytes in
    let short : k ≤ 16 = omega (arith, e, prefix_len-le-length (λ b. not (is_marked b)) xs, length-chunk at 16 bytes room) in
    let cut : at + k - at ≡ k = omega arith in
    ap (λ j. list_all is_plain (take j (drop at bytes))) cut ∙ ap (list_all is_plain) (sym (taken 16 k (drop at bytes) short)) ∙ ap (λ j. list_all is_plain (take j xs)) e ∙ front xs

-- where none is marked
pub none_marked : (bytes : List ℕ) (at : ℕ) → at + 16 ≤ length bytes → mask (chunk at 16 bytes) ≡ 0 → list_all is_plain (slice_range bytes at (at + 16)) ≡ true
none_marked bytes at room e =
    let xs = chunk at 16 bytes in
    let long = length-chunk at 16 bytes room in
    plain_to bytes at 16 room (sym (leading_from_mask_l is_marked xs (sym (mask_is xs long) ∙ e) ∙ long))

first_is : (bytes : List ℕ) (at : ℕ) → at + 16 ≤ length bytes → 0 < mask (chunk at 16 bytes)
    → count_trailing_zeros 64 (mask (chunk at 16 bytes)) ≡ prefix_len (λ b. not (is_marked b)) (chunk at 16 bytes)
first_is bytes at room h =
    let xs = chunk at 16 bytes in
    let long = length-chunk at 16 bytes room in
    ap (count_trailing_zeros 64) (mask_is xs long) ∙ trailing_mask_l is_marked 64 xs (omega (arith, long)) (subst (λ n. 0 < n) (mask_is xs long) h)

-- the first that is marked
pub first_within : (bytes : List ℕ) (at : ℕ) → at + 16 ≤ length bytes → 0 < mask (chunk at 16 bytes) → count_trailing_zeros 64 (mask (chunk at 16 bytes)) ≤ 16
first_within bytes at room h = omega (arith, first_is bytes at room h, prefix_len-le-length (λ b. not (is_marked b)) (chunk at 16 bytes), length-chunk at 16 bytes room)

pub first_marked : (bytes : List ℕ) (at : ℕ) → at + 16 ≤ length bytes → 0 < mask (chunk at 16 bytes)
    → list_all is_plain (slice_range bytes at (at + count_trailing_zeros 64 (mask (chunk at 16 bytes)))) ≡ true
first_marked bytes at room h = plain_to bytes at (count_trailing_zeros 64 (mask (chunk at 16 bytes))) room (first_is bytes at room h)

pub plain_join : (bytes : List ℕ) (a b c : ℕ) → a ≤ b → b ≤ c → c ≤ length bytes → list_all is_plain (slice_range bytes a b) ≡ true → list_all is_plain (slice_range bytes b c) ≡ true → list_all is_plain (slice_range bytes a c) ≡ true
plain_join bytes a b c ab bc within p q =
    ap (list_all is_plain) (sym (slice_join bytes a b c ab bc within)) ∙ list_all-append is_plain (slice_range bytes a b) (slice_range bytes b c) ∙ and_from (list_all is_plain (slice_range bytes a b)) (list_all is_plain (slice_range bytes b c)) p q
