-- Texts that are cut at a colon.
use Rattle.std.proofs.Common.{◌≡◌, ◌∙◌, ◌<◌, ◌≤◌, ◌+◌, ◌-◌, ◌++◌, ◌⊎◌, ℕ, Bool, true, false, zero, suc, List, [], ◌∷◌, length, take, drop, refl, sym, ap, arith, inl, inr}
use Rattle.std.specs.Prelude.{codes, slice_index_or}
use Rattle.std.proofs.lemmas.List.{take-append-drop, drop_more}

heads : (x y : ℕ) (xs ys : List ℕ) → x ∷ xs ≡ y ∷ ys → x ≡ y
heads x y xs ys e = cc

tails : (x y : ℕ) (xs ys : List ℕ) → x ∷ xs ≡ y ∷ ys → xs ≡ ys
tails x y xs ys e = cc

-- b is a, a colon and the middle; c is the middle, a colon and d
pub record Longer (a b c d : List ℕ) : Type 0 where
  pub middle : List ℕ
  pub first : b ≡ a ++ (58 ∷ middle)
  pub second : c ≡ middle ++ (58 ∷ d)

-- a text that is cut twice
abbrev pub TwoCuts : List ℕ → List ℕ → List ℕ → List ℕ → Type 0
TwoCuts a b c d = ((a ≡ b) × (c ≡ d)) ⊎ (Longer a b c d ⊎ Longer b a d c)

pub two_cuts : (a b c d : List ℕ) → a ++ (58 ∷ c) ≡ b ++ (58 ∷ d) → TwoCuts a b c d
two_cuts [] [] c d same = inl (refl, tails 58 58 c d same)
two_cuts [] (y ∷ ys) c d same =
    inr (inl (record { middle = ys; first = ap (λ n. n ∷ ys) (sym (heads 58 y c (ys ++ (58 ∷ d)) same)); second = tails 58 y c (ys ++ (58 ∷ d)) same }))
two_cuts (x ∷ xs) [] c d same =
    inr (inr (record { middle = xs; first = ap (λ n. n ∷ xs) (heads x 58 (xs ++ (58 ∷ c)) d same); second = sym (tails x 58 (xs ++ (58 ∷ c)) d same) }))
two_cuts (x ∷ xs) (y ∷ ys) c d same =
    behind (heads x y (xs ++ (58 ∷ c)) (ys ++ (58 ∷ d)) same) (two_cuts xs ys c d (tails x y (xs ++ (58 ∷ c)) (ys ++ (58 ∷ d)) same))
  where
    behind : x ≡ y → TwoCuts xs ys c d → TwoCuts (x ∷ xs) (y ∷ ys) c d
    behind e (inl (first, second)) = inl (ap (λ n. n ∷ xs) e ∙ ap (λ ns. y ∷ ns) first, second)
    behind e (inr (inl more)) = inr (inl (record { middle = more.middle; first = ap (λ n. n ∷ ys) (sym e) ∙ ap (λ ns. x ∷ ns) more.first; second = more.second }))
    behind e (inr (inr more)) = inr (inr (record { middle = more.middle; first = ap (λ n. n ∷ xs) e ∙ ap (λ ns. y ∷ ns) more.first; second = more.second }))

-- ---- where a colon is known
one_more : (n : ℕ) → n + 1 ≡ suc n
one_more n = omega arith

pub take_cut : (a c : List ℕ) → take (length a) (a ++ (58 ∷ c)) ≡ a
take_cut [] c = refl
take_cut (x ∷ xs) c = ap (λ ns. x ∷ ns) (take_cut xs c)

drop_suc : (a c : List ℕ) → drop (suc (length a)) (a ++ (58 ∷ c)) ≡ c
drop_suc [] c = refl
drop_suc (x ∷ xs) c = drop_suc xs c

pub drop_cut : (a c : List ℕ) → drop (length a + 1) (a ++ (58 ∷ c)) ≡ c
drop_cut a c = ap (λ n. drop n (a ++ (58 ∷ c))) (one_more (length a)) ∙ drop_suc a c

pub colon_cut : (a c : List ℕ) → slice_index_or (a ++ (58 ∷ c)) (length a) 0 ≡ 58
colon_cut [] c = refl
colon_cut (x ∷ xs) c = colon_cut xs c

pub within_cut : (a c : List ℕ) → length a < length (a ++ (58 ∷ c))
within_cut [] c = omega arith
within_cut (x ∷ xs) c = let rest = within_cut xs c in further (length xs) (length (xs ++ (58 ∷ c))) rest
  where
    further : (n m : ℕ) → n < m → suc n < suc m
    further n m h = omega (arith, h)

pub cut_at : (text : List ℕ) (place : ℕ) → place < length text → slice_index_or text place 0 ≡ 58 → text ≡ take place text ++ (58 ∷ drop (place + 1) text)
cut_at text place within colon =
    sym (take-append-drop place text) ∙ ap (λ rest. take place text ++ rest) (drop_more text place 0 within ∙ ap (λ n. n ∷ drop (place + 1) text) colon)

pub drop_front : (front rest : List ℕ) → drop (length front) (front ++ rest) ≡ rest
drop_front [] rest = refl
drop_front (x ∷ front) rest = drop_front front rest

-- a text is shorter than itself with a colon and more behind it
pub never_longer : (a middle : List ℕ) → a ≡ a ++ (58 ∷ middle) → ⊥
never_longer [] middle same = absurd (cc)
never_longer (x ∷ xs) middle same = never_longer xs middle (tails x x xs (xs ++ (58 ∷ middle)) same)
