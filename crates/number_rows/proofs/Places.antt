-- The places at which a row's numbers aren't 0.
use Rattle.std.specs.Prelude.{◌≡◌, ℕ, zero, suc, ◌+◌, ◌-◌, ◌<◌, ◌≤◌, List, [], ◌∷◌, ◌++◌, length, slice_index_or}
use Rattle.std.proofs.Common.{refl, sym, subst, arith, below_more, set, take, drop}
use Rattle.std.proofs.lemmas.List.{take_all, take-set, take_more_set}
use Rattle.number_rows.specs.Places.{HoldsBut, FailsAt}

-- one number more, where the property holds or not
pub but_holds : (P : ℕ → Type 0) (from : ℕ) (places : List ℕ) (n : ℕ) → P n → HoldsBut P from places n → HoldsBut P from places (n + 1)
but_holds P from [] n here h = λ k p q. below_more (λ j. from ≤ j → P j) n (λ j below after. h j after below) (λ after. here) k q p
but_holds P from (place ∷ places) n here h = (h.0, omega (arith, h.1), h.2, but_holds P (place + 1) places n here h.3)

pub but_fails : (P : ℕ → Type 0) (from : ℕ) (places : List ℕ) (n : ℕ) → from ≤ n → HoldsBut P from places n → HoldsBut P from (places ++ n ∷ []) (n + 1)
but_fails P from [] n le h = (le, omega arith, h, λ k p q. absurd (omega arith))
but_fails P from (place ∷ places) n le h = (h.0, omega (arith, h.1), h.2, but_fails P (place + 1) places n (omega (arith, h.1)) h.3)

-- a place that is written behind others, and counts where the property may fail
pub place_written : (P : ℕ → Type 0) (places : List ℕ) (count one k : ℕ) → count ≤ k → k < length places → one ≤ 1 → (one ≡ 0 → P k) → HoldsBut P 0 (take count places) k → HoldsBut P 0 (take (count + one) (set places count k)) (k + 1)
place_written P places count zero k le lt most here h =
    let same : count ≡ count + 0 = omega arith in
    subst (λ (n : ℕ). HoldsBut P 0 (take n (set places count k)) (k + 1)) same
    (subst (λ (l : List ℕ). HoldsBut P 0 l (k + 1)) (sym (take-set places count k)) (but_holds P 0 (take count places) k (here refl) h))
place_written P places count (suc zero) k le lt most here h =
    subst (λ (l : List ℕ). HoldsBut P 0 l (k + 1)) (sym (take_more_set places count k (omega (arith, le, lt)))) (but_fails P 0 (take count places) k (omega arith) h)
place_written P places count (suc (suc one)) k le lt most here h = absurd (omega (arith, most))

-- the places at which a property fails, with one more
pub fails_append : (P : ℕ → Type 0) (places : List ℕ) (k : ℕ) → ¬ P k → FailsAt P places → FailsAt P (places ++ k ∷ [])
fails_append P [] k some h = (some, tt)
fails_append P (place ∷ places) k some h = (h.0, fails_append P places k some h.1)

pub fails_written : (P : ℕ → Type 0) (places : List ℕ) (count one k : ℕ) → count < length places → one ≤ 1 → (0 < one → ¬ P k) → FailsAt P (take count places) → FailsAt P (take (count + one) (set places count k))
fails_written P places count zero k lt most some h =
    let same : count ≡ count + 0 = omega arith in
    subst (λ (n : ℕ). FailsAt P (take n (set places count k))) same (subst (FailsAt P) (sym (take-set places count k)) h)
fails_written P places count (suc zero) k lt most some h =
    subst (FailsAt P) (sym (take_more_set places count k lt)) (fails_append P (take count places) k (some (omega arith)) h)
fails_written P places count (suc (suc one)) k lt most some h = absurd (omega (arith, most))

pub fails_map : (P Q : ℕ → Type 0) (places : List ℕ) → ((k : ℕ) → Q k → P k) → FailsAt P places → FailsAt Q places
fails_map P Q [] f h = tt
fails_map P Q (place ∷ places) f h = (λ q. h.0 (f place q), fails_map P Q places f h.1)

-- another property that the first gives
pub but_map : (P Q : ℕ → Type 0) (from : ℕ) (places : List ℕ) (n : ℕ) → ((k : ℕ) → k < n → P k → Q k) → HoldsBut P from places n → HoldsBut Q from places n
but_map P Q from [] n f h = λ k p q. f k q (h k p q)
but_map P Q from (place ∷ places) n f h = (h.0, h.1, λ k p q. f k (omega (arith, q, h.1)) (h.2 k p q), but_map P Q (place + 1) places n f h.3)

-- what is said of the first place, of those after it, and where there is none
pub record IsFirstPlace (P : ℕ → Type 0) (from place n : ℕ) : Type 0 where
  pub after : from ≤ place
  pub inside : place < n
  pub gap : (k : ℕ) → from ≤ k → k < place → P k

pub first_place : (P : ℕ → Type 0) (from : ℕ) (places : List ℕ) (n : ℕ) → 0 < length places → HoldsBut P from places n → IsFirstPlace P from (slice_index_or places 0 0) n
first_place P from [] n some h = absurd (omega arith)
first_place P from (place ∷ places) n some h = record { after = h.0; inside = h.1; gap = h.2 }

pub later_places : (P : ℕ → Type 0) (from : ℕ) (places : List ℕ) (n m : ℕ) → 0 < length places → length places ≤ m → HoldsBut P from places n → HoldsBut P (slice_index_or places 0 0 + 1) (take (m - 1) (drop 1 places)) n
later_places P from [] n m some le h = absurd (omega arith)
later_places P from (place ∷ places) n m some le h = subst (λ (l : List ℕ). HoldsBut P (place + 1) l n) (sym (take_all (m - 1) places (omega (arith, le)))) h.3

pub no_place : (P : ℕ → Type 0) (from : ℕ) (places : List ℕ) (n : ℕ) → length places < 1 → HoldsBut P from places n → (k : ℕ) → from ≤ k → k < n → P k
no_place P from [] n few h = h
no_place P from (place ∷ places) n few h = absurd (omega arith)
