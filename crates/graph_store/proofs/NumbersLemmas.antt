-- Numbers in order, each once.
use Rattle.std.proofs.Common.{◌≡◌, ◌∙◌, ◌<◌, ◌≤◌, ◌+◌, ℕ, zero, suc, Bool, true, false, cond, List, [], ◌∷◌, length, drop, refl, ap, sym, subst, arith, eqb}
use Rattle.std.specs.Prelude.{◌==◌, ◌||◌, filter, slice_index, All}
use Rattle.std.specs.List.{list_any, range_with_len, AllByRecursion, dedup, dedup_from}
use Rattle.std.specs.List.Sorted.{IsStrictlyIncreasing, IsPermutation, IsSorted}
use Rattle.std.specs.Ordering.{nat_cmp}
use Rattle.std.proofs.lemmas.Grind.{common_steps}
use Rattle.std.proofs.lemmas.List.Sorted.{list_any-IsPermutation, All-permutation}
use Rattle.std.proofs.lemmas.List.Filters.{All-dedup}
use Rattle.std.proofs.lemmas.List.Elements.{All-head, All-tail}
use Rattle.std.proofs.lemmas.Map.Keys.{IsStrictlyIncreasing-dedup}

-- the numbers rise, from this one on
unfoldable pub Rising : ℕ → List ℕ → Type 0
Rising low [] = Unit {0}
Rising low (k ∷ ks) = (low ≤ k) × Rising (k + 1) ks

pub behind : (k : ℕ) (ks : List ℕ) (i : ℕ) → slice_index (k ∷ ks) (suc i + 1) ≡ slice_index ks (i + 1)
behind k ks i = let same : suc i + 1 ≡ suc (i + 1) = omega arith in ap (slice_index (k ∷ ks)) same

pub rising : (low : ℕ) → (ks : List ℕ) → (0 < length ks → low ≤ slice_index ks 0) → IsStrictlyIncreasing ks → Rising low ks
unfolding Rising
rising low [] first rise = tt
rising low (k ∷ []) first rise = (first (omega arith), tt)
rising low (k ∷ j ∷ ks) first rise = (first (omega arith), rising (k + 1) (j ∷ ks) (λ _. let next = rise 0 (omega arith) in omega (arith, next)) (λ i within. let next = rise (suc i) (omega (arith, within)) in let same = behind k (j ∷ ks) i in rw same at next))

-- a number below all is not among them
pub rising_above : (low i : ℕ) → (ks : List ℕ) → Rising low ks → i < low → list_any (λ k. k == i) ks ≡ false
unfolding Rising
rising_above low i [] rise below = refl
rising_above low i (k ∷ ks) (least, rise) below =
    let rest = rising_above (k + 1) i ks rise (omega (arith, least, below)) in
    let differs : (k == i) ≡ false = grind (arith, least, below) in
    ap (λ b. b || list_any (λ k. k == i) ks) differs ∙ rest

passed : (p : ℕ → Bool) (low n : ℕ) (b : Bool) → p low ≡ b → filter p (range_with_len low (suc n)) ≡ cond b (low ∷ filter p (range_with_len (low + 1) n)) (filter p (range_with_len (low + 1) n))
passed p low n b is = ap (λ b. cond b (low ∷ filter p (range_with_len (low + 1) n)) (filter p (range_with_len (low + 1) n))) is

elim_first : (p : ℕ → Bool) (n low high : ℕ) → low + suc n ≡ high → (k : ℕ) (ks : List ℕ) → low ≤ k → Rising (k + 1) ks → k < high → AllByRecursion (λ k. k < high) ks
    → ((i : ℕ) → low ≤ i → i < high → p i ≡ list_any (λ j. j == i) (k ∷ ks))
    → ((low' : ℕ) → low' + n ≡ high → (ks' : List ℕ) → Rising low' ks' → AllByRecursion (λ k. k < high) ks' → ((i : ℕ) → low' ≤ i → i < high → p i ≡ list_any (λ j. j == i) ks') → ks' ≡ filter p (range_with_len low' n))
    → (b : Bool) → (k == low) ≡ b → k ∷ ks ≡ filter p (range_with_len low (suc n))
unfolding Rising
elim_first p n low high end k ks least rise first below same more true is =
    let at : k ≡ low = grind (arith, is) in
    let passes : p low ≡ true = same low (omega arith) (omega (arith, least, first)) ∙ ap (λ b. b || list_any (λ j. j == low) ks) is in
    let from : Rising (low + 1) ks = subst (λ m. Rising (m + 1) ks) at rise in
    let others : (i : ℕ) → low + 1 ≤ i → i < high → p i ≡ list_any (λ j. j == i) ks = λ i above within.
    let differs : (k == i) ≡ false = grind (arith, at, above) in same i (omega (arith, above)) within ∙ ap (λ b. b || list_any (λ j. j == i) ks) differs in
    ap (λ m. m ∷ ks) at ∙ ap (λ rest. low ∷ rest) (more (low + 1) (omega (arith, end)) ks from below others) ∙ sym (passed p low n true passes)
elim_first p n low high end k ks least rise first below same more false is =
    let above : low + 1 ≤ k = grind (arith, is, least) in
    let none : list_any (λ j. j == low) ks ≡ false = rising_above (k + 1) low ks rise (omega (arith, above)) in
    let fails : p low ≡ false = same low (omega arith) (omega (arith, least, first)) ∙ ap (λ b. b || list_any (λ j. j == low) ks) is ∙ none in
    more (low + 1) (omega (arith, end)) (k ∷ ks) (above, rise) (first, below) (λ i from within. same i (omega (arith, from)) within) ∙ sym (passed p low n false fails)

-- rising numbers are those of a range that are among them
walk : (p : ℕ → Bool) (n low high : ℕ) → low + n ≡ high → (ks : List ℕ) → Rising low ks → AllByRecursion (λ k. k < high) ks
    → ((i : ℕ) → low ≤ i → i < high → p i ≡ list_any (λ k. k == i) ks) → ks ≡ filter p (range_with_len low n)
unfolding Rising
walk p zero low high end [] rise below same = refl
walk p zero low high end (k ∷ ks) rise below same = absurd (omega (arith, rise.0, below.0, end))
walk p (suc n) low high end [] rise below same =
    let fails : p low ≡ false = same low (omega arith) (omega (arith, end)) in
    let rest = walk p n (low + 1) high (omega (arith, end)) [] tt tt (λ i from to. same i (omega (arith, from)) to) in
    rest ∙ sym (ap (λ b. cond b (low ∷ filter p (range_with_len (low + 1) n)) (filter p (range_with_len (low + 1) n))) fails)
walk p (suc n) low high end (k ∷ ks) (least, rise) (first, below) same =
    elim_first p n low high end k ks least rise first below same (λ low' end' ks' rise' below' same'. walk p n low' high end' ks' rise' below' same') (k == low) refl

-- a test finds in what `dedup` leaves what it finds in the list
any_dedup_from : (i k : ℕ) → (ks : List ℕ) → list_any (λ j. j == i) (dedup_from eqb k ks) ≡ list_any (λ j. j == i) (k ∷ ks)
any_dedup_from i k [] = refl
any_dedup_from i k (j ∷ ks) = by_same i k j ks (any_dedup_from i k ks) (any_dedup_from i j ks) (eqb j k) refl
  where
    by_same : (i k j : ℕ) (ks : List ℕ) → list_any (λ j. j == i) (dedup_from eqb k ks) ≡ list_any (λ j. j == i) (k ∷ ks) → list_any (λ j. j == i) (dedup_from eqb j ks) ≡ list_any (λ j. j == i) (j ∷ ks)
        → (b : Bool) → eqb j k ≡ b → list_any (λ m. m == i) (cond b (dedup_from eqb k ks) (k ∷ dedup_from eqb j ks)) ≡ list_any (λ m. m == i) (k ∷ j ∷ ks)
    by_same i k j ks first second true is = let at : j ≡ k = grind (arith, is) in first ∙ grind (arith, common_steps, at)
    by_same i k j ks first second false is = ap (λ b. (k == i) || b) second

pub any_dedup : (i : ℕ) → (ks : List ℕ) → list_any (λ j. j == i) (dedup eqb ks) ≡ list_any (λ j. j == i) ks
any_dedup i [] = refl
any_dedup i (k ∷ ks) = any_dedup_from i k ks

all_by_recursion : {X : Type 0} (P : X → Type 0) → (xs : List X) → All P xs → AllByRecursion P xs
all_by_recursion P [] each = tt
all_by_recursion P (x ∷ xs) each = (All-head P x xs each, all_by_recursion P xs (All-tail P x xs each))

-- what a sort and a `dedup` leave of numbers below a count: those of the range that are among them
pub sorted_numbers : (count : ℕ) (items sorted : List ℕ) → IsPermutation items sorted → IsSorted nat_cmp sorted → All (λ item. item < count) items
    → dedup eqb sorted ≡ filter (λ i. list_any (λ j. j == i) items) (range_with_len 0 count)
sorted_numbers count items sorted moved in_order below =
    let rise = rising 0 (dedup eqb sorted) (λ _. omega arith) (IsStrictlyIncreasing-dedup sorted in_order) in
    let within = all_by_recursion (λ k. k < count) (dedup eqb sorted) (All-dedup eqb (λ k. k < count) sorted (All-permutation (λ k. k < count) items sorted moved below)) in
    walk (λ i. list_any (λ j. j == i) items) count 0 count (omega arith) (dedup eqb sorted) rise within
    (λ i _ _. list_any-IsPermutation (λ j. j == i) items sorted moved ∙ sym (any_dedup i sorted))

pub sorted_below : (count : ℕ) (items sorted : List ℕ) → IsPermutation items sorted → All (λ item. item < count) items → All (λ item. item < count) (dedup eqb sorted)
sorted_below count items sorted moved below = All-dedup eqb (λ k. k < count) sorted (All-permutation (λ k. k < count) items sorted moved below)

-- what a sort and a `dedup` leave rises, and holds the same numbers
pub distinct_rises : (sorted : List ℕ) → IsSorted nat_cmp sorted → IsStrictlyIncreasing (dedup eqb sorted)
distinct_rises sorted in_order = IsStrictlyIncreasing-dedup sorted in_order

pub distinct_same : (numbers sorted : List ℕ) → IsPermutation numbers sorted → (k : ℕ) → list_any (λ j. j == k) (dedup eqb sorted) ≡ list_any (λ j. j == k) numbers
distinct_same numbers sorted moved k = any_dedup k sorted ∙ sym (list_any-IsPermutation (λ j. j == k) numbers sorted moved)

-- behind a number of rising numbers it isn't
rising_drop : (low k : ℕ) → (ks : List ℕ) → Rising low ks → (i : ℕ) → (rest : List ℕ) → drop i ks ≡ k ∷ rest → list_any (λ j. j == k) rest ≡ false
unfolding Rising
rising_drop low k [] rise i rest is = absurd (nothing i k rest is)
  where
    nothing : (i k : ℕ) (rest : List ℕ) → drop i [] ≡ k ∷ rest → ⊥
    nothing zero k rest is = cc
    nothing (suc i) k rest is = cc
rising_drop low k (j ∷ ks) (least, rise) zero rest is =
    let at : j ≡ k = cc in
    let same : ks ≡ rest = cc in
    let above = rising_above (j + 1) j ks rise (omega arith) in
    ap (λ l. list_any (λ i. i == k) l) (sym same) ∙ ap (λ n. list_any (λ i. i == n) ks) (sym at) ∙ above
rising_drop low k (j ∷ ks) (least, rise) (suc i) rest is = rising_drop (j + 1) k ks rise i rest is

pub once : (k : ℕ) (ks : List ℕ) (i : ℕ) (rest : List ℕ) → IsStrictlyIncreasing ks → drop i ks ≡ k ∷ rest → list_any (λ j. j == k) rest ≡ false
once k ks i rest rise is = rising_drop 0 k ks (rising 0 ks (λ _. omega arith) rise) i rest is
