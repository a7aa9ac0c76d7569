-- The ranks of a lane, and the least key over the lanes.
use Rattle.std.proofs.Common.{◌≡◌, ℕ, zero, suc, ◌+◌, ◌<◌, ◌≤◌, Bool, true, false, List, Some, length, get_or, set, refl, sym, ◌∙◌, ap, ap₂, subst, arith, inl, inr}
use Rattle.std.proofs.lemmas.Bool.{cases_lt, cases_eq}
use Rattle.std.proofs.lemmas.Bool.Decides.{nat_tests}
use Rattle.std.proofs.lemmas.List.{get_or-map, length-map, map-set}
use Rattle.reach_ranks.specs.Given.{lesser, key_of, is_by, next_kept, sum_below}
use Rattle.reach_ranks.proofs.GivenLemmas.{is_by-trans}
use Rattle.reach_ranks.proofs.SizeLemmas.{sum_below-le}
use Rattle.reach_incremental.specs.Lanes.{lane}
use Rattle.reach_incremental.specs.Keys.{least_below, lane_key, as_key, next_in_lane}

-- the ranks of a lane

pub lane-at : (ranks : List (List ℕ)) (n l : ℕ) (d : List ℕ) → n < length ranks → get_or (lane l ranks) n 0 ≡ get_or (get_or ranks n d) l 0
lane-at ranks n l d lt = get_or-map (λ (row : List ℕ). get_or row l 0) ranks n d 0 lt

pub lane-long : (ranks : List (List ℕ)) (l : ℕ) → length (lane l ranks) ≡ length ranks
lane-long ranks l = length-map ranks (λ (row : List ℕ). get_or row l 0)

pub lane-set : (ranks : List (List ℕ)) (l u : ℕ) (row : List ℕ) → lane l (set ranks u row) ≡ set (lane l ranks) u (get_or row l 0)
lane-set ranks l u row = map-set (λ (r : List ℕ). get_or r l 0) ranks u row

-- the least of some numbers

pub least-zero : (f : ℕ → ℕ) → least_below f zero ≡ 0
unfolding least_below
least-zero f = refl

pub least-suc : (f : ℕ → ℕ) (m : ℕ) → least_below f (suc m) ≡ lesser (least_below f m) (f m)
unfolding least_below
least-suc f m = refl

pub lesser-first : (a b : ℕ) → is_by (as_key (lesser a b)) (as_key a) ≡ true
lesser-first a b = grind (arith, nat_tests)

pub lesser-second : (a b : ℕ) → is_by (as_key (lesser a b)) (as_key b) ≡ true
lesser-second a b = grind (arith, nat_tests)

pub least-by : (f : ℕ → ℕ) (m l : ℕ) → l < m → is_by (as_key (least_below f m)) (as_key (f l)) ≡ true
least-by f zero l lt = absurd (omega arith)
least-by f (suc m) l lt =
    ap (λ k. is_by (as_key k) (as_key (f l))) (least-suc f m)
    ∙ elim (cases_lt l m) [
      | inl lower ↦ is_by-trans (as_key (lesser (least_below f m) (f m))) (as_key (least_below f m)) (as_key (f l)) (lesser-first (least_below f m) (f m)) (least-by f m l lower)
      | inr top ↦ let e : m ≡ l = omega arith in subst (λ i. is_by (as_key (lesser (least_below f m) (f m))) (as_key (f i)) ≡ true) e (lesser-second (least_below f m) (f m))
    ]

-- a place at which a number is the least
pub record IsAt (f : ℕ → ℕ) (m k : ℕ) : Type 0 where
  pub place : ℕ
  pub below : place < m
  pub here : f place ≡ k

pub lesser-other : (a b k : ℕ) → lesser a b ≡ k → (a ≡ k → ⊥) → b ≡ k
lesser-other a b k e ne = grind (arith, nat_tests)

pub least-at : (f : ℕ → ℕ) (m k : ℕ) → least_below f m ≡ k → 0 < k → IsAt f m k
least-at f zero k e pos = absurd (omega (arith, least-zero f))
least-at f (suc m) k e pos =
    elim (cases_eq (least_below f m) k) [
      | inl same ↦ let at = least-at f m k same pos in record { place = at.place; below = omega (arith, at.below); here = at.here }
      | inr other ↦ record { place = m; below = omega arith; here = lesser-other (least_below f m) (f m) k (sym (least-suc f m) ∙ e) other }
    ]

pub least-same : (f g : ℕ → ℕ) (m : ℕ) → ((l : ℕ) → l < m → f l ≡ g l) → least_below f m ≡ least_below g m
least-same f g zero same = least-zero f ∙ sym (least-zero g)
least-same f g (suc m) same =
    least-suc f m ∙ (ap₂ (λ a b. lesser a b) (least-same f g m (λ l lt. same l (omega arith))) (same m (omega arith)) ∙ sym (least-suc g m))

pub least-none : (f : ℕ → ℕ) (m : ℕ) → ((l : ℕ) → l < m → f l ≡ 0) → least_below f m ≡ 0
least-none f zero none = least-zero f
least-none f (suc m) none =
    least-suc f m ∙ ap₂ (λ a b. lesser a b) (least-none f m (λ l lt. none l (omega arith))) (none m (omega arith))

-- the key of one lane

pub lane_key-live : (live : Bool) (a b : ℕ) → live ≡ true → as_key (lane_key live a b) ≡ key_of a b
lane_key-live live a b e = rw e (grind (arith, nat_tests))

pub lane_key-idle : (live : Bool) (a b : ℕ) → live ≡ false → lane_key live a b ≡ 0
lane_key-idle live a b e = rw e refl

pub lane_key-same : (live : Bool) (a b : ℕ) → a ≡ b → lane_key live a b ≡ 0
lane_key-same true a b e = grind (arith, nat_tests)
lane_key-same false a b e = refl

pub lane_key-is_live : (live : Bool) (a b k : ℕ) → lane_key live a b ≡ k → 0 < k → live ≡ true
lane_key-is_live true a b k e pos = refl
lane_key-is_live false a b k e pos = absurd (omega arith)

pub as_key-some : (k : ℕ) → 0 < k → as_key k ≡ Some k
as_key-some k pos = grind (arith, nat_tests)

pub lane_key-key : (live : Bool) (a b k : ℕ) → lane_key live a b ≡ k → 0 < k → key_of a b ≡ Some k
lane_key-key live a b k e pos =
    sym (lane_key-live live a b (lane_key-is_live live a b k e pos)) ∙ (ap (λ j. as_key j) e ∙ as_key-some k pos)

pub next-own : (own kept key : ℕ) → own ≡ key → next_in_lane own kept key ≡ next_kept kept key
next-own own kept key e = grind (arith, nat_tests)

pub next-kept : (own kept key : ℕ) → (own ≡ key → ⊥) → next_in_lane own kept key ≡ kept
next-kept own kept key ne = grind (arith, nat_tests)

pub next-differs : (a k : ℕ) → 0 < k → (a ≡ next_kept a k → ⊥)
next-differs a k pos e = grind (arith, nat_tests)

pub least_key-by : (live : ℕ → Bool) (kept by_row : ℕ → ℕ) (l : ℕ) → l < 16 → live l ≡ true → is_by (as_key (least_below (λ i. lane_key (live i) (kept i) (by_row i)) 16)) (key_of (kept l) (by_row l)) ≡ true
least_key-by live kept by_row l lt is =
    ap (λ t. is_by (as_key (least_below (λ i. lane_key (live i) (kept i) (by_row i)) 16)) t) (sym (lane_key-live (live l) (kept l) (by_row l) is))
    ∙ least-by (λ i. lane_key (live i) (kept i) (by_row i)) 16 l lt

-- sums over the lanes

pub sum-drop : (f h : ℕ → ℕ) (u c m : ℕ) → u < m → ((n : ℕ) → n < m → h n ≤ f n) → h u + c ≤ f u → sum_below h m + c ≤ sum_below f m
sum-drop f h u c zero lt le less = absurd (omega arith)
sum-drop f h u c (suc m) lt le less =
    elim (cases_lt u m) [
      | inl lower ↦ omega (arith, le m (omega arith), sum-drop f h u c m lower (λ n below. le n (omega arith)) less)
      | inr top ↦ let e : u ≡ m = omega arith in
          let here : h m + c ≤ f m = subst (λ i. h i + c ≤ f i) e less in
          omega (arith, here, sum_below-le h f m (λ n below. le n (omega arith)))
    ]

pub least-more : (f : ℕ → ℕ) (m least own next : ℕ) → least ≡ least_below f m → own ≡ f m → next ≡ lesser least own → next ≡ least_below f (m + 1)
least-more f m least own next e own_is is =
    let more : suc m ≡ m + 1 = omega arith in
    is ∙ (ap₂ (λ a b. lesser a b) e own_is ∙ (sym (least-suc f m) ∙ ap (least_below f) more))
