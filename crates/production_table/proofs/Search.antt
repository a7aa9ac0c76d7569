-- A good looked for among goods that rise.
use Rattle.std.proofs.Common.{◌≡◌, ◌∙◌, ◌<◌, ◌≤◌, ◌+◌, ℕ, zero, suc, List, [], ◌∷◌, length, refl, ap, subst, arith, inl, inr}
use Rattle.std.specs.Prelude.{◌⊎◌, Bool, true, false, nat_lt, ◌==◌, cond, Option, Some, None, position, slice_get, slice_index_or}
use Rattle.std.specs.List.{position_or_len}
use Rattle.std.specs.List.Sorted.{IsPartitionPoint, IsPartitionedBy}
use Rattle.std.proofs.lemmas.Bool.{cases_lt}
use Rattle.std.proofs.lemmas.Bool.Decides.{nat_tests}
use Rattle.plan_base.specs.declared.ids.GoodId.{GoodId}
use Rattle.production_table.specs.Linear.{is_good_at, is_numbered}
use Rattle.production_table.specs.Tables.{GoodsRise}
use Rattle.production_table.proofs.Places.{spot, spot_is}

-- ---- goods that rise
at_least : (low : ℕ) (goods : List GoodId) (j : ℕ) (d : GoodId) → GoodsRise low goods → j < length goods → low ≤ (slice_index_or goods j d).0
at_least low [] j d rise within = absurd (omega arith)
at_least low (g ∷ goods) zero d rise within = rise.0
at_least low (g ∷ goods) (suc j) d rise within = let first : low ≤ g.0 = rise.0 in let more : g.0 + 1 ≤ (slice_index_or goods j d).0 = at_least (g.0 + 1) goods j d rise.1 (omega arith) in omega arith

lesser : (low : ℕ) (goods : List GoodId) (i j : ℕ) (d : GoodId) → GoodsRise low goods → i < j → j < length goods → (slice_index_or goods i d).0 < (slice_index_or goods j d).0
lesser low [] i j d rise h within = absurd (omega arith)
lesser low (g ∷ goods) i zero d rise h within = absurd (omega arith)
lesser low (g ∷ goods) zero (suc j) d rise h within = let more : g.0 + 1 ≤ (slice_index_or goods j d).0 = at_least (g.0 + 1) goods j d rise.1 (omega arith) in omega arith
lesser low (g ∷ goods) (suc i) (suc j) d rise h within = lesser (g.0 + 1) goods i j d rise.1 (omega arith) (omega arith)

abbrev pub is_below : ℕ → GoodId → Bool
is_below x other = nat_lt other.0 x

pub parted : (goods : List GoodId) (x : ℕ) → GoodsRise 0 goods → IsPartitionedBy (is_below x) goods
parted goods x rise i j d h within below = by_order (cases_lt i j)
  where
    by_order : (i < j) ⊎ (j ≤ i) → nat_lt (slice_index_or goods i d).0 x ≡ true
    by_order (inl less) = let up : (slice_index_or goods i d).0 < (slice_index_or goods j d).0 = lesser 0 goods i j d rise less within in grind (arith, nat_tests)
    by_order (inr more) = let same : j ≡ i = omega arith in subst (λ (k : ℕ). nat_lt (slice_index_or goods k d).0 x ≡ true) same below

-- ---- where it is there
hit : (m : ℕ) (b : Bool) → b ≡ true → ◌≡◌ {A = ℕ} (cond b 0 (suc m)) 0
hit m true h = refl
hit m false h = absurd (cc)

miss : (m n : ℕ) (b : Bool) → b ≡ false → m ≡ n → ◌≡◌ {A = ℕ} (cond b 0 (suc m)) (suc n)
miss m n false h e = omega arith
miss m n true h e = absurd (cc)

spot_there : (goods : List GoodId) (k x : ℕ) (g : GoodId) → ((j : ℕ) (d : GoodId) → 0 ≤ j → j < k → nat_lt (slice_index_or goods j d).0 x ≡ true) → slice_get goods k ≡ Some g → g.0 ≡ x → (spot x goods ≡ k) × (k < length goods)
spot_there [] k x g below is at = absurd (cc)
spot_there (h ∷ goods) zero x g below is at =
    let same : h ≡ g = cc in
    let equal : h.0 ≡ x = ap (λ (y : GoodId). y.0) same ∙ at in
    (hit (spot x goods) (h.0 == x) (grind (arith, nat_tests)), omega arith)
spot_there (h ∷ goods) (suc k) x g below is at =
    let first : nat_lt h.0 x ≡ true = below 0 h (omega arith) (omega arith) in
    let rest = spot_there goods k x g (λ j d low less. below (suc j) d (omega arith) (omega arith)) is at in
    (miss (spot x goods) k (h.0 == x) (grind (arith, nat_tests)) rest.0, (let less : k < length goods = rest.1 in omega arith))

spot_nowhere : (goods : List GoodId) (x : ℕ) → ((j : ℕ) (d : GoodId) → j < length goods → (slice_index_or goods j d).0 ≡ x → ⊥) → spot x goods ≡ length goods
spot_nowhere [] x h = refl
spot_nowhere (g ∷ goods) x h =
    let apart : g.0 ≡ x → ⊥ = λ e. h 0 g (omega arith) e in
    miss (spot x goods) (length goods) (g.0 == x) (grind (arith, nat_tests, apart)) (spot_nowhere goods x (λ j d within e. h (suc j) d (omega arith) e))

some_test : (m n k : ℕ) (b : Bool) → nat_lt m k ≡ b → m ≡ n → n < k → cond b (Some m) None ≡ Some n
some_test m n k true h e within = ap (λ (i : ℕ). Some i) e
some_test m n k false h e within = absurd (grind (arith, nat_tests))

none_test : (m k : ℕ) (b : Bool) → nat_lt m k ≡ b → m ≡ k → ◌≡◌ {A = Option ℕ} (cond b (Some m) None) None
none_test m k true h e = absurd (grind (arith, nat_tests))
none_test m k false h e = refl

good_at : (o : Option GoodId) (x : ℕ) → is_good_at x o ≡ true → (g : GoodId) × (o ≡ Some g) × (g.0 ≡ x)
good_at (Some g) x h = (g, refl, grind (arith, nat_tests))
good_at None x h = absurd (cc)

pub found : (goods : List GoodId) (k x : ℕ) → IsPartitionPoint (λ other. nat_lt other.0 x ≡ true) (λ other. nat_lt other.0 x ≡ false) goods k → is_good_at x (slice_get goods k) ≡ true → position (is_numbered x) goods ≡ Some k
found goods k x point has =
    let at = good_at (slice_get goods k) x has in
    let there = spot_there goods k x at.0 point.0 at.1 at.2 in
    some_test (position_or_len (is_numbered x) goods) k (length goods) (nat_lt (position_or_len (is_numbered x) goods) (length goods)) refl (spot_is x goods ∙ there.0) there.1

not_at : (goods : List GoodId) (k x : ℕ) (d : GoodId) → k < length goods → is_good_at x (slice_get goods k) ≡ false → (slice_index_or goods k d).0 ≡ x → ⊥
not_at [] k x d within h e = omega arith
not_at (g ∷ goods) zero x d within h e = let differ : (g.0 == x) ≡ false = h in grind (arith, nat_tests)
not_at (g ∷ goods) (suc k) x d within h e = not_at goods k x d (omega arith) h e

nowhere : (goods : List GoodId) (k x : ℕ) → GoodsRise 0 goods → IsPartitionPoint (λ other. nat_lt other.0 x ≡ true) (λ other. nat_lt other.0 x ≡ false) goods k → is_good_at x (slice_get goods k) ≡ false
    → (j : ℕ) (d : GoodId) → j < length goods → (slice_index_or goods j d).0 ≡ x → ⊥
nowhere goods k x rise point has j d within e = by_order (cases_lt j k)
  where
    behind : (k < j) ⊎ (j ≤ k) → k ≤ j → ⊥
    behind (inl less) h =
        let up : (slice_index_or goods k d).0 < (slice_index_or goods j d).0 = lesser 0 goods k j d rise less within in
        let above : nat_lt (slice_index_or goods k d).0 x ≡ false = point.1 k d (omega arith) (omega arith) in
        grind (arith, nat_tests)
    behind (inr more) h = let same : j ≡ k = omega arith in not_at goods k x d (omega arith) has (subst (λ (i : ℕ). (slice_index_or goods i d).0 ≡ x) same e)

    by_order : (j < k) ⊎ (k ≤ j) → ⊥
    by_order (inl less) = let below : nat_lt (slice_index_or goods j d).0 x ≡ true = point.0 j d (omega arith) less in grind (arith, nat_tests)
    by_order (inr more) = behind (cases_lt k j) more

pub not_found : (goods : List GoodId) (k x : ℕ) → GoodsRise 0 goods → IsPartitionPoint (λ other. nat_lt other.0 x ≡ true) (λ other. nat_lt other.0 x ≡ false) goods k → is_good_at x (slice_get goods k) ≡ false → position (is_numbered x) goods ≡ None
not_found goods k x rise point has =
    none_test (position_or_len (is_numbered x) goods) (length goods) (nat_lt (position_or_len (is_numbered x) goods) (length goods)) refl
    (spot_is x goods ∙ spot_nowhere goods x (nowhere goods k x rise point has))
