-- Goods that rise, the places of goods among them, and the places of a column's parts.
use Rattle.std.proofs.Common.{◌≡◌, ◌<◌, ◌≤◌, ◌+◌, ℕ, suc, List, [], ◌∷◌, length, refl, ap, arith, inl, inr}
use Rattle.std.specs.Prelude.{◌⊎◌, not, Bool, true, false, nat_lt, ◌==◌, cond, Some, None, slice_get, if◌then◌else◌}
use Rattle.std.specs.List.{position_or_len}
use Rattle.std.proofs.lemmas.Bool.Decides.{nat_tests}
use Rattle.fractions.specs.Fraction.{Fraction}
use Rattle.plan_base.specs.declared.ids.GoodId.{GoodId}
use Rattle.linear_table.specs.Plans.{Rises as PlacesRise}
use Rattle.production_table.specs.Linear.{is_numbered, or_first, parts_at, place_in, with_columns, with_good, with_goods}
use Rattle.fractions.specs.Signs.{is_zero}
use Rattle.production_table.specs.Tables.{GoodsRise, Rises}

-- ---- goods that rise
-- a good is among them
abbrev pub Has : List GoodId → ℕ → Type 0
Has [] good = ⊥
Has (g ∷ goods) good = (g.0 ≡ good) ⊎ Has goods good

abbrev pub AllIn : List GoodId → List (GoodId × Fraction) → Type 0
AllIn goods [] = Unit {0}
AllIn goods (p ∷ ps) = Has goods p.0.0 × AllIn goods ps

abbrev pub EachIn : List GoodId → List (List (GoodId × Fraction)) → Type 0
EachIn goods [] = Unit {0}
EachIn goods (column ∷ columns) = AllIn goods column × EachIn goods columns

-- ---- one good more
rise_cases : (low : ℕ) (good g : GoodId) (goods rest : List GoodId) (b c : Bool) → nat_lt good.0 g.0 ≡ b → (g.0 == good.0) ≡ c → low ≤ good.0 → GoodsRise low (g ∷ goods)
    → (g.0 + 1 ≤ good.0 → GoodsRise (g.0 + 1) rest) → GoodsRise low (if b then good ∷ g ∷ goods else if c then g ∷ goods else g ∷ rest)
rise_cases low good g goods rest true c h k at rise more = (at, (grind (arith, nat_tests), rise.1))
rise_cases low good g goods rest false true h k at rise more = rise
rise_cases low good g goods rest false false h k at rise more = (rise.0, more (grind (arith, nat_tests)))

good_rise : (low : ℕ) (good : GoodId) (goods : List GoodId) → low ≤ good.0 → GoodsRise low goods → GoodsRise low (with_good good goods)
unfolding with_good
good_rise low good [] at rise = (at, tt)
good_rise low good (g ∷ goods) at rise =
    rise_cases low good g goods (with_good good goods) (nat_lt good.0 g.0) (g.0 == good.0) refl refl at rise (λ above. good_rise (g.0 + 1) good goods above rise.1)

new_cases : (good g : GoodId) (goods rest : List GoodId) (b c : Bool) → (g.0 == good.0) ≡ c → Has rest good.0 → Has (if b then good ∷ g ∷ goods else if c then g ∷ goods else g ∷ rest) good.0
new_cases good g goods rest true c h has = inl refl
new_cases good g goods rest false true h has = inl (grind (arith, nat_tests))
new_cases good g goods rest false false h has = inr has

has_new : (good : GoodId) (goods : List GoodId) → Has (with_good good goods) good.0
unfolding with_good
has_new good [] = inl refl
has_new good (g ∷ goods) = new_cases good g goods (with_good good goods) (nat_lt good.0 g.0) (g.0 == good.0) refl (has_new good goods)

kept_behind : (g : GoodId) (goods rest : List GoodId) (x : ℕ) → (Has goods x → Has rest x) → Has (g ∷ goods) x → Has (g ∷ rest) x
kept_behind g goods rest x more (inl e) = inl e
kept_behind g goods rest x more (inr h) = inr (more h)

kept_cases : (good g : GoodId) (goods rest : List GoodId) (x : ℕ) (b c : Bool) → (Has goods x → Has rest x) → Has (g ∷ goods) x → Has (if b then good ∷ g ∷ goods else if c then g ∷ goods else g ∷ rest) x
kept_cases good g goods rest x true c more has = inr has
kept_cases good g goods rest x false true more has = has
kept_cases good g goods rest x false false more has = kept_behind g goods rest x more has

has_kept : (good : GoodId) (goods : List GoodId) (x : ℕ) → Has goods x → Has (with_good good goods) x
unfolding with_good
has_kept good [] x has = absurd has
has_kept good (g ∷ goods) x has = kept_cases good g goods (with_good good goods) x (nat_lt good.0 g.0) (g.0 == good.0) (λ h. has_kept good goods x h) has

-- ---- the goods of lists and of columns more
pub goods_rise : (goods : List GoodId) (ps : List (GoodId × Fraction)) → GoodsRise 0 goods → GoodsRise 0 (with_goods goods ps)
unfolding with_goods
goods_rise goods [] rise = rise
goods_rise goods (p ∷ ps) rise = goods_rise (with_good p.0 goods) ps (good_rise 0 p.0 goods (omega arith) rise)

pub goods_kept : (goods : List GoodId) (ps : List (GoodId × Fraction)) (x : ℕ) → Has goods x → Has (with_goods goods ps) x
unfolding with_goods
goods_kept goods [] x has = has
goods_kept goods (p ∷ ps) x has = goods_kept (with_good p.0 goods) ps x (has_kept p.0 goods x has)

pub goods_in : (goods : List GoodId) (ps : List (GoodId × Fraction)) → AllIn (with_goods goods ps) ps
unfolding with_goods
goods_in goods [] = tt
goods_in goods (p ∷ ps) = (goods_kept (with_good p.0 goods) ps p.0.0 (has_new p.0 goods), goods_in (with_good p.0 goods) ps)

pub all_kept : (goods more : List GoodId) (ps : List (GoodId × Fraction)) → ((x : ℕ) → Has goods x → Has more x) → AllIn goods ps → AllIn more ps
all_kept goods more [] keep each = tt
all_kept goods more (p ∷ ps) keep each = (keep p.0.0 each.0, all_kept goods more ps keep each.1)

pub each_kept : (goods more : List GoodId) (columns : List (List (GoodId × Fraction))) → ((x : ℕ) → Has goods x → Has more x) → EachIn goods columns → EachIn more columns
each_kept goods more [] keep each = tt
each_kept goods more (column ∷ columns) keep each = (all_kept goods more column keep each.0, each_kept goods more columns keep each.1)

pub columns_goods_rise : (goods : List GoodId) (columns : List (List (GoodId × Fraction))) → GoodsRise 0 goods → GoodsRise 0 (with_columns goods columns)
unfolding with_columns
columns_goods_rise goods [] rise = rise
columns_goods_rise goods (column ∷ columns) rise = columns_goods_rise (with_goods goods column) columns (goods_rise goods column rise)

pub columns_kept : (goods : List GoodId) (columns : List (List (GoodId × Fraction))) (x : ℕ) → Has goods x → Has (with_columns goods columns) x
unfolding with_columns
columns_kept goods [] x has = has
columns_kept goods (column ∷ columns) x has = columns_kept (with_goods goods column) columns x (goods_kept goods column x has)

pub columns_in : (goods : List GoodId) (columns : List (List (GoodId × Fraction))) → EachIn (with_columns goods columns) columns
unfolding with_columns
columns_in goods [] = tt
columns_in goods (column ∷ columns) = (
  all_kept (with_goods goods column) (with_columns (with_goods goods column) columns) column (λ x has. columns_kept (with_goods goods column) columns x has) (goods_in goods column),
  columns_in (with_goods goods column) columns,
)

-- ---- the place of a good that is there
abbrev pub spot : ℕ → List GoodId → ℕ
spot x [] = 0
spot x (g ∷ goods) = cond (g.0 == x) 0 (suc (spot x goods))

spot_test : (m n : ℕ) (b : Bool) → m ≡ n → ◌≡◌ {A = ℕ} (cond (not b) (1 + m) 0) (cond b 0 (suc n))
spot_test m n true h = refl
spot_test m n false h = omega arith

pub spot_is : (x : ℕ) (goods : List GoodId) → position_or_len (is_numbered x) goods ≡ spot x goods
spot_is x [] = refl
spot_is x (g ∷ goods) = spot_test (position_or_len (is_numbered x) goods) (spot x goods) (g.0 == x) (spot_is x goods)

within_test : (m n : ℕ) (b : Bool) → (b ≡ false → m < n) → ◌<◌ (cond b 0 (suc m)) (suc n)
within_test m n true h = omega arith
within_test m n false h = let less : m < n = h refl in omega arith

pub spot_within : (x : ℕ) (goods : List GoodId) → Has goods x → spot x goods < length goods
spot_within x [] has = absurd has
spot_within x (g ∷ goods) (inl e) = within_test (spot x goods) (length goods) (g.0 == x) (λ h. absurd (grind (arith, nat_tests)))
spot_within x (g ∷ goods) (inr has) = within_test (spot x goods) (length goods) (g.0 == x) (λ h. spot_within x goods has)

get_test : (g good : GoodId) (goods : List GoodId) (n : ℕ) (b : Bool) → (g.0 == good.0) ≡ b → (b ≡ false → slice_get goods n ≡ Some good) → slice_get (g ∷ goods) (cond b 0 (suc n)) ≡ Some good
get_test g good goods n true h more = let same : g.0 ≡ good.0 = grind (arith, nat_tests) in ap (λ (k : ℕ). let one : GoodId = record { 0 = k } in Some one) same
get_test g good goods n false h more = more refl

pub spot_get : (good : GoodId) (goods : List GoodId) → Has goods good.0 → slice_get goods (spot good.0 goods) ≡ Some good
spot_get good [] has = absurd has
spot_get good (g ∷ goods) (inl e) = get_test g good goods (spot good.0 goods) (g.0 == good.0) refl (λ h. absurd (grind (arith, nat_tests)))
spot_get good (g ∷ goods) (inr has) = get_test g good goods (spot good.0 goods) (g.0 == good.0) refl (λ h. spot_get good goods has)

place_test : (m n k : ℕ) (b : Bool) → nat_lt m k ≡ b → m ≡ n → n < k → or_first (cond b (Some m) None) ≡ n
place_test m n k true h e within = e
place_test m n k false h e within = absurd (grind (arith, nat_tests))

pub place_is_spot : (x : ℕ) (goods : List GoodId) → Has goods x → place_in goods x ≡ spot x goods
unfolding place_in
place_is_spot x goods has =
    place_test (position_or_len (is_numbered x) goods) (spot x goods) (length goods) (nat_lt (position_or_len (is_numbered x) goods) (length goods)) refl (spot_is x goods) (spot_within x goods has)

-- ---- a lesser good stands before
pub has_low : (low : ℕ) (goods : List GoodId) (x : ℕ) → GoodsRise low goods → Has goods x → low ≤ x
has_low low [] x rise has = absurd has
has_low low (g ∷ goods) x rise (inl e) = let first : low ≤ g.0 = rise.0 in omega arith
has_low low (g ∷ goods) x rise (inr has) = let first : low ≤ g.0 = rise.0 in let more : g.0 + 1 ≤ x = has_low (g.0 + 1) goods x rise.1 has in omega arith

ahead : (m n : ℕ) (b c : Bool) → b ≡ true → c ≡ false → ◌<◌ (cond b 0 (suc m)) (cond c 0 (suc n))
ahead m n true false h k = omega arith
ahead m n false c h k = absurd (cc)
ahead m n true true h k = absurd (cc)

further : (m n : ℕ) (b c : Bool) → b ≡ false → c ≡ false → m < n → ◌<◌ (cond b 0 (suc m)) (cond c 0 (suc n))
further m n false false h k less = omega arith
further m n true c h k less = absurd (cc)
further m n false true h k less = absurd (cc)

pub spot_before : (low : ℕ) (goods : List GoodId) (x y : ℕ) → GoodsRise low goods → Has goods x → Has goods y → x < y → spot x goods < spot y goods
spot_before low [] x y rise has other less = absurd has
spot_before low (g ∷ goods) x y rise (inl e) (inl f) less = absurd (omega arith)
spot_before low (g ∷ goods) x y rise (inl e) (inr other) less =
    ahead (spot x goods) (spot y goods) (g.0 == x) (g.0 == y) (grind (arith, nat_tests)) (grind (arith, nat_tests))
spot_before low (g ∷ goods) x y rise (inr has) (inl f) less = let more : g.0 + 1 ≤ x = has_low (g.0 + 1) goods x rise.1 has in absurd (omega arith)
spot_before low (g ∷ goods) x y rise (inr has) (inr other) less =
    let more : g.0 + 1 ≤ x = has_low (g.0 + 1) goods x rise.1 has in
    further (spot x goods) (spot y goods) (g.0 == x) (g.0 == y) (grind (arith, nat_tests)) (grind (arith, nat_tests)) (spot_before (g.0 + 1) goods x y rise.1 has other less)

-- ---- the places of a column's parts rise
part_test : (k n place : ℕ) (amount : Fraction) (rest : List (ℕ × Fraction)) (b : Bool) → PlacesRise k n rest → (k ≤ place) × (place < n) × PlacesRise (suc place) n rest
    → PlacesRise k n (if b then rest else (place, amount) ∷ rest)
part_test k n place amount rest true skipped more = skipped
part_test k n place amount rest false skipped more = more

pub parts_places : (goods : List GoodId) (low k : ℕ) (column : List (GoodId × Fraction)) → GoodsRise 0 goods → Rises low column → AllIn goods column
    → ((x : ℕ) → low ≤ x → Has goods x → k ≤ spot x goods) → PlacesRise k (length goods) (parts_at goods column)
unfolding parts_at
parts_places goods low k [] goods_up rise each above = tt
parts_places goods low k (p ∷ ps) goods_up rise each above =
    let first : low ≤ p.0.0 = rise.0 in
    let place : place_in goods p.0.0 ≡ spot p.0.0 goods = place_is_spot p.0.0 goods each.0 in
    let here : k ≤ spot p.0.0 goods = above p.0.0 first each.0 in
    let inside : spot p.0.0 goods < length goods = spot_within p.0.0 goods each.0 in
    part_test k (length goods) (place_in goods p.0.0) p.1 (parts_at goods ps) (is_zero p.1)
    (parts_places goods (p.0.0 + 1) k ps goods_up rise.1 each.1 (λ x h has. above x (omega arith) has)) (
      omega arith,
      omega arith,
      parts_places goods (p.0.0 + 1) (suc (place_in goods p.0.0)) ps goods_up rise.1 each.1
          (λ x h has. let less : spot p.0.0 goods < spot x goods = spot_before 0 goods p.0.0 x goods_up each.0 has (omega arith) in omega arith),
    )
