-- Goods in order, each once.
use Rattle.std.proofs.Common.{◌≡◌, ◌∙◌, ◌<◌, ◌≤◌, ◌+◌, ◌++◌, ℕ, zero, suc, List, [], ◌∷◌, length, drop, get_or, refl, sym, ap, arith, inl, inr}
use Rattle.std.proofs.lemmas.List.{get_or_default}
use Rattle.std.specs.Prelude.{◌⊎◌, not, Bool, true, false, nat_le, nat_lt, ◌==◌, cond, Option, Some, None, position}
use Rattle.std.specs.List.{insert, position_or_len}
use Rattle.std.proofs.lemmas.Bool.Decides.{nat_tests}
use Rattle.std.proofs.lemmas.List.Quantifiers.{position-Some}
use Rattle.std.proofs.lemmas.Bool.{cond-true}
use Rattle.fractions.specs.Fraction.{Fraction}
use Rattle.plan_base.specs.declared.ids.GoodId.{GoodId}
use Rattle.game_types.proofs.Walks.{drop_all}
use Rattle.production_table.specs.Linear.{is_not_below, is_numbered, or_first, place_in, with_columns, with_good, with_goods}
use Rattle.table_rows.proofs.Parts.{second_branch, third_branch}

-- ---- one good more
good_behind : (good g : GoodId) (goods : List GoodId) → g.0 < good.0 → with_good good (g ∷ goods) ≡ g ∷ with_good good goods
unfolding with_good
good_behind good g goods h =
    let above : nat_lt good.0 g.0 ≡ false = grind (arith, nat_tests) in
    let apart : (g.0 == good.0) ≡ false = grind (arith, nat_tests) in
    third_branch (nat_lt good.0 g.0) (g.0 == good.0) _ _ _ above apart

abbrev pub Below : GoodId → List GoodId → ℕ → Type 0
Below good goods place = (k : ℕ) → k < place → (get_or goods k good).0 < good.0

good_there : (good : GoodId) (goods : List GoodId) (place : ℕ) → Below good goods place → place < length goods → (get_or goods place good).0 ≡ good.0 → with_good good goods ≡ goods
unfolding with_good
good_there good [] place below within at = absurd (omega arith)
good_there good (g ∷ goods) zero below within at =
    let above : nat_lt good.0 g.0 ≡ false = grind (arith, nat_tests) in
    let equal : (g.0 == good.0) ≡ true = grind (arith, nat_tests) in
    second_branch (nat_lt good.0 g.0) (g.0 == good.0) _ _ _ above equal
good_there good (g ∷ goods) (suc place) below within at =
    good_behind good g goods (below 0 (omega arith)) ∙ ap (λ (gs : List GoodId). g ∷ gs) (good_there good goods place (λ k h. below (suc k) (omega arith)) (omega arith) at)

good_new : (good : GoodId) (goods : List GoodId) (place : ℕ) → Below good goods place → place < length goods → good.0 < (get_or goods place good).0 → with_good good goods ≡ insert goods place good
unfolding with_good
good_new good [] place below within at = absurd (omega arith)
good_new good (g ∷ goods) zero below within at =
    let less : nat_lt good.0 g.0 ≡ true = grind (arith, nat_tests) in cond-true (nat_lt good.0 g.0) _ _ less
good_new good (g ∷ goods) (suc place) below within at =
    good_behind good g goods (below 0 (omega arith)) ∙ ap (λ (gs : List GoodId). g ∷ gs) (good_new good goods place (λ k h. below (suc k) (omega arith)) (omega arith) at)

good_last : (good : GoodId) (goods : List GoodId) → Below good goods (length goods) → with_good good goods ≡ goods ++ good ∷ []
unfolding with_good
good_last good [] below = refl
good_last good (g ∷ goods) below =
    good_behind good g goods (below 0 (omega arith)) ∙ ap (λ (gs : List GoodId). g ∷ gs) (good_last good goods (λ k h. below (suc k) (omega arith)))

-- the place that is looked for
lesser : (good : GoodId) (goods : List GoodId) (place : ℕ) → ((k : ℕ) → k < place → is_not_below good (get_or goods k good) ≡ false) → Below good goods place
lesser good goods place h k within = let e : nat_le good.0 (get_or goods k good).0 ≡ false = h k within in grind (arith, nat_tests)

pub add_there : (good other : GoodId) (goods : List GoodId) (place : ℕ) → position (is_not_below good) goods ≡ Some place → other ≡ get_or goods place other → other.0 ≡ good.0 → goods ≡ with_good good goods
add_there good other goods place h is same =
    let found = position-Some (is_not_below good) goods place good h in
    let read : other ≡ get_or goods place good = is ∙ get_or_default goods place other good found.0 in
    sym (good_there good goods place (lesser good goods place found.2) found.0 (ap (λ (g : GoodId). g.0) (sym read) ∙ same))

pub add_new : (good other : GoodId) (goods : List GoodId) (place : ℕ) → position (is_not_below good) goods ≡ Some place → other ≡ get_or goods place other → (other.0 ≡ good.0 → ⊥) → insert goods place good ≡ with_good good goods
add_new good other goods place h is differs =
    let found = position-Some (is_not_below good) goods place good h in
    let read : other ≡ get_or goods place good = is ∙ get_or_default goods place other good found.0 in
    let up : nat_le good.0 (get_or goods place good).0 ≡ true = found.1 in
    let apart : (get_or goods place good).0 ≡ good.0 → ⊥ = λ e. differs (ap (λ (g : GoodId). g.0) read ∙ e) in
    let above : good.0 < (get_or goods place good).0 = grind (arith, nat_tests, apart) in
    sym (good_new good goods place (lesser good goods place found.2) found.0 above)

all_lesser : (good : GoodId) (goods : List GoodId) → length goods ≤ position_or_len (is_not_below good) goods → Below good goods (length goods)
all_lesser good [] h k within = absurd (omega arith)
all_lesser good (g ∷ goods) h k within = by_test (is_not_below good g) refl h k within (λ l j w. all_lesser good goods l j w)
  where
    by_test : (b : Bool) → is_not_below good g ≡ b → length (g ∷ goods) ≤ cond (not b) (1 + position_or_len (is_not_below good) goods) 0 → (k : ℕ) → k < length (g ∷ goods)
        → (length goods ≤ position_or_len (is_not_below good) goods → Below good goods (length goods)) → (get_or (g ∷ goods) k good).0 < good.0
    by_test true e h k within rest = absurd (omega arith)
    by_test false e h zero within rest = let f : nat_le good.0 g.0 ≡ false = e in grind (arith, nat_tests)
    by_test false e h (suc k) within rest = rest (omega arith) k (omega arith)

none_up : (good : GoodId) (goods : List GoodId) → position (is_not_below good) goods ≡ None → Below good goods (length goods)
none_up good goods h = all_lesser good goods (past (position_or_len (is_not_below good) goods) (length goods) (nat_lt (position_or_len (is_not_below good) goods) (length goods)) refl h)
  where
    past : (n m : ℕ) (b : Bool) → nat_lt n m ≡ b → cond b (Some n) None ≡ None → m ≤ n
    past n m true h e = absurd (cc)
    past n m false h e = grind (arith, nat_tests)

pub add_last : (good : GoodId) (goods : List GoodId) → position (is_not_below good) goods ≡ None → goods ++ good ∷ [] ≡ with_good good goods
add_last good goods h = sym (good_last good goods (none_up good goods h))

-- ---- goods of a list, and of columns
pub goods_on : (goods : List GoodId) (pairs : List (GoodId × Fraction)) (k : ℕ) (p : GoodId × Fraction) → drop k pairs ≡ p ∷ drop (k + 1) pairs → with_goods goods (drop k pairs) ≡ with_goods (with_good p.0 goods) (drop (k + 1) pairs)
unfolding with_goods
goods_on goods pairs k p at = ap (with_goods goods) at

pub goods_end : (goods : List GoodId) (pairs : List (GoodId × Fraction)) (k : ℕ) → length pairs ≤ k → with_goods goods (drop k pairs) ≡ goods
unfolding with_goods
goods_end goods pairs k end = ap (with_goods goods) (drop_all pairs k end)

pub columns_on : (goods : List GoodId) (columns : List (List (GoodId × Fraction))) (k : ℕ) (column : List (GoodId × Fraction)) → drop k columns ≡ column ∷ drop (k + 1) columns
    → with_columns goods (drop k columns) ≡ with_columns (with_goods goods column) (drop (k + 1) columns)
unfolding with_columns
columns_on goods columns k column at = ap (with_columns goods) at

pub columns_end : (goods : List GoodId) (columns : List (List (GoodId × Fraction))) (k : ℕ) → length columns ≤ k → with_columns goods (drop k columns) ≡ goods
unfolding with_columns
columns_end goods columns k end = ap (with_columns goods) (drop_all columns k end)

-- ---- places
pub place_within : (goods : List GoodId) (good : ℕ) → (place_in goods good < length goods) ⊎ (place_in goods good ≡ 0)
unfolding place_in
place_within goods good = by_place (position (is_numbered good) goods) refl
  where
    by_place : (o : Option ℕ) → position (is_numbered good) goods ≡ o → (or_first o < length goods) ⊎ (or_first o ≡ 0)
    by_place None h = inr refl
    by_place (Some place) h = inl (position-Some (is_numbered good) goods place (record { 0 = 0 }) h).0
