-- Contributions summed.
use Rattle.std.proofs.Common.{◌≡◌, ◌∙◌, ◌<◌, ◌≤◌, ◌+◌, ◌++◌, ℕ, List, [], ◌∷◌, length, drop, refl, sym, ap, subst}
use Rattle.std.specs.Prelude.{map, Result, Ok, Err}
use Rattle.fractions.specs.Fraction.{Fraction, negated}
use Rattle.plan_base.specs.declared.ids.GoodId.{GoodId}
use Rattle.game_types.specs.declared.effects.Wide.{Wide}
use Rattle.game_types.specs.Steps.{◌▸◌}
use Rattle.game_types.proofs.Walks.{drop_all}
use Rattle.table_rows.specs.declared.faults.RowFault.{RowFault}
use Rattle.table_rows.specs.declared.faults.RowFault.TheVariants.{Wide as WideRow}
use Rattle.table_rows.specs.Answers.{Extends}
use Rattle.table_rows.specs.Columns.{contributed, gives, summed, takes, Contribution}

-- a fault that is handed on
pub handed_on : (meant : Result (List (GoodId × Fraction)) Wide) (r : Result (Unit {0}) RowFault) (fault : RowFault) (new : List (GoodId × Fraction))
    → r ≡ Err fault → ((wide : Wide) → fault ≡ WideRow wide → meant ≡ Err wide) → Extends meant r new
handed_on meant r fault new e h = subst (λ (s : Result (Unit {0}) RowFault). Extends meant s new) (sym e) h

pub same_meant : (meant other : Result (List (GoodId × Fraction)) Wide) (r : Result (Unit {0}) RowFault) (new : List (GoodId × Fraction)) → meant ≡ other → Extends meant r new → Extends other r new
same_meant meant other r new e h = subst (λ (m : Result (List (GoodId × Fraction)) Wide). Extends m r new) e h

pub sum_one : (column : List (GoodId × Fraction)) (c : Contribution) → summed column (c ∷ []) ≡ contributed c column
unfolding summed
sum_one column c = last (contributed c column)
  where
    last : (r : Result (List (GoodId × Fraction)) Wide) → (r ▸ λ more. Ok more) ≡ r
    last (Ok more) = refl
    last (Err wide) = refl

-- ---- one list after another
each_more : (r : Result (List (GoodId × Fraction)) Wide) (f g h : List (GoodId × Fraction) → Result (List (GoodId × Fraction)) Wide) → ((more : List (GoodId × Fraction)) → f more ≡ (g more ▸ h)) → (r ▸ f) ≡ ((r ▸ g) ▸ h)
each_more (Ok more) f g h same = same more
each_more (Err wide) f g h same = refl

pub sum_append : (column : List (GoodId × Fraction)) (xs ys : List Contribution) → summed column (xs ++ ys) ≡ (summed column xs ▸ λ more. summed more ys)
unfolding summed
sum_append column [] ys = refl
sum_append column (x ∷ xs) ys = each_more (contributed x column) _ _ (λ more. summed more ys) (λ more. sum_append more xs ys)

pub then_fault : (old : List (GoodId × Fraction)) (xs ys : List Contribution) (r : Result (Unit {0}) RowFault) (fault : RowFault) (new : List (GoodId × Fraction))
    → r ≡ Err fault → ((wide : Wide) → fault ≡ WideRow wide → summed old xs ≡ Err wide) → Extends (summed old (xs ++ ys)) r new
then_fault old xs ys r fault new e h =
    handed_on (summed old (xs ++ ys)) r fault new e (λ wide is. sum_append old xs ys ∙ ap (λ (s : Result (List (GoodId × Fraction)) Wide). s ▸ λ more. summed more ys) (h wide is))

pub then_more : (old mid : List (GoodId × Fraction)) (xs ys : List Contribution) (r : Result (Unit {0}) RowFault) (new : List (GoodId × Fraction))
    → summed old xs ≡ Ok mid → Extends (summed mid ys) r new → Extends (summed old (xs ++ ys)) r new
then_more old mid xs ys r new e h =
    same_meant (summed mid ys) (summed old (xs ++ ys)) r new (sym (sum_append old xs ys ∙ ap (λ (s : Result (List (GoodId × Fraction)) Wide). s ▸ λ more. summed more ys) e)) h

-- ---- a loop over things that contribute
pub walk_on : {X : Type 0} (share : X → Contribution) (column more : List (GoodId × Fraction)) (xs : List X) (k : ℕ) (x : X) → drop k xs ≡ x ∷ drop (k + 1) xs
    → contributed (share x) column ≡ Ok more → summed column (map share (drop k xs)) ≡ summed more (map share (drop (k + 1) xs))
unfolding summed
walk_on {X} share column more xs k x at e =
    ap (λ (ys : List X). summed column (map share ys)) at ∙ ap (λ (r : Result (List (GoodId × Fraction)) Wide). r ▸ λ next. summed next (map share (drop (k + 1) xs))) e

pub walk_stop : {X : Type 0} (share : X → Contribution) (column : List (GoodId × Fraction)) (xs : List X) (k : ℕ) (x : X) (wide : Wide) → drop k xs ≡ x ∷ drop (k + 1) xs
    → contributed (share x) column ≡ Err wide → summed column (map share (drop k xs)) ≡ Err wide
unfolding summed
walk_stop {X} share column xs k x wide at e =
    ap (λ (ys : List X). summed column (map share ys)) at ∙ ap (λ (r : Result (List (GoodId × Fraction)) Wide). r ▸ λ next. summed next (map share (drop (k + 1) xs))) e

pub walk_end : {X : Type 0} (share : X → Contribution) (column : List (GoodId × Fraction)) (xs : List X) (k : ℕ) → length xs ≤ k → summed column (map share (drop k xs)) ≡ Ok column
unfolding summed
walk_end {X} share column xs k end = ap (λ (ys : List X). summed column (map share ys)) (drop_all xs k end)
