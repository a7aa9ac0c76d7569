-- The plans of a table's linear form are the plans of the table, at the same cost.
use Rattle.std.proofs.Common.{◌≡◌, ◌∙◌, ◌<◌, ◌≤◌, ◌+◌, ◌++◌, ℕ, zero, suc, List, [], ◌∷◌, length, drop, refl, sym, ap, subst, arith, inl, inr, length-append}
use Rattle.std.specs.Prelude.{◌↔◌, map, Bool, true, false, Ok, nat_lt, slice_get, cond, ◌==◌}
use Rattle.std.proofs.Math.Seq.{drop-nil}
use Rattle.std.proofs.lemmas.Bool.Decides.{nat_tests}
use Rattle.std.proofs.lemmas.List.{length-map}
use Rattle.fractions.specs.Fraction.{Fraction, zero_fraction, negated, ◌+ʳ◌, ◌*ʳ◌, ◌≤ʳ◌}
use Rattle.fractions.specs.Fracs.{atom, ◌⊞◌, opposite, same_amount}
use Rattle.fractions.proofs.Laws.{+ʳ_assoc, +ʳ_comm, *ʳ_comm, zero-*ʳ, zero-+ʳ}
use Rattle.plan_base.specs.declared.ids.GoodId.{GoodId}
use Rattle.game_types.specs.declared.games.Game.{Game}
use Rattle.game_types.specs.Steps.{◌▸◌}
use Rattle.linear_table.specs.Answer.{IsPlanned}
use Rattle.linear_table.specs.Plans.{column_count, column_part, cost_of, number_at, price_of, want_at, AreInfeasibilityPrices, IsPlan}
use Rattle.linear_table.specs.System.{sum_below}
use Rattle.linear_table.specs.declared.Linear.{Linear}
use Rattle.linear_table.specs.declared.LinearColumn.{LinearColumn}
use Rattle.linear_table.specs.declared.Plan.{Plan}
use Rattle.linear_table.proofs.Duality.{no_plan, no_plan_costs_less}
use Rattle.linear_table.proofs.Sums.{sum_zero}
use Rattle.table_rows.specs.Columns.{column_of}
use Rattle.production_table.specs.declared.tables.Table.{Table}
use Rattle.production_table.specs.declared.tables.TableRow.{TableRow}
use Rattle.production_table.specs.Linear.{columns_of, few_enough, import_column, linear_of, linear_with, of_row, row_columns, surplus_column, table_goods, want_of}
use Rattle.production_table.specs.Tables.{GoodsRise}
use Rattle.production_table.proofs.Columns.{through}
use Rattle.production_table.proofs.Places.{has_low, spot, Has}
use Rattle.production_table.proofs.WellFormed.{ordered, IsOrdered}
use Rattle.production_laws.specs.Balance.{imported, left_over, priced, row_amount, row_price, table_cost, weighted, GoodBalance, IsTablePlan}
use Rattle.production_laws.proofs.Whole.{count_rows, few_is, good_balances, sums_at, wanted_at}

-- ---- each place of rising goods is that of a good
here : (x n : ℕ) (b : Bool) → (x == x) ≡ b → ◌≡◌ {A = ℕ} (cond b 0 (suc n)) 0
here x n true h = refl
here x n false h = absurd (grind (arith, nat_tests))

behind : (m n : ℕ) (b : Bool) → b ≡ false → m ≡ n → ◌≡◌ {A = ℕ} (cond b 0 (suc m)) (suc n)
behind m n true h e = absurd (cc)
behind m n false h e = ap suc e

pub record IsAt (goods : List GoodId) (s : ℕ) : Type 0 where
  pub good : GoodId
  pub has : Has goods good.0
  pub spot_is : spot good.0 goods ≡ s

pub good_at : (low : ℕ) (goods : List GoodId) (s : ℕ) → GoodsRise low goods → s < length goods → IsAt goods s
good_at low [] s rise within = absurd (omega arith)
good_at low (g ∷ goods) zero rise within = record { good = g; has = inl refl; spot_is = here g.0 (spot g.0 goods) (g.0 == g.0) refl }
good_at low (g ∷ goods) (suc s) rise within =
    let rest : IsAt goods s = good_at (g.0 + 1) goods s rise.1 (omega arith) in
    let above : g.0 + 1 ≤ rest.good.0 = has_low (g.0 + 1) goods rest.good.0 rise.1 rest.has in
    record { good = rest.good; has = inr rest.has; spot_is = behind (spot rest.good.0 goods) s (g.0 == rest.good.0) (grind (arith, nat_tests)) rest.spot_is }

-- ---- how many columns
lengths : (a b c n i s : ℕ) → a ≡ n → b ≡ i → c ≡ s → a + (b + c) ≡ n + (i + s)
lengths a b c n i s p q r = omega arith

count_columns : (g : Game) (t : Table) (goods : List GoodId) (columns : List (List (GoodId × Fraction))) → columns_of g t.power t.rows ≡ Ok columns
    → column_count (linear_with t goods columns) ≡ length t.rows + (length t.imports + length t.surpluses)
count_columns g t goods columns e =
    let rows : List LinearColumn = row_columns goods 0 t.rows columns in
    let ins : List LinearColumn = map (import_column goods) t.imports in
    let outs : List LinearColumn = map (surplus_column goods) t.surpluses in
    length-append rows (ins ++ outs)
    ∙ ap (λ (n : ℕ). length rows + n) (length-append ins outs)
    ∙ lengths (length rows) (length ins) (length outs) (length t.rows) (length t.imports) (length t.surpluses) (count_rows g t.power goods 0 t.rows columns e) (length-map t.imports (import_column goods)) (length-map t.surpluses (surplus_column goods))

-- ---- balances lead back to a plan
moved_back : (rows imports surpluses want : Fraction) → rows +ʳ imports ≡ want +ʳ surpluses → rows +ʳ (imports +ʳ negated surpluses) ≡ want
moved_back rows imports surpluses want h =
    same_amount (atom rows ⊞ (atom imports ⊞ opposite (atom surpluses))) ((atom rows ⊞ atom imports) ⊞ opposite (atom surpluses)) (omega arith)
    ∙ ap (λ (x : Fraction). x +ʳ negated surpluses) h
    ∙ same_amount ((atom want ⊞ atom surpluses) ⊞ opposite (atom surpluses)) (atom want) (omega arith)

balanced : (g : Game) (t : Table) (goods : List GoodId) (columns : List (List (GoodId × Fraction))) (rates : List Fraction) → columns_of g t.power t.rows ≡ Ok columns → IsOrdered t goods columns → IsTablePlan g t rates
    → (s : ℕ) → s < length goods → sum_below (column_count (linear_with t goods columns)) (λ j. column_part (linear_with t goods columns) j s *ʳ number_at rates j) ≡ want_at (linear_with t goods columns) s
balanced g t goods columns rates e o plan s within =
    let l : Linear = linear_with t goods columns in
    let at : IsAt goods s = good_at 0 goods s o.goods_up within in
    let balance : GoodBalance g t rates at.good = plan.balances at.good in
    let here : sum_below (column_count l) (λ j. column_part l j (spot at.good.0 goods) *ʳ number_at rates j) ≡ want_at l (spot at.good.0 goods) =
    sums_at g t goods columns rates at.good e o at.has
    ∙ moved_back (weighted (row_amount g t.power at.good) t.rows rates) (imported t rates at.good) (left_over t rates at.good) (want_of t.wants at.good) balance
    ∙ sym (wanted_at t goods columns at.good at.has) in
    subst (λ (k : ℕ). sum_below (column_count l) (λ j. column_part l j k *ʳ number_at rates j) ≡ want_at l k) at.spot_is here

-- ---- what columns cost
abbrev column_costs : List LinearColumn → List Fraction → Fraction
column_costs [] rates = zero_fraction
column_costs (c ∷ cs) [] = zero_fraction
column_costs (c ∷ cs) (rate ∷ rates) = rate *ʳ c.price +ʳ column_costs cs rates

sum_shift : (n : ℕ) (f : ℕ → Fraction) → sum_below (suc n) f ≡ f 0 +ʳ sum_below n (λ j. f (suc j))
sum_shift zero f = +ʳ_comm zero_fraction (f 0)
sum_shift (suc n) f = ap (λ k. k +ʳ f (suc n)) (sum_shift n f) ∙ +ʳ_assoc (f 0) (sum_below n (λ j. f (suc j))) (f (suc n))

costs_are : (cs : List LinearColumn) (rates : List Fraction) → sum_below (length cs) (λ j. number_at rates j *ʳ price_of (slice_get cs j)) ≡ column_costs cs rates
costs_are [] rates = refl
costs_are (c ∷ cs) [] = sum_zero (suc (length cs)) (λ j. number_at [] j *ʳ price_of (slice_get (c ∷ cs) j)) (λ j h. zero-*ʳ (price_of (slice_get (c ∷ cs) j)))
costs_are (c ∷ cs) (rate ∷ rates) = sum_shift (length cs) (λ j. number_at (rate ∷ rates) j *ʳ price_of (slice_get (c ∷ cs) j)) ∙ ap (λ k. rate *ʳ c.price +ʳ k) (costs_are cs rates)

no_costs : (cs : List LinearColumn) → column_costs cs [] ≡ zero_fraction
no_costs [] = refl
no_costs (c ∷ cs) = refl

costs_append : (a b : List LinearColumn) (rates : List Fraction) → column_costs (a ++ b) rates ≡ column_costs a rates +ʳ column_costs b (drop (length a) rates)
costs_append [] b rates = sym (zero-+ʳ (column_costs b rates))
costs_append (c ∷ a) b [] =
    sym (ap (λ (r : List Fraction). zero_fraction +ʳ column_costs b r) (drop-nil (suc (length a))) ∙ ap (λ k. zero_fraction +ʳ k) (no_costs b) ∙ zero-+ʳ zero_fraction)
costs_append (c ∷ a) b (rate ∷ rates) = ap (λ k. rate *ʳ c.price +ʳ k) (costs_append a b rates) ∙ sym (+ʳ_assoc (rate *ʳ c.price) (column_costs a rates) (column_costs b (drop (length a) rates)))

row_costs : (g : Game) (power : Bool) (goods : List GoodId) (first : ℕ) (rows : List TableRow) (columns : List (List (GoodId × Fraction))) (rates : List Fraction) → columns_of g power rows ≡ Ok columns
    → column_costs (row_columns goods first rows columns) rates ≡ weighted row_price rows rates
unfolding columns_of row_columns
row_costs g power goods first [] columns rates e = refl
row_costs g power goods first (row ∷ rows) columns rates e =
    let one = through (of_row row (column_of g power row.setup)) (λ column. columns_of g power rows ▸ λ columns. Ok (column ∷ columns)) columns e in
    let two = through (columns_of g power rows) (λ rest. Ok (one.0 ∷ rest)) columns one.2 in
    let last : Ok (one.0 ∷ two.0) ≡ Ok columns = two.2 in
    let same : one.0 ∷ two.0 ≡ columns = cc in
    subst (λ (cs : List (List (GoodId × Fraction))). column_costs (row_columns goods first (row ∷ rows) cs) rates ≡ weighted row_price (row ∷ rows) rates) same (by_rates rates two.0 (λ rest. row_costs g power goods (first + 1) rows two.0 rest two.1) one.0)
  where
    by_rates : (some : List Fraction) (others : List (List (GoodId × Fraction))) → ((rest : List Fraction) → column_costs (row_columns goods (first + 1) rows others) rest ≡ weighted row_price rows rest) → (column : List (GoodId × Fraction))
        → column_costs (row_columns goods first (row ∷ rows) (column ∷ others)) some ≡ weighted row_price (row ∷ rows) some
    by_rates [] others more column = refl
    by_rates (rate ∷ rest) others more column = ap (λ (x : Fraction). x +ʳ column_costs (row_columns goods (first + 1) rows others) rest) (*ʳ_comm rate row.price) ∙ ap (λ (x : Fraction). row.price *ʳ rate +ʳ x) (more rest)

import_costs : (goods : List GoodId) (pairs : List (GoodId × Fraction)) (rates : List Fraction) → column_costs (map (import_column goods) pairs) rates ≡ priced pairs rates
import_costs goods [] rates = refl
import_costs goods (pair ∷ pairs) [] = refl
import_costs goods (pair ∷ pairs) (rate ∷ rates) = ap (λ (x : Fraction). rate *ʳ pair.1 +ʳ x) (import_costs goods pairs rates)

surplus_costs : (goods : List GoodId) (pairs : List (GoodId × Fraction)) (rates : List Fraction) → column_costs (map (surplus_column goods) pairs) rates ≡ priced pairs rates
surplus_costs goods [] rates = refl
surplus_costs goods (pair ∷ pairs) [] = refl
surplus_costs goods (pair ∷ pairs) (rate ∷ rates) = ap (λ (x : Fraction). rate *ʳ pair.1 +ʳ x) (surplus_costs goods pairs rates)

cost_with : (g : Game) (t : Table) (goods : List GoodId) (columns : List (List (GoodId × Fraction))) (rates : List Fraction) → columns_of g t.power t.rows ≡ Ok columns → cost_of (linear_with t goods columns) rates ≡ table_cost t rates
cost_with g t goods columns rates e =
    let rows : List LinearColumn = row_columns goods 0 t.rows columns in
    let ins : List LinearColumn = map (import_column goods) t.imports in
    let outs : List LinearColumn = map (surplus_column goods) t.surpluses in
    let rows_are : column_costs rows rates ≡ weighted row_price t.rows rates = row_costs g t.power goods 0 t.rows columns rates e in
    let counted : length rows ≡ length t.rows = count_rows g t.power goods 0 t.rows columns e in
    let ins_are : column_costs ins (drop (length rows) rates) ≡ priced t.imports (drop (length t.rows) rates) =
    import_costs goods t.imports (drop (length rows) rates) ∙ ap (λ (n : ℕ). priced t.imports (drop n rates)) counted in
    let outs_are : column_costs outs (drop (length ins) (drop (length rows) rates)) ≡ priced t.surpluses (drop (length t.imports) (drop (length t.rows) rates)) =
    surplus_costs goods t.surpluses (drop (length ins) (drop (length rows) rates))
    ∙ ap (λ (n : ℕ). priced t.surpluses (drop n (drop (length rows) rates))) (length-map t.imports (import_column goods))
    ∙ ap (λ (n : ℕ). priced t.surpluses (drop (length t.imports) (drop n rates))) counted in
    costs_are (rows ++ (ins ++ outs)) rates
    ∙ costs_append rows (ins ++ outs) rates
    ∙ ap (λ (x : Fraction). column_costs rows rates +ʳ x) (costs_append ins outs (drop (length rows) rates))
    ∙ ap (λ (x : Fraction). x +ʳ (column_costs ins (drop (length rows) rates) +ʳ column_costs outs (drop (length ins) (drop (length rows) rates)))) rows_are
    ∙ ap (λ (x : Fraction). weighted row_price t.rows rates +ʳ (x +ʳ column_costs outs (drop (length ins) (drop (length rows) rates)))) ins_are
    ∙ ap (λ (x : Fraction). weighted row_price t.rows rates +ʳ (priced t.imports (drop (length t.rows) rates) +ʳ x)) outs_are

-- ---- of the form that a table has
record Made (g : Game) (t : Table) (l : Linear) : Type 0 where
  columns : List (List (GoodId × Fraction))
  columns_are : columns_of g t.power t.rows ≡ Ok columns
  form_is : linear_with t (table_goods t columns) columns ≡ l

made : (g : Game) (t : Table) (l : Linear) → linear_of g t ≡ Ok l → Made g t l
unfolding linear_of
made g t l e =
    let it = through (columns_of g t.power t.rows) (λ columns. few_enough t columns (table_goods t columns)) l e in
    record { columns = it.0; columns_are = it.1; form_is = few_is (nat_lt 512 (length (table_goods t it.0))) (linear_with t (table_goods t it.0) it.0) l it.2 }

to_table : (g : Game) (t : Table) (l : Linear) (rates : List Fraction) → linear_of g t ≡ Ok l → IsPlan l rates → IsTablePlan g t rates
to_table g t l rates e plan =
    let m : Made g t l = made g t l e in
    let planned : IsPlan (linear_with t (table_goods t m.columns) m.columns) rates = subst (λ (x : Linear). IsPlan x rates) (sym m.form_is) plan in
    record {
      length_is = planned.length_is ∙ count_columns g t (table_goods t m.columns) m.columns m.columns_are;
      nonneg = plan.nonneg;
      balances = λ good. good_balances g t l rates good e plan;
    }

pub to_form : (g : Game) (t : Table) (l : Linear) (rates : List Fraction) → linear_of g t ≡ Ok l → IsTablePlan g t rates → IsPlan l rates
to_form g t l rates e plan =
    let m : Made g t l = made g t l e in
    let goods : List GoodId = table_goods t m.columns in
    let planned : IsPlan (linear_with t goods m.columns) rates = record {
      length_is = plan.length_is ∙ sym (count_columns g t goods m.columns m.columns_are);
      nonneg = plan.nonneg;
      balances = λ s within. balanced g t goods m.columns rates m.columns_are (ordered g t m.columns m.columns_are) plan s within;
    } in
    subst (λ (x : Linear). IsPlan x rates) m.form_is planned

pub same_plans : (g : Game) (t : Table) (l : Linear) (rates : List Fraction) → linear_of g t ≡ Ok l → IsPlan l rates ↔ IsTablePlan g t rates
same_plans g t l rates e = (to_table g t l rates e, to_form g t l rates e)

pub same_cost : (g : Game) (t : Table) (l : Linear) (rates : List Fraction) → linear_of g t ≡ Ok l → cost_of l rates ≡ table_cost t rates
same_cost g t l rates e =
    let m : Made g t l = made g t l e in
    subst (λ (x : Linear). cost_of x rates ≡ table_cost t rates) m.form_is (cost_with g t (table_goods t m.columns) m.columns rates m.columns_are)

pub least_cost : (g : Game) (t : Table) (l : Linear) (plan : Plan) (rates : List Fraction) → linear_of g t ≡ Ok l → IsPlanned l plan → IsTablePlan g t rates → plan.cost ≤ʳ table_cost t rates
least_cost g t l plan rates e planned other =
    subst (λ (x : Fraction). plan.cost ≤ʳ x) (same_cost g t l rates e) (no_plan_costs_less l plan.prices rates plan.cost planned.2 (to_form g t l rates e other))

pub none_at_all : (g : Game) (t : Table) (l : Linear) (prices rates : List Fraction) → linear_of g t ≡ Ok l → AreInfeasibilityPrices l prices → ¬ IsTablePlan g t rates
none_at_all g t l prices rates e are plan = no_plan l prices rates are (to_form g t l rates e plan)
