-- Prices under which nothing of a table gains are least-cost prices of its linear form.
use Rattle.std.proofs.Common.{◌≡◌, ◌∙◌, ◌<◌, ◌≤◌, ◌+◌, ◌++◌, ℕ, zero, suc, List, [], ◌∷◌, length, get_or, refl, sym, ap, subst, arith}
use Rattle.std.specs.Prelude.{map, All, Bool, true, false, ◌==◌, Ok, nat_lt, slice_get, if◌then◌else◌}
use Rattle.std.proofs.lemmas.Bool.Decides.{nat_tests}
use Rattle.std.proofs.lemmas.List.{length-map}
use Rattle.std.proofs.lemmas.List.Elements.{All-head, All-tail}
use Rattle.fractions.specs.Fraction.{Fraction, zero_fraction, one_fraction, negated, ◌+ʳ◌, ◌*ʳ◌, ◌≤ʳ◌}
use Rattle.fractions.specs.Fracs.{atom, nought, unit, ◌⊞◌, ◌⊟◌, ◌⊠◌, opposite, same_amount}
use Rattle.fractions.specs.Signs.{is_zero}
use Rattle.fractions.proofs.Laws.{*ʳ_comm, zero-*ʳ}
use Rattle.fractions.proofs.Order.{le_from_difference, ≤ʳ_trans}
use Rattle.fractions.proofs.SignLemmas.{zero_is}
use Rattle.plan_base.specs.declared.ids.GoodId.{GoodId}
use Rattle.game_types.specs.declared.games.Game.{Game}
use Rattle.game_types.specs.declared.setups.Setup.{Setup}
use Rattle.game_types.specs.Steps.{◌▸◌}
use Rattle.linear_table.specs.Parts.{part_at}
use Rattle.linear_table.specs.Plans.{number_at, parts_of, price_of, want_at, wants_value, AreLeastCostPrices, Rises as PlacesRise}
use Rattle.linear_table.specs.System.{one_at, sum_below}
use Rattle.linear_table.specs.declared.Linear.{Linear}
use Rattle.linear_table.specs.declared.LinearColumn.{LinearColumn}
use Rattle.linear_table.proofs.Duality.{no_plan_costs_less}
use Rattle.linear_table.proofs.Sums.{sum_add, sum_at, sum_cong, sum_zero}
use Rattle.table_rows.specs.Columns.{column_of}
use Rattle.production_table.specs.declared.tables.Table.{Table}
use Rattle.production_table.specs.declared.tables.TableRow.{TableRow}
use Rattle.production_table.specs.Linear.{columns_of, few_enough, import_column, linear_of, linear_with, of_row, parts_at, place_in, row_columns, surplus_column, table_goods, want_of}
use Rattle.production_table.specs.Tables.{GoodsRise, Rises}
use Rattle.production_table.proofs.Columns.{of_row_is, through, EachRises}
use Rattle.production_table.proofs.Places.{parts_places, place_is_spot, spot, spot_get, spot_within, AllIn, EachIn, Has}
use Rattle.production_table.proofs.WellFormed.{ordered, IsOrdered}
use Rattle.production_laws.specs.Balance.{table_cost, IsTablePlan}
use Rattle.production_laws.proofs.Lists.{number_at_map}
use Rattle.production_laws.proofs.Parts.{amount_at}
use Rattle.production_laws.proofs.Plans.{good_at, same_cost, to_form, IsAt}
use Rattle.production_laws.proofs.Whole.{few_is, wants_in}
use Rattle.least_laws.specs.Ways.{worth, ImportGainsNothing, IsRowOfWay, IsTableOfWays, NothingGains, NoWayGains, Prices, RowGainsNothing, SurplusGainsNothing}

-- ---- parts whose places rise, each times a number of its place
abbrev sum_parts : (ℕ → Fraction) → List (ℕ × Fraction) → Fraction
sum_parts f [] = zero_fraction
sum_parts f (p ∷ ps) = p.1 *ʳ f p.0 +ʳ sum_parts f ps

no_part : (k n g : ℕ) (parts : List (ℕ × Fraction)) → PlacesRise k n parts → g < k → part_at parts g ≡ zero_fraction
no_part k n g [] rise h = refl
no_part k n g (p ∷ ps) rise h =
    let first : k ≤ p.0 = rise.0 in
    let apart : (p.0 == g) ≡ false = grind (arith, nat_tests) in
    ap (λ (b : Bool). if b then p.1 else part_at ps g) apart ∙ no_part (suc p.0) n g ps rise.2 (omega arith)

split_part : (place g : ℕ) (x : Fraction) (rest : List (ℕ × Fraction)) (b : Bool) → (place == g) ≡ b → part_at rest place ≡ zero_fraction
    → (if b then x else part_at rest g) ≡ (if b then one_fraction else zero_fraction) *ʳ x +ʳ part_at rest g
split_part place g x rest true e none =
    let same : place ≡ g = grind (arith, nat_tests) in
    same_amount (atom x) (unit ⊠ atom x ⊞ nought) (omega arith) ∙ ap (λ (y : Fraction). one_fraction *ʳ x +ʳ y) (sym none ∙ ap (λ (k : ℕ). part_at rest k) same)
split_part place g x rest false e none = same_amount (atom (part_at rest g)) (nought ⊠ atom x ⊞ atom (part_at rest g)) (omega arith)

spread : (a x r y : Fraction) → (a *ʳ x +ʳ r) *ʳ y ≡ a *ʳ (x *ʳ y) +ʳ r *ʳ y
spread a x r y = same_amount ((atom a ⊠ atom x ⊞ atom r) ⊠ atom y) (atom a ⊠ (atom x ⊠ atom y) ⊞ atom r ⊠ atom y) (omega arith)

parts_sum : (n : ℕ) (f : ℕ → Fraction) (k : ℕ) (parts : List (ℕ × Fraction)) → PlacesRise k n parts → sum_below n (λ g. part_at parts g *ʳ f g) ≡ sum_parts f parts
parts_sum n f k [] rise = sum_zero n (λ g. zero_fraction *ʳ f g) (λ g h. zero-*ʳ (f g))
parts_sum n f k (p ∷ ps) rise =
    sum_cong n (λ g. part_at (p ∷ ps) g *ʳ f g) (λ g. one_at p.0 g *ʳ (p.1 *ʳ f g) +ʳ part_at ps g *ʳ f g)
    (λ g h. ap (λ (y : Fraction). y *ʳ f g) (split_part p.0 g p.1 ps (p.0 == g) refl (no_part (suc p.0) n p.0 ps rise.2 (omega arith))) ∙ spread (one_at p.0 g) p.1 (part_at ps g) (f g))
    ∙ sum_add n (λ g. one_at p.0 g *ʳ (p.1 *ʳ f g)) (λ g. part_at ps g *ʳ f g)
    ∙ ap (λ (y : Fraction). y +ʳ sum_below n (λ g. part_at ps g *ʳ f g)) (sum_at n p.0 (λ g. p.1 *ʳ f g) rise.1)
    ∙ ap (λ (y : Fraction). p.1 *ʳ f p.0 +ʳ y) (parts_sum n f (suc p.0) ps rise.2)

-- ---- what amounts of goods are worth, by the places of the goods
price_at : (prices : Prices) (goods : List GoodId) (good : GoodId) → Has goods good.0 → number_at (map prices goods) (place_in goods good.0) ≡ prices good
price_at prices goods good has =
    ap (λ (k : ℕ). number_at (map prices goods) k) (place_is_spot good.0 goods has) ∙ number_at_map prices goods (spot good.0 goods) good (spot_get good goods has)

worth_cases : (f : ℕ → Fraction) (place : ℕ) (price amount rest : Fraction) (parts : List (ℕ × Fraction)) (b : Bool) → is_zero amount ≡ b → f place ≡ price → sum_parts f parts ≡ rest
    → sum_parts f (if b then parts else (place, amount) ∷ parts) ≡ price *ʳ amount +ʳ rest
worth_cases f place price amount rest parts true e at more =
    more ∙ same_amount (atom rest) (atom price ⊠ nought ⊞ atom rest) (omega arith) ∙ ap (λ (y : Fraction). price *ʳ y +ʳ rest) (sym (zero_is amount e))
worth_cases f place price amount rest parts false e at more =
    ap (λ (y : Fraction). amount *ʳ y +ʳ sum_parts f parts) at ∙ ap (λ (y : Fraction). amount *ʳ price +ʳ y) more ∙ ap (λ (y : Fraction). y +ʳ rest) (*ʳ_comm amount price)

parts_worth : (prices : Prices) (goods : List GoodId) (column : List (GoodId × Fraction)) → AllIn goods column → sum_parts (λ k. number_at (map prices goods) k) (parts_at goods column) ≡ worth prices column
unfolding parts_at
parts_worth prices goods [] each = refl
parts_worth prices goods (p ∷ ps) each =
    worth_cases (λ k. number_at (map prices goods) k) (place_in goods p.0.0) (prices p.0) p.1 (worth prices ps) (parts_at goods ps) (is_zero p.1) refl (price_at prices goods p.0 each.0) (parts_worth prices goods ps each.1)

-- what parts are worth at the prices of the goods at their places
abbrev value : Prices → List GoodId → List (ℕ × Fraction) → Fraction
value prices goods parts = sum_below (length goods) (λ g. part_at parts g *ʳ number_at (map prices goods) g)

column_value : (prices : Prices) (goods : List GoodId) (column : List (GoodId × Fraction)) → GoodsRise 0 goods → Rises 0 column → AllIn goods column → value prices goods (parts_at goods column) ≡ worth prices column
column_value prices goods column up rise each =
    parts_sum (length goods) (λ k. number_at (map prices goods) k) 0 (parts_at goods column) (parts_places goods 0 0 column up rise each (λ x h has. omega arith)) ∙ parts_worth prices goods column each

one_value : (prices : Prices) (goods : List GoodId) (good : GoodId) (x : Fraction) → Has goods good.0 → value prices goods ((place_in goods good.0, x) ∷ []) ≡ x *ʳ prices good
one_value prices goods good x has =
    let at : place_in goods good.0 ≡ spot good.0 goods = place_is_spot good.0 goods has in
    let inside : spot good.0 goods < length goods = spot_within good.0 goods has in
    parts_sum (length goods) (λ k. number_at (map prices goods) k) 0 ((place_in goods good.0, x) ∷ []) (omega arith, omega arith, tt)
    ∙ ap (λ (y : Fraction). x *ʳ y +ʳ zero_fraction) (price_at prices goods good has)
    ∙ same_amount (atom x ⊠ atom (prices good) ⊞ nought) (atom x ⊠ atom (prices good)) (omega arith)

-- ---- no column gains
abbrev NoneGains : Prices → List GoodId → List LinearColumn → Type 0
NoneGains prices goods [] = Unit {0}
NoneGains prices goods (c ∷ cs) = (value prices goods c.parts ≤ʳ c.price) × NoneGains prices goods cs

none_gains : (prices : Prices) (goods : List GoodId) (cs ds : List LinearColumn) → NoneGains prices goods cs → NoneGains prices goods ds → NoneGains prices goods (cs ++ ds)
none_gains prices goods [] ds h k = k
none_gains prices goods (c ∷ cs) ds h k = (h.0, none_gains prices goods cs ds h.1 k)

gains_at : (prices : Prices) (goods : List GoodId) (cs : List LinearColumn) (j : ℕ) → NoneGains prices goods cs → j < length cs → value prices goods (parts_of (slice_get cs j)) ≤ʳ price_of (slice_get cs j)
gains_at prices goods [] j h within = absurd (omega arith)
gains_at prices goods (c ∷ cs) zero h within = h.0
gains_at prices goods (c ∷ cs) (suc j) h within = gains_at prices goods cs j h.1 (omega arith)

rows_gain : (g : Game) (power : Bool) (prices : Prices) (goods : List GoodId) (first : ℕ) (rows : List TableRow) (columns : List (List (GoodId × Fraction))) → columns_of g power rows ≡ Ok columns
    → GoodsRise 0 goods → EachRises columns → EachIn goods columns → All (RowGainsNothing g power prices) rows → NoneGains prices goods (row_columns goods first rows columns)
unfolding columns_of row_columns
rows_gain g power prices goods first [] columns e up rise each are = tt
rows_gain g power prices goods first (row ∷ rows) columns e up rise each are =
    let one = through (of_row row (column_of g power row.setup)) (λ column. columns_of g power rows ▸ λ columns. Ok (column ∷ columns)) columns e in
    let two = through (columns_of g power rows) (λ rest. Ok (one.0 ∷ rest)) columns one.2 in
    let last : Ok (one.0 ∷ two.0) ≡ Ok columns = two.2 in
    let same : one.0 ∷ two.0 ≡ columns = cc in
    let is : column_of g power row.setup ≡ Ok one.0 = of_row_is row (column_of g power row.setup) one.0 one.1 in
    let rises : EachRises (one.0 ∷ two.0) = subst EachRises (sym same) rise in
    let there : EachIn goods (one.0 ∷ two.0) = subst (EachIn goods) (sym same) each in
    let fair : worth prices one.0 ≤ʳ row.price = All-head (RowGainsNothing g power prices) row rows are one.0 is in
    let gain : value prices goods (parts_at goods one.0) ≤ʳ row.price = subst (λ (x : Fraction). x ≤ʳ row.price) (sym (column_value prices goods one.0 up rises.0 there.0)) fair in
    subst (λ (cs : List (List (GoodId × Fraction))). NoneGains prices goods (row_columns goods first (row ∷ rows) cs)) same
    (gain, rows_gain g power prices goods (first + 1) rows two.0 two.1 up rises.1 there.1 (All-tail (RowGainsNothing g power prices) row rows are))

imports_gain : (prices : Prices) (goods : List GoodId) (pairs : List (GoodId × Fraction)) → AllIn goods pairs → All (ImportGainsNothing prices) pairs → NoneGains prices goods (map (import_column goods) pairs)
imports_gain prices goods [] each are = tt
imports_gain prices goods (p ∷ ps) each are =
    let is : value prices goods ((place_in goods p.0.0, one_fraction) ∷ []) ≡ prices p.0 = one_value prices goods p.0 one_fraction each.0 ∙ same_amount (unit ⊠ atom (prices p.0)) (atom (prices p.0)) (omega arith) in
    (subst (λ (x : Fraction). x ≤ʳ p.1) (sym is) (All-head (ImportGainsNothing prices) p ps are), imports_gain prices goods ps each.1 (All-tail (ImportGainsNothing prices) p ps are))

across : (x y : Fraction) → zero_fraction ≤ʳ (x +ʳ y) → negated x ≤ʳ y
across x y h = le_from_difference (negated x) y (subst (λ (w : Fraction). zero_fraction ≤ʳ w) (same_amount (atom x ⊞ atom y) (atom y ⊟ opposite (atom x)) (omega arith)) h)

surpluses_gain : (prices : Prices) (goods : List GoodId) (pairs : List (GoodId × Fraction)) → AllIn goods pairs → All (SurplusGainsNothing prices) pairs → NoneGains prices goods (map (surplus_column goods) pairs)
surpluses_gain prices goods [] each are = tt
surpluses_gain prices goods (p ∷ ps) each are =
    let is : value prices goods ((place_in goods p.0.0, negated one_fraction) ∷ []) ≡ negated (prices p.0) =
    one_value prices goods p.0 (negated one_fraction) each.0 ∙ same_amount (opposite unit ⊠ atom (prices p.0)) (opposite (atom (prices p.0))) (omega arith) in
    (subst (λ (x : Fraction). x ≤ʳ p.1) (sym is) (across (prices p.0) p.1 (All-head (SurplusGainsNothing prices) p ps are)), surpluses_gain prices goods ps each.1 (All-tail (SurplusGainsNothing prices) p ps are))

-- ---- what the wants are worth
want_is : (wants : List (GoodId × Fraction)) (goods : List GoodId) (s : ℕ) → GoodsRise 0 goods → Rises 0 wants → AllIn goods wants → s < length goods → number_at (map (want_of wants) goods) s ≡ part_at (parts_at goods wants) s
unfolding want_of
want_is wants goods s up rise each within =
    let at : IsAt goods s = good_at 0 goods s up within in
    subst (λ (k : ℕ). number_at (map (want_of wants) goods) k ≡ part_at (parts_at goods wants) k) at.spot_is
    (number_at_map (want_of wants) goods (spot at.good.0 goods) at.good (spot_get at.good goods at.has) ∙ sym (amount_at goods 0 wants at.good rise each at.has))

wants_worth : (prices : Prices) (t : Table) (goods : List GoodId) (columns : List (List (GoodId × Fraction))) → GoodsRise 0 goods → Rises 0 t.wants → AllIn goods t.wants
    → wants_value (linear_with t goods columns) (map prices goods) ≡ worth prices t.wants
wants_worth prices t goods columns up rise each =
    sum_cong (length goods) (λ s. want_at (linear_with t goods columns) s *ʳ number_at (map prices goods) s) (λ s. part_at (parts_at goods t.wants) s *ʳ number_at (map prices goods) s)
    (λ s h. ap (λ (x : Fraction). x *ʳ number_at (map prices goods) s) (want_is t.wants goods s up rise each h))
    ∙ column_value prices goods t.wants up rise each

-- ---- the whole
least_prices : (g : Game) (t : Table) (columns : List (List (GoodId × Fraction))) (prices : Prices) → columns_of g t.power t.rows ≡ Ok columns → Rises 0 t.wants → NothingGains g prices t
    → AreLeastCostPrices (linear_with t (table_goods t columns) columns) (map prices (table_goods t columns)) (worth prices t.wants)
least_prices g t columns prices e rise none =
    let goods : List GoodId = table_goods t columns in
    let o : IsOrdered t goods columns = ordered g t columns e in
    let rows : List LinearColumn = row_columns goods 0 t.rows columns in
    let ins : List LinearColumn = map (import_column goods) t.imports in
    let outs : List LinearColumn = map (surplus_column goods) t.surpluses in
    let all : NoneGains prices goods (rows ++ (ins ++ outs)) =
    none_gains prices goods rows (ins ++ outs) (rows_gain g t.power prices goods 0 t.rows columns e o.goods_up o.columns_up o.columns_in none.rows)
    (none_gains prices goods ins outs (imports_gain prices goods t.imports o.imports_in none.imports) (surpluses_gain prices goods t.surpluses o.surpluses_in none.surpluses)) in
    record {
      length_is = length-map goods prices;
      no_gain = λ j within. gains_at prices goods (rows ++ (ins ++ outs)) j all within;
      same_value = wants_worth prices t goods columns o.goods_up rise (wants_in t columns);
    }

pub costs_enough : (g : Game) (t : Table) (l : Linear) (rates : List Fraction) (prices : Prices) → linear_of g t ≡ Ok l → Rises 0 t.wants → NothingGains g prices t → IsTablePlan g t rates
    → worth prices t.wants ≤ʳ table_cost t rates
unfolding linear_of
costs_enough g t l rates prices e rise none plan =
    let made = through (columns_of g t.power t.rows) (λ columns. few_enough t columns (table_goods t columns)) l e in
    let goods : List GoodId = table_goods t made.0 in
    let same : linear_with t goods made.0 ≡ l = few_is (nat_lt 512 (length goods)) (linear_with t goods made.0) l made.2 in
    let least : AreLeastCostPrices l (map prices goods) (worth prices t.wants) =
    subst (λ (x : Linear). AreLeastCostPrices x (map prices goods) (worth prices t.wants)) same (least_prices g t made.0 prices made.1 rise none) in
    subst (λ (x : Fraction). worth prices t.wants ≤ʳ x) (same_cost g t l rates e) (no_plan_costs_less l (map prices goods) rates (worth prices t.wants) least (to_form g t l rates e plan))

-- ---- tables of ways
row_of_way : (g : Game) (power : Bool) (ways : Setup → Type 0) (costs : Setup → Fraction) (prices : Prices) (row : TableRow) → NoWayGains g power ways costs prices → IsRowOfWay ways costs row → RowGainsNothing g power prices row
row_of_way g power ways costs prices row none is column made = ≤ʳ_trans (worth prices column) (costs row.setup) row.price (none row.setup is.0 column made) is.1

nothing_gains : (g : Game) (t : Table) (ways : Setup → Type 0) (costs : Setup → Fraction) (prices : Prices) → NoWayGains g t.power ways costs prices → IsTableOfWays ways costs prices t → NothingGains g prices t
nothing_gains g t ways costs prices none are = record {
  rows = λ k d within. row_of_way g t.power ways costs prices (get_or t.rows k d) none (are.rows k d within);
  imports = are.imports;
  surpluses = are.surpluses;
}

pub ways_cost_enough : (g : Game) (t : Table) (l : Linear) (rates : List Fraction) (ways : Setup → Type 0) (costs : Setup → Fraction) (prices : Prices) → linear_of g t ≡ Ok l → Rises 0 t.wants
    → NoWayGains g t.power ways costs prices → IsTableOfWays ways costs prices t → IsTablePlan g t rates → worth prices t.wants ≤ʳ table_cost t rates
ways_cost_enough g t l rates ways costs prices e rise none are plan = costs_enough g t l rates prices e rise (nothing_gains g t ways costs prices none are) plan

pub costs_least : (g : Game) (best t : Table) (l : Linear) (best_rates rates : List Fraction) (ways : Setup → Type 0) (costs : Setup → Fraction) (prices : Prices) → linear_of g t ≡ Ok l → Rises 0 t.wants
    → NoWayGains g t.power ways costs prices → IsTableOfWays ways costs prices t → IsTablePlan g t rates → worth prices best.wants ≡ worth prices t.wants → table_cost best best_rates ≡ worth prices best.wants
    → table_cost best best_rates ≤ʳ table_cost t rates
costs_least g best t l best_rates rates ways costs prices e rise none are plan same exact =
    subst (λ (x : Fraction). x ≤ʳ table_cost t rates) (sym (exact ∙ same)) (ways_cost_enough g t l rates ways costs prices e rise none are plan)
