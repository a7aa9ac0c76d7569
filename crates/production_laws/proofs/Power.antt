-- Power and research balance in every plan.
use Rattle.std.proofs.Common.{◌≡◌, ◌∙◌, ◌<◌, ◌≤◌, List, [], ◌∷◌, refl, sym, ap, subst, arith}
use Rattle.std.specs.Prelude.{All, Bool, true, false, ◌==◌, Result, Ok, if◌then◌else◌}
use Rattle.std.proofs.lemmas.Bool.Decides.{nat_tests}
use Rattle.std.proofs.lemmas.List.Elements.{All-head, All-tail}
use Rattle.fractions.specs.Fraction.{Fraction, zero_fraction, one_fraction, negated, ◌+ʳ◌, ◌*ʳ◌}
use Rattle.fractions.specs.Fracs.{atom, nought, ◌⊞◌, ◌⊠◌, opposite, same_amount}
use Rattle.plan_base.specs.declared.ids.GoodId.{GoodId}
use Rattle.plan_base.specs.declared.ids.TechId.{TechId}
use Rattle.game_types.specs.declared.effects.Wide.{Wide}
use Rattle.game_types.specs.declared.games.Game.{Game}
use Rattle.game_types.specs.declared.setups.Activity.{Activity}
use Rattle.game_types.specs.declared.setups.Activity.TheVariants.{Craft, Mine, Pump, Generate, Boil, Research}
use Rattle.game_types.specs.declared.setups.Setup.{Setup}
use Rattle.game_types.specs.Goods.{electricity, solid_and_fluid, units_good}
use Rattle.game_types.specs.Sound.{IsSound}
use Rattle.game_types.specs.Steps.{◌▸◌}
use Rattle.linear_table.specs.Plans.{IsPlan}
use Rattle.linear_table.specs.declared.Linear.{Linear}
use Rattle.table_rows.specs.declared.rates.RowRates.{RowRates}
use Rattle.table_rows.specs.Columns.{column_of, row_rates_of}
use Rattle.table_rows.specs.Setups.{IsFitting}
use Rattle.production_table.specs.declared.tables.Table.{Table}
use Rattle.production_table.specs.declared.tables.TableRow.{TableRow}
use Rattle.production_table.specs.Linear.{columns_of, few_enough, linear_of, of_row, table_goods, want_of}
use Rattle.production_table.proofs.Columns.{of_row_is, through}
use Rattle.production_laws.specs.Amounts.{amount_in, where_same}
use Rattle.production_laws.specs.Balance.{column_amount, drawn, generated, imported, joules, left_over, row_amount, units_by, units_given, units_of, weighted, PowerBalance, ResearchBalance}
use Rattle.production_laws.proofs.Activities.{beyond, beyond_share}
use Rattle.production_laws.proofs.Shares.{other_amounts, power_amount, rates_there, where_apart, where_equal}
use Rattle.production_laws.proofs.Whole.{good_balances}

-- ---- rows weighted
same_weights : (g : Game) (power : Bool) (good : GoodId) (of : TableRow → Fraction) (rows : List TableRow) (columns : List (List (GoodId × Fraction))) (rates : List Fraction)
    → All (λ row. IsFitting g row.setup) rows → columns_of g power rows ≡ Ok columns
    → ((row : TableRow) (column : List (GoodId × Fraction)) → IsFitting g row.setup → column_of g power row.setup ≡ Ok column → amount_in column good ≡ of row)
    → weighted (row_amount g power good) rows rates ≡ weighted of rows rates
unfolding columns_of
same_weights g power good of [] columns rates fitting e same = refl
same_weights g power good of (row ∷ rows) columns rates fitting e same =
    let one = through (of_row row (column_of g power row.setup)) (λ column. columns_of g power rows ▸ λ columns. Ok (column ∷ columns)) columns e in
    let two = through (columns_of g power rows) (λ rest. Ok (one.0 ∷ rest)) columns one.2 in
    let is : column_of g power row.setup ≡ Ok one.0 = of_row_is row (column_of g power row.setup) one.0 one.1 in
    let first : row_amount g power good row ≡ of row =
    ap (λ (r : Result (List (GoodId × Fraction)) Wide). column_amount r good) is ∙ same row one.0 (All-head (λ (r : TableRow). IsFitting g r.setup) row rows fitting) is in
    by_rates g power good of row rows rates first (λ rest. same_weights g power good of rows two.0 rest (All-tail (λ (r : TableRow). IsFitting g r.setup) row rows fitting) two.1 same)
  where
    by_rates : (g : Game) (power : Bool) (good : GoodId) (of : TableRow → Fraction) (row : TableRow) (rows : List TableRow) (rates : List Fraction) → row_amount g power good row ≡ of row
        → ((rest : List Fraction) → weighted (row_amount g power good) rows rest ≡ weighted of rows rest) → weighted (row_amount g power good) (row ∷ rows) rates ≡ weighted of (row ∷ rows) rates
    by_rates g power good of row rows [] first more = refl
    by_rates g power good of row rows (rate ∷ rates) first more =
        ap (λ (x : Fraction). x *ʳ rate +ʳ weighted (row_amount g power good) rows rates) first ∙ ap (λ (x : Fraction). of row *ʳ rate +ʳ x) (more rates)

split_step : (a b rate x y z : Fraction) → x +ʳ y ≡ z → (a +ʳ negated b) *ʳ rate +ʳ x +ʳ (b *ʳ rate +ʳ y) ≡ a *ʳ rate +ʳ z
split_step a b rate x y z h =
    same_amount ((atom a ⊞ opposite (atom b)) ⊠ atom rate ⊞ atom x ⊞ (atom b ⊠ atom rate ⊞ atom y)) (atom a ⊠ atom rate ⊞ (atom x ⊞ atom y)) (omega arith)
    ∙ ap (λ (k : Fraction). a *ʳ rate +ʳ k) h

split_weights : (one other : TableRow → Fraction) (rows : List TableRow) (rates : List Fraction) → weighted (λ row. one row +ʳ negated (other row)) rows rates +ʳ weighted other rows rates ≡ weighted one rows rates
split_weights one other [] rates = same_amount (nought ⊞ nought) nought (omega arith)
split_weights one other (row ∷ rows) [] = same_amount (nought ⊞ nought) nought (omega arith)
split_weights one other (row ∷ rows) (rate ∷ rates) =
    split_step (one row) (other row) rate (weighted (λ row. one row +ʳ negated (other row)) rows rates) (weighted other rows rates) (weighted one rows rates) (split_weights one other rows rates)

columns_there : (g : Game) (t : Table) (l : Linear) → linear_of g t ≡ Ok l → (columns : List (List (GoodId × Fraction))) × (columns_of g t.power t.rows ≡ Ok columns)
unfolding linear_of
columns_there g t l e = let made = through (columns_of g t.power t.rows) (λ columns. few_enough t columns (table_goods t columns)) l e in (made.0, made.1)

-- ---- electricity
pub solid_is : (g : Game) → solid_and_fluid g ≤ (electricity g).0
unfolding electricity
solid_is g = omega arith

pub units_above : (g : Game) (tech : TechId) → (electricity g).0 < (units_good g tech).0
unfolding electricity units_good
units_above g tech = omega arith

joules_are : (g : Game) (row : RowRates) (activity : Activity) → beyond g row (electricity g) activity ≡ joules activity
joules_are g row Generate = where_equal (electricity g) (electricity g) one_fraction refl
joules_are g row (Research tech) = where_apart (units_good g tech) (electricity g) row.units (λ e. let up = units_above g tech in omega arith)
joules_are g row (Craft recipe) = refl
joules_are g row (Mine source) = refl
joules_are g row (Pump good) = refl
joules_are g row (Boil good) = refl

row_power : (g : Game) (row : TableRow) (column : List (GoodId × Fraction)) → IsSound g → IsFitting g row.setup → column_of g true row.setup ≡ Ok column → amount_in column (electricity g) ≡ generated row +ʳ negated (drawn g row)
row_power g row column sound fits e =
    let rates = rates_there g true row.setup column e in
    power_amount g row.setup rates.0 column rates.1 e
    ∙ ap (λ (x : Fraction). x +ʳ negated (drawn g row)) (beyond_share g row.setup rates.0 (electricity g) sound fits.0 (solid_is g) ∙ joules_are g rates.0 row.setup.activity)

balanced : (made drawn net imports want surplus : Fraction) → net +ʳ imports ≡ want +ʳ surplus → net +ʳ drawn ≡ made → made +ʳ imports ≡ drawn +ʳ want +ʳ surplus
balanced made drawn net imports want surplus h k =
    ap (λ (x : Fraction). x +ʳ imports) (sym k)
    ∙ same_amount (atom net ⊞ atom drawn ⊞ atom imports) (atom drawn ⊞ (atom net ⊞ atom imports)) (omega arith)
    ∙ ap (λ (x : Fraction). drawn +ʳ x) h
    ∙ same_amount (atom drawn ⊞ (atom want ⊞ atom surplus)) (atom drawn ⊞ atom want ⊞ atom surplus) (omega arith)

with_power_on : (g : Game) (t : Table) (rates : List Fraction) (columns : List (List (GoodId × Fraction))) → IsSound g → All (λ row. IsFitting g row.setup) t.rows → columns_of g true t.rows ≡ Ok columns
    → weighted (row_amount g true (electricity g)) t.rows rates +ʳ imported t rates (electricity g) ≡ want_of t.wants (electricity g) +ʳ left_over t rates (electricity g) → PowerBalance g t rates
with_power_on g t rates columns sound fitting e balance =
    let net : weighted (row_amount g true (electricity g)) t.rows rates ≡ weighted (λ row. generated row +ʳ negated (drawn g row)) t.rows rates =
    same_weights g true (electricity g) (λ row. generated row +ʳ negated (drawn g row)) t.rows columns rates fitting e (λ row column fits is. row_power g row column sound fits is) in
    balanced (weighted generated t.rows rates) (weighted (drawn g) t.rows rates) (weighted (row_amount g true (electricity g)) t.rows rates) (imported t rates (electricity g)) (want_of t.wants (electricity g))
    (left_over t rates (electricity g)) balance (ap (λ (x : Fraction). x +ʳ weighted (drawn g) t.rows rates) net ∙ split_weights generated (drawn g) t.rows rates)

pub power_balance : (g : Game) (t : Table) (l : Linear) (rates : List Fraction) → IsSound g → All (λ row. IsFitting g row.setup) t.rows → t.power ≡ true → linear_of g t ≡ Ok l → IsPlan l rates → PowerBalance g t rates
power_balance g t l rates sound fitting on e plan =
    let made = columns_there g t l e in
    let columns : columns_of g true t.rows ≡ Ok made.0 = subst (λ (b : Bool). columns_of g b t.rows ≡ Ok made.0) on made.1 in
    with_power_on g t rates made.0 sound fitting columns
    (subst (λ (b : Bool). weighted (row_amount g b (electricity g)) t.rows rates +ʳ imported t rates (electricity g) ≡ want_of t.wants (electricity g) +ʳ left_over t rates (electricity g)) on
    (good_balances g t l rates (electricity g) e plan))

-- ---- technologies
same_units : (g : Game) (other tech : TechId) (units : Fraction) → where_same (units_good g other) (units_good g tech) units ≡ (if other.0 == tech.0 then units else zero_fraction)
unfolding units_good
same_units g other tech units = by_test (other.0 == tech.0) refl
  where
    by_test : (b : Bool) → (other.0 == tech.0) ≡ b → where_same (units_good g other) (units_good g tech) units ≡ (if b then units else zero_fraction)
    by_test true e = where_equal (units_good g other) (units_good g tech) units (let same : other.0 ≡ tech.0 = grind (arith, nat_tests) in omega arith)
    by_test false e = where_apart (units_good g other) (units_good g tech) units (λ h. let same : other.0 ≡ tech.0 = omega arith in grind (arith, nat_tests))

units_are : (g : Game) (setup : Setup) (row : RowRates) (tech : TechId) (activity : Activity) → row_rates_of g setup ≡ Ok row → beyond g row (units_good g tech) activity ≡ units_by g tech setup activity
units_are g setup row tech (Research other) is =
    same_units g other tech row.units ∙ sym (ap (λ (r : Result RowRates Wide). if other.0 == tech.0 then units_given r else zero_fraction) is)
units_are g setup row tech Generate is = where_apart (electricity g) (units_good g tech) one_fraction (λ e. let up = units_above g tech in omega arith)
units_are g setup row tech (Craft recipe) is = refl
units_are g setup row tech (Mine source) is = refl
units_are g setup row tech (Pump good) is = refl
units_are g setup row tech (Boil good) is = refl

row_units : (g : Game) (power : Bool) (tech : TechId) (row : TableRow) (column : List (GoodId × Fraction)) → IsSound g → IsFitting g row.setup → column_of g power row.setup ≡ Ok column → amount_in column (units_good g tech) ≡ units_of g tech row
row_units g power tech row column sound fits e =
    let rates = rates_there g power row.setup column e in
    let up : (electricity g).0 < (units_good g tech).0 = units_above g tech in
    let low : solid_and_fluid g ≤ (electricity g).0 = solid_is g in
    other_amounts g power row.setup rates.0 column (units_good g tech) rates.1 e (λ h. omega arith)
    ∙ beyond_share g row.setup rates.0 (units_good g tech) sound fits.0 (omega arith)
    ∙ units_are g row.setup rates.0 tech row.setup.activity rates.1

pub research_balance : (g : Game) (t : Table) (l : Linear) (rates : List Fraction) (tech : TechId) → IsSound g → All (λ row. IsFitting g row.setup) t.rows → linear_of g t ≡ Ok l → IsPlan l rates → ResearchBalance g t tech rates
research_balance g t l rates tech sound fitting e plan =
    let made = columns_there g t l e in
    ap (λ (x : Fraction). x +ʳ imported t rates (units_good g tech))
    (sym (same_weights g t.power (units_good g tech) (units_of g tech) t.rows made.0 rates fitting made.1 (λ row column fits is. row_units g t.power tech row column sound fits is)))
    ∙ good_balances g t l rates (units_good g tech) e plan
