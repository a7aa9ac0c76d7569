-- Every good of a table balances in every plan.
use Rattle.std.proofs.Common.{◌≡◌, ◌∙◌, ◌<◌, ◌+◌, ◌++◌, ℕ, suc, List, [], ◌∷◌, length, drop, refl, sym, ap, subst, arith, inl, inr, Result}
use Rattle.std.specs.Prelude.{map, Bool, true, false, Ok, Err, nat_lt, if◌then◌else◌}
use Rattle.std.proofs.lemmas.List.{length-map}
use Rattle.fractions.specs.Fraction.{Fraction, zero_fraction, negated, ◌+ʳ◌, ◌*ʳ◌}
use Rattle.fractions.specs.Fracs.{atom, ◌⊞◌, opposite, same_amount}
use Rattle.plan_base.specs.declared.ids.GoodId.{GoodId}
use Rattle.game_types.specs.declared.games.Game.{Game}
use Rattle.game_types.specs.Steps.{◌▸◌}
use Rattle.linear_table.specs.Plans.{column_count, column_part, number_at, want_at, IsPlan}
use Rattle.linear_table.specs.System.{sum_below}
use Rattle.linear_table.specs.declared.Linear.{Linear}
use Rattle.linear_table.specs.declared.LinearColumn.{LinearColumn}
use Rattle.table_rows.specs.Columns.{column_of}
use Rattle.production_table.specs.declared.faults.TableFault.{TableFault}
use Rattle.production_table.specs.declared.faults.TableFault.TheVariants.{Full}
use Rattle.production_table.specs.declared.tables.Table.{Table}
use Rattle.production_table.specs.declared.tables.TableRow.{TableRow}
use Rattle.production_table.specs.Linear.{columns_of, few_enough, import_column, linear_of, linear_with, of_row, row_columns, surplus_column, table_goods, want_of, with_columns, with_goods}
use Rattle.production_table.proofs.Columns.{through}
use Rattle.production_table.proofs.Places.{all_kept, goods_in, goods_kept, spot, spot_get, spot_within, AllIn, Has}
use Rattle.production_table.proofs.WellFormed.{ordered, IsOrdered}
use Rattle.production_laws.specs.Balance.{imported, left_over, rate_of, row_amount, weighted, GoodBalance}
use Rattle.production_laws.proofs.Lists.{column_sum, column_sum_append, column_sum_is, number_at_map}
use Rattle.production_laws.proofs.Parts.{has_or_not, imports_sum, no_amount, no_rate, no_rows, rows_sum, surpluses_sum}

pub few_is : (b : Bool) (x l : Linear) → ◌≡◌ {A = Result Linear TableFault} (if b then Err Full else Ok x) (Ok l) → x ≡ l
few_is true x l h = absurd (cc)
few_is false x l h = cc

pub count_rows : (g : Game) (power : Bool) (goods : List GoodId) (first : ℕ) (rows : List TableRow) (columns : List (List (GoodId × Fraction))) → columns_of g power rows ≡ Ok columns → length (row_columns goods first rows columns) ≡ length rows
unfolding columns_of row_columns
count_rows g power goods first [] columns e = refl
count_rows g power goods first (row ∷ rows) columns e =
    let one = through (of_row row (column_of g power row.setup)) (λ column. columns_of g power rows ▸ λ columns. Ok (column ∷ columns)) columns e in
    let two = through (columns_of g power rows) (λ rest. Ok (one.0 ∷ rest)) columns one.2 in
    let last : Ok (one.0 ∷ two.0) ≡ Ok columns = two.2 in
    let same : one.0 ∷ two.0 ≡ columns = cc in
    subst (λ (cs : List (List (GoodId × Fraction))). length (row_columns goods first (row ∷ rows) cs) ≡ length (row ∷ rows)) same (ap suc (count_rows g power goods (first + 1) rows two.0 two.1))

pub wants_in : (t : Table) (columns : List (List (GoodId × Fraction))) → AllIn (table_goods t columns) t.wants
wants_in t columns =
    let a : List GoodId = with_columns [] columns in
    let b : List GoodId = with_goods a t.wants in
    let c : List GoodId = with_goods b t.imports in
    let d : List GoodId = with_goods c t.surpluses in
    all_kept b d t.wants (λ x has. goods_kept c t.surpluses x (goods_kept b t.imports x has)) (goods_in a t.wants)

moved : (rows imports surpluses want : Fraction) → rows +ʳ (imports +ʳ negated surpluses) ≡ want → rows +ʳ imports ≡ want +ʳ surpluses
moved rows imports surpluses want h =
    same_amount (atom rows ⊞ atom imports) (atom rows ⊞ (atom imports ⊞ opposite (atom surpluses)) ⊞ atom surpluses) (omega arith) ∙ ap (λ (x : Fraction). x +ʳ surpluses) h

all_nothing : (rows imports surpluses want : Fraction) → rows ≡ zero_fraction → imports ≡ zero_fraction → want ≡ zero_fraction → surpluses ≡ zero_fraction → rows +ʳ imports ≡ want +ʳ surpluses
all_nothing rows imports surpluses want h i w s = ap (λ (x : Fraction). x +ʳ imports) h ∙ ap (λ (x : Fraction). zero_fraction +ʳ x) i ∙ sym (ap (λ (x : Fraction). x +ʳ surpluses) w ∙ ap (λ (x : Fraction). zero_fraction +ʳ x) s)

no_want : (goods : List GoodId) (wants : List (GoodId × Fraction)) (good : GoodId) → AllIn goods wants → (Has goods good.0 → ⊥) → want_of wants good ≡ zero_fraction
unfolding want_of
no_want goods wants good each not = no_amount goods wants good each not

-- what the columns of the form add to the place of a good is what the table's rows and imports give of it, less what goes out
pub sums_at : (g : Game) (t : Table) (goods : List GoodId) (columns : List (List (GoodId × Fraction))) (rates : List Fraction) (good : GoodId) → columns_of g t.power t.rows ≡ Ok columns → IsOrdered t goods columns → Has goods good.0
    → sum_below (column_count (linear_with t goods columns)) (λ j. column_part (linear_with t goods columns) j (spot good.0 goods) *ʳ number_at rates j)
    ≡ weighted (row_amount g t.power good) t.rows rates +ʳ (imported t rates good +ʳ negated (left_over t rates good))
sums_at g t goods columns rates good e o has =
    let s : ℕ = spot good.0 goods in
    let l : Linear = linear_with t goods columns in
    let rows : List LinearColumn = row_columns goods 0 t.rows columns in
    let ins : List LinearColumn = map (import_column goods) t.imports in
    let outs : List LinearColumn = map (surplus_column goods) t.surpluses in
    let counted : length rows ≡ length t.rows = count_rows g t.power goods 0 t.rows columns e in
    let rows_is : column_sum rows rates s ≡ weighted (row_amount g t.power good) t.rows rates = rows_sum g t.power goods 0 t.rows columns rates good e o.columns_up o.columns_in has in
    let ins_is : column_sum ins (drop (length rows) rates) s ≡ imported t rates good =
    imports_sum goods t.imports (drop (length rows) rates) good o.imports_in has ∙ ap (λ (n : ℕ). rate_of t.imports (drop n rates) good) counted in
    let outs_is : column_sum outs (drop (length ins) (drop (length rows) rates)) s ≡ negated (left_over t rates good) =
    surpluses_sum goods t.surpluses (drop (length ins) (drop (length rows) rates)) good o.surpluses_in has
    ∙ ap (λ (n : ℕ). negated (rate_of t.surpluses (drop n (drop (length rows) rates)) good)) (length-map t.imports (import_column goods))
    ∙ ap (λ (n : ℕ). negated (rate_of t.surpluses (drop (length t.imports) (drop n rates)) good)) counted in
    let split : column_sum (rows ++ (ins ++ outs)) rates s ≡ column_sum rows rates s +ʳ (column_sum ins (drop (length rows) rates) s +ʳ column_sum outs (drop (length ins) (drop (length rows) rates)) s) =
    column_sum_append rows (ins ++ outs) rates s ∙ ap (λ (x : Fraction). column_sum rows rates s +ʳ x) (column_sum_append ins outs (drop (length rows) rates) s) in
    column_sum_is l.columns rates s
    ∙ split
    ∙ ap (λ (x : Fraction). x +ʳ (column_sum ins (drop (length rows) rates) s +ʳ column_sum outs (drop (length ins) (drop (length rows) rates)) s)) rows_is
    ∙ ap (λ (x : Fraction). weighted (row_amount g t.power good) t.rows rates +ʳ (x +ʳ column_sum outs (drop (length ins) (drop (length rows) rates)) s)) ins_is
    ∙ ap (λ (x : Fraction). weighted (row_amount g t.power good) t.rows rates +ʳ (imported t rates good +ʳ x)) outs_is

pub wanted_at : (t : Table) (goods : List GoodId) (columns : List (List (GoodId × Fraction))) (good : GoodId) → Has goods good.0 → want_at (linear_with t goods columns) (spot good.0 goods) ≡ want_of t.wants good
wanted_at t goods columns good has = number_at_map (want_of t.wants) goods (spot good.0 goods) good (spot_get good goods has)

-- where the good is mentioned, its place balances
mentioned : (g : Game) (t : Table) (goods : List GoodId) (columns : List (List (GoodId × Fraction))) (rates : List Fraction) (good : GoodId) → columns_of g t.power t.rows ≡ Ok columns → IsOrdered t goods columns
    → IsPlan (linear_with t goods columns) rates → Has goods good.0 → GoodBalance g t rates good
mentioned g t goods columns rates good e o plan has =
    moved (weighted (row_amount g t.power good) t.rows rates) (imported t rates good) (left_over t rates good) (want_of t.wants good)
    (sym (sums_at g t goods columns rates good e o has) ∙ plan.balances (spot good.0 goods) (spot_within good.0 goods has) ∙ wanted_at t goods columns good has)

unmentioned : (g : Game) (t : Table) (goods : List GoodId) (columns : List (List (GoodId × Fraction))) (rates : List Fraction) (good : GoodId) → columns_of g t.power t.rows ≡ Ok columns → IsOrdered t goods columns
    → AllIn goods t.wants → (Has goods good.0 → ⊥) → GoodBalance g t rates good
unmentioned g t goods columns rates good e o wants not =
    all_nothing (weighted (row_amount g t.power good) t.rows rates) (imported t rates good) (left_over t rates good) (want_of t.wants good)
    (no_rows g t.power goods t.rows columns rates good e o.columns_in not)
    (no_rate goods t.imports (drop (length t.rows) rates) good o.imports_in not)
    (no_want goods t.wants good wants not)
    (no_rate goods t.surpluses (drop (length t.imports) (drop (length t.rows) rates)) good o.surpluses_in not)

pub good_balances : (g : Game) (t : Table) (l : Linear) (rates : List Fraction) (good : GoodId) → linear_of g t ≡ Ok l → IsPlan l rates → GoodBalance g t rates good
unfolding linear_of
good_balances g t l rates good e plan =
    let made = through (columns_of g t.power t.rows) (λ columns. few_enough t columns (table_goods t columns)) l e in
    let goods : List GoodId = table_goods t made.0 in
    let same : linear_with t goods made.0 ≡ l = few_is (nat_lt 512 (length goods)) (linear_with t goods made.0) l made.2 in
    let planned : IsPlan (linear_with t goods made.0) rates = subst (λ (x : Linear). IsPlan x rates) (sym same) plan in
    let o : IsOrdered t goods made.0 = ordered g t made.0 made.1 in
    elim (has_or_not goods good.0) [
      | inl has ↦ mentioned g t goods made.0 rates good made.1 o planned has
      | inr not ↦ unmentioned g t goods made.0 rates good made.1 o (wants_in t made.0) not
    ]
