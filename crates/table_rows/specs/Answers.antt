-- What a call answers that takes memory: what is meant, unless memory could not be had.
use Rattle.std.specs.Prelude.{◌≡◌, List, Result, Ok, Err, Vec}
use Rattle.std.specs.Global.{Global}
use Rattle.fractions.specs.Fraction.{Fraction}
use Rattle.plan_base.specs.declared.ids.GoodId.{GoodId}
use Rattle.game_types.specs.declared.effects.Wide.{Wide}
use Rattle.table_rows.specs.declared.contributions.RowColumn.{RowColumn}
use Rattle.table_rows.specs.declared.faults.RowFault.{RowFault}
use Rattle.table_rows.specs.declared.faults.RowFault.TheVariants.{Wide as WideRow}

-- a column in the making, with what is meant to be added to it
abbrev pub Extends : Result (List (GoodId × Fraction)) Wide → Result (Unit {0}) RowFault → List (GoodId × Fraction) → Type 0
Extends meant (Ok done) new = meant ≡ Ok new
Extends meant (Err fault) new = (wide : Wide) → fault ≡ WideRow wide → meant ≡ Err wide

-- a whole column
abbrev pub GivesColumn : Result (List (GoodId × Fraction)) Wide → Result (Vec (GoodId × Fraction) Global) RowFault → Type 0
GivesColumn meant (Ok column) = meant ≡ Ok column.items
GivesColumn meant (Err fault) = (wide : Wide) → fault ≡ WideRow wide → meant ≡ Err wide

-- a whole column that comes with the figures of its row
abbrev pub GivesRow : Result (List (GoodId × Fraction)) Wide → Result RowColumn RowFault → Type 0
GivesRow meant (Ok row) = meant ≡ Ok row.column.items
GivesRow meant (Err fault) = (wide : Wide) → fault ≡ WideRow wide → meant ≡ Err wide
