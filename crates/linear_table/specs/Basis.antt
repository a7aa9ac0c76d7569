-- The columns of a linear form with a unit column per good, by places: first the units in the order of goods, then the table's
-- columns in theirs. A unit column is one of its good, at no price.
use Rattle.std.specs.Prelude.{ℕ, ◌-◌, if◌then◌else◌, nat_lt, Option, Some, None, slice_get}
use Rattle.fractions.specs.Fraction.{zero_fraction}
use Rattle.linear_table.specs.System.{System, one_at}
use Rattle.linear_table.specs.Plans.{good_count, column_count, column_part, column_price, want_at}
use Rattle.linear_table.specs.declared.Linear.{Linear}
use Rattle.linear_table.specs.declared.LinearColumn.{LinearColumn}
use Rattle.plan_base.specs.declared.ids.GoodId.{GoodId}
use Rattle.linear_table.specs.declared.Column.{Column}
use Rattle.linear_table.specs.declared.Column.TheVariants.{Unit as UnitOf}

abbrev pub system_of : Linear → System
system_of l =
    record {
      goods = good_count l;
      lines = column_count l;
      part = λ k g. if nat_lt k (good_count l) then one_at k g else column_part l (k - good_count l) g;
      price = λ k. if nat_lt k (good_count l) then zero_fraction else column_price l (k - good_count l);
      want = want_at l;
    }

abbrev pub unit_name : Option GoodId → Option Column
unit_name (Some g) = Some (UnitOf g)
unit_name None = None

abbrev pub table_name : Option LinearColumn → Option Column
table_name (Some c) = Some c.column
table_name None = None

-- the name of the column at a place
abbrev pub name_at : Linear → ℕ → Option Column
name_at l k = if nat_lt k (good_count l) then unit_name (slice_get l.goods k) else table_name (slice_get l.columns (k - good_count l))
