-- What a column has of a good, and what the contributions of a row sum to of it.
use Rattle.std.specs.Prelude.{◌==◌, List, [], ◌∷◌, Result, Ok, Err, if◌then◌else◌}
use Rattle.fractions.specs.Fraction.{Fraction, zero_fraction, ◌+ʳ◌}
use Rattle.plan_base.specs.declared.ids.GoodId.{GoodId}
use Rattle.game_types.specs.declared.effects.Wide.{Wide}
use Rattle.production_table.specs.Linear.{or_none}
use Rattle.production_table.specs.Numbers.{number_of}
use Rattle.table_rows.specs.Columns.{Contribution}

-- what one craft a second gives of a good, less what it takes: 0 of a good that the column doesn't mention
abbrev pub amount_in : List (GoodId × Fraction) → GoodId → Fraction
amount_in column good = or_none (number_of column good)

-- a number of one good, as one of another: 0 where they differ
abbrev pub where_same : GoodId → GoodId → Fraction → Fraction
where_same one other number = if one.0 == other.0 then number else zero_fraction

-- a number that is wide counts as 0, as no column comes of it
abbrev pub or_zero : Result Fraction Wide → Fraction
or_zero (Ok number) = number
or_zero (Err wide) = zero_fraction

-- all contributions of a good
abbrev pub share_of : List Contribution → GoodId → Fraction
share_of [] good = zero_fraction
share_of (c ∷ cs) good = where_same c.0 good (or_zero c.1) +ʳ share_of cs good

-- all amounts of a good in a list
abbrev pub total_of : List (GoodId × Fraction) → GoodId → Fraction
total_of [] good = zero_fraction
total_of (p ∷ ps) good = where_same p.0 good p.1 +ʳ total_of ps good
