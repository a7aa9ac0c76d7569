use Rattle.std.proofs.Common.{◌≡◌, ◌∙◌, ◌++◌, List, [], ◌∷◌, refl, sym, ap, subst}
use Rattle.std.specs.Prelude.{map, Ok, Err, Result}
use Rattle.fractions.specs.Fraction.{Fraction, negated, one_fraction}
use Rattle.plan_base.specs.declared.ids.GoodId.{GoodId}
use Rattle.game_types.specs.declared.effects.Wide.{Wide}
use Rattle.game_types.specs.declared.recipes.Part.{Part}
use Rattle.game_types.specs.declared.recipes.Product.{Product}
use Rattle.game_types.proofs.Walks.{returned}
use Rattle.table_rows.specs.declared.faults.RowFault.{RowFault}
use Rattle.table_rows.specs.declared.faults.RowFault.TheVariants.{Wide as WideRow}
use Rattle.table_rows.specs.Answers.{Extends}
use Rattle.table_rows.specs.Columns.{activity_parts, burnt_parts, contributed, fuel_parts, given, gives, input_taken, pack_taken, source_fluid, summed, taken, takes, Contribution}
use Rattle.table_rows.proofs.Sums.{handed_on, same_meant, sum_one, then_fault, then_more}
use Rattle.table_rows.proofs.contributions.add_contributions.Goals as goal

pub returns-in_err-add_activity : goal.returns-in_err-add_activity
returns-in_err-add_activity c =
    then_fault c.args.column.now.items (activity_parts c.args.game.now c.args.setup.now c.args.row.now c.args.setup.now.activity) (fuel_parts c.args.game.now c.args.setup.now.fuel c.args.row.now.rates.fuel) c.from_residual.result c.in_err-add_activity.field-0.0 c.add_activity.new.column.items
    (returned c.from_residual.result c.in_err-add_activity.field-0.0 c.from_residual.ensures)
    c.in_err-add_activity.ensures

pub returns : goal.returns
returns c =
    then_more c.args.column.now.items c.add_activity.new.column.items (activity_parts c.args.game.now c.args.setup.now c.args.row.now c.args.setup.now.activity) (fuel_parts c.args.game.now c.args.setup.now.fuel c.args.row.now.rates.fuel) c.add_fuel.result c.add_fuel.new.column.items
    c.in_ok-add_activity.ensures
    c.add_fuel.ensures
