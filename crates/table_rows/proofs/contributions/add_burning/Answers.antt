use Rattle.std.proofs.Common.{◌≡◌, ◌∙◌, ◌++◌, List, [], ◌∷◌, refl, sym, ap, subst}
use Rattle.std.specs.Prelude.{map, Ok, Err, Result}
use Rattle.fractions.specs.Fraction.{Fraction, negated, one_fraction}
use Rattle.plan_base.specs.declared.ids.GoodId.{GoodId}
use Rattle.game_types.specs.declared.effects.Wide.{Wide}
use Rattle.game_types.specs.declared.recipes.Part.{Part}
use Rattle.game_types.specs.declared.recipes.Product.{Product}
use Rattle.game_types.proofs.Walks.{returned}
use Rattle.table_rows.specs.declared.faults.RowFault.{RowFault}
use Rattle.table_rows.specs.declared.faults.RowFault.TheVariants.{Wide as WideRow}
use Rattle.table_rows.specs.Answers.{Extends}
use Rattle.table_rows.specs.Columns.{activity_parts, burnt_parts, contributed, fuel_parts, given, gives, input_taken, pack_taken, source_fluid, summed, taken, takes, Contribution}
use Rattle.table_rows.proofs.Sums.{handed_on, same_meant, sum_one, then_fault, then_more}
use Rattle.table_rows.proofs.contributions.add_burning.Goals as goal

pub returns-in_err-take_one : goal.returns-in_err-take_one
returns-in_err-take_one c =
    then_fault c.args.column.now.items (takes c.args.fuel c.args.amount.now ∷ []) (burnt_parts c.args.burnt c.args.amount.now) c.from_residual.result c.in_err-take_one.field-0.0 c.take_one.new.column.items
    (returned c.from_residual.result c.in_err-take_one.field-0.0 c.from_residual.ensures)
    c.in_err-take_one.ensures

pub returns : goal.returns
returns c =
    then_more c.args.column.now.items c.take_one.new.column.items (takes c.args.fuel c.args.amount.now ∷ []) (burnt_parts c.args.burnt c.args.amount.now) c.give_burnt.result c.give_burnt.new.column.items
    c.in_ok-take_one.ensures
    c.give_burnt.ensures
