use Rattle.std.proofs.Common.{◌≡◌, ◌∙◌, ◌++◌, List, [], ◌∷◌, refl, sym, ap, subst}
use Rattle.std.specs.Prelude.{map, Ok, Err, Result}
use Rattle.fractions.specs.Fraction.{Fraction, negated, one_fraction}
use Rattle.plan_base.specs.declared.ids.GoodId.{GoodId}
use Rattle.game_types.specs.declared.effects.Wide.{Wide}
use Rattle.game_types.specs.declared.recipes.Part.{Part}
use Rattle.game_types.specs.declared.recipes.Product.{Product}
use Rattle.game_types.proofs.Walks.{returned}
use Rattle.table_rows.specs.declared.faults.RowFault.{RowFault}
use Rattle.table_rows.specs.declared.faults.RowFault.TheVariants.{Wide as WideRow}
use Rattle.table_rows.specs.Answers.{Extends}
use Rattle.table_rows.specs.Columns.{activity_parts, burnt_parts, contributed, fuel_parts, given, gives, input_taken, pack_taken, source_fluid, summed, taken, takes, Contribution}
use Rattle.table_rows.proofs.Sums.{handed_on, same_meant, sum_one, then_fault, then_more}
use Rattle.table_rows.proofs.contributions.add_mine.Goals as goal

pub returns-in_err-give_products : goal.returns-in_err-give_products
returns-in_err-give_products c =
    then_fault c.args.column.now.items (map (given c.args.productivity.now) c.args.source.now.products) (source_fluid c.args.game.now c.args.setup.now c.args.source.now.fluid) c.from_residual.result c.in_err-give_products.field-0.0 c.give_products.new.column.items
    (returned c.from_residual.result c.in_err-give_products.field-0.0 c.from_residual.ensures)
    (subst (λ (ps : List Product). (wide : Wide) → c.in_err-give_products.field-0.0 ≡ WideRow wide → summed c.args.column.now.items (map (given c.args.productivity.now) ps) ≡ Err wide) c.as_slice.ensures c.in_err-give_products.ensures)

pub returns : goal.returns
returns c =
    then_more c.args.column.now.items c.give_products.new.column.items (map (given c.args.productivity.now) c.args.source.now.products) (source_fluid c.args.game.now c.args.setup.now c.args.source.now.fluid) c.take_source_fluid.result c.take_source_fluid.new.column.items
    (subst (λ (ps : List Product). summed c.args.column.now.items (map (given c.args.productivity.now) ps) ≡ Ok c.give_products.new.column.items) c.as_slice.ensures c.in_ok-give_products.ensures)
    c.take_source_fluid.ensures
