use Rattle.std.proofs.Common.{◌≡◌, ◌∙◌, ◌++◌, List, [], ◌∷◌, refl, sym, ap, subst}
use Rattle.std.specs.Prelude.{map, Ok, Err, Result}
use Rattle.fractions.specs.Fraction.{Fraction, negated, one_fraction}
use Rattle.plan_base.specs.declared.ids.GoodId.{GoodId}
use Rattle.game_types.specs.declared.effects.Wide.{Wide}
use Rattle.game_types.specs.declared.recipes.Part.{Part}
use Rattle.game_types.specs.declared.recipes.Product.{Product}
use Rattle.game_types.proofs.Walks.{returned}
use Rattle.table_rows.specs.declared.faults.RowFault.{RowFault}
use Rattle.table_rows.specs.declared.faults.RowFault.TheVariants.{Wide as WideRow}
use Rattle.table_rows.specs.Answers.{Extends}
use Rattle.table_rows.specs.Columns.{activity_parts, burnt_parts, contributed, fuel_parts, given, gives, input_taken, pack_taken, source_fluid, summed, taken, takes, Contribution}
use Rattle.table_rows.proofs.Sums.{handed_on, same_meant, sum_one, then_fault, then_more}
use Rattle.table_rows.proofs.contributions.add_power.Goals as goal

pub returns-in_err-give_one : goal.returns-in_err-give_one
returns-in_err-give_one c =
    then_fault c.args.column.now.items (gives c.args.good one_fraction ∷ []) (input_taken c.args.amount.now c.args.input) c.from_residual.result c.in_err-give_one.field-0.0 c.give_one.new.column.items
    (returned c.from_residual.result c.in_err-give_one.field-0.0 c.from_residual.ensures)
    (subst (λ (x : Fraction). (wide : Wide) → c.in_err-give_one.field-0.0 ≡ WideRow wide → summed c.args.column.now.items (gives c.args.good x ∷ []) ≡ Err wide) c.one.ensures c.in_err-give_one.ensures)

pub returns : goal.returns
returns c =
    then_more c.args.column.now.items c.give_one.new.column.items (gives c.args.good one_fraction ∷ []) (input_taken c.args.amount.now c.args.input) c.take_input.result c.take_input.new.column.items
    (subst (λ (x : Fraction). summed c.args.column.now.items (gives c.args.good x ∷ []) ≡ Ok c.give_one.new.column.items) c.one.ensures c.in_ok-give_one.ensures)
    c.take_input.ensures
