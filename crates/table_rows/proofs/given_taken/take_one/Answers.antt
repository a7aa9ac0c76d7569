use Rattle.std.proofs.Common.{◌≡◌, ◌∙◌, ◌++◌, List, [], ◌∷◌, refl, sym, ap, subst}
use Rattle.std.specs.Prelude.{map, Ok, Err, Result}
use Rattle.fractions.specs.Fraction.{Fraction, negated, one_fraction}
use Rattle.plan_base.specs.declared.ids.GoodId.{GoodId}
use Rattle.game_types.specs.declared.effects.Wide.{Wide}
use Rattle.game_types.specs.declared.recipes.Part.{Part}
use Rattle.game_types.specs.declared.recipes.Product.{Product}
use Rattle.game_types.proofs.Walks.{returned}
use Rattle.table_rows.specs.declared.faults.RowFault.{RowFault}
use Rattle.table_rows.specs.declared.faults.RowFault.TheVariants.{Wide as WideRow}
use Rattle.table_rows.specs.Answers.{Extends}
use Rattle.table_rows.specs.Columns.{activity_parts, burnt_parts, contributed, fuel_parts, given, gives, input_taken, pack_taken, source_fluid, summed, taken, takes, Contribution}
use Rattle.table_rows.proofs.Sums.{handed_on, same_meant, sum_one, then_fault, then_more}
use Rattle.table_rows.proofs.given_taken.take_one.Goals as goal

pub returns : goal.returns
returns c =
    same_meant (contributed (takes c.args.good c.args.amount.now) c.args.column.now.items) _ c.contribute.result c.contribute.new.column.items
    (sym (sum_one c.args.column.now.items (takes c.args.good c.args.amount.now)))
    (subst (λ (x : Fraction). Extends (contributed (c.args.good, Ok x) c.args.column.now.items) c.contribute.result c.contribute.new.column.items) c.neg.ensures c.contribute.ensures)
