use Rattle.std.proofs.Common.{◌≡◌, ◌∙◌, List, refl, sym, ap, subst}
use Rattle.game_types.proofs.Walks.{next, returned}
use Rattle.table_rows.specs.Columns.{given, pack_taken, taken}
use Rattle.table_rows.proofs.Sums.{handed_on, walk_end, walk_on, walk_stop}
use Rattle.table_rows.proofs.given_taken.take_ingredients.Goals as goal

pub returns-in_err-take_ingredient : goal.returns-in_err-take_ingredient
returns-in_err-take_ingredient c =
    handed_on _ c.from_residual.result c.in_err-take_ingredient.field-0.0 c.take_ingredient.new.column.items (returned c.from_residual.result c.in_err-take_ingredient.field-0.0 c.from_residual.ensures)
    (λ wide is.
    c.loop-part.invariant
    ∙ walk_stop (taken c.args.game.now c.args.setup.now) c.loop-part.column.items c.args.parts.now c.loop-part.part-index c.part-item.result wide
    (next c.args.parts.now c.loop-part.part-index c.part-item.result c.loop-part-test.true c.part-item.is) (c.in_err-take_ingredient.ensures wide is))

pub loop-part-preserved : goal.loop-part-preserved
loop-part-preserved c =
    c.loop-part.invariant
    ∙ walk_on (taken c.args.game.now c.args.setup.now) c.loop-part.column.items c.take_ingredient.new.column.items c.args.parts.now c.loop-part.part-index c.part-item.result
    (next c.args.parts.now c.loop-part.part-index c.part-item.result c.loop-part-test.true c.part-item.is) c.in_ok-take_ingredient.ensures

pub returns : goal.returns
returns c = c.loop-part.invariant ∙ walk_end (taken c.args.game.now c.args.setup.now) c.loop-part.column.items c.args.parts.now c.loop-part.part-index c.loop-part-test.false
