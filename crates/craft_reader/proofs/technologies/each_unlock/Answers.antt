use Rattle.std.proofs.Common.{sym}
use Rattle.std.proofs.lemmas.Result.{err_from_is_err_and}
use Rattle.json_text.specs.SpanSeen.{span_seen}
use Rattle.prototype_fields.proofs.Each.{found_fails, found_done}
use Rattle.craft_reader.specs.Technologies.{unlock}
use Rattle.craft_reader.proofs.technologies.each_unlock.Goals as goal

pub returns-in_err-recipe : goal.returns-in_err-recipe
returns-in_err-recipe c =
    let p = err_from_is_err_and c.from_residual.result c.from_residual.ensures.1 in
    rw (p.1, p.2) (λ memory. found_fails span_seen unlock c.args.elements.now c.loop-element.element-index c.element-item.result c.in_err-recipe.field-0.0 c.loop-element.recipes.items c.loop-element-test.true c.element-item.is (sym c.in_err-recipe.ensures) c.loop-element.invariant)

pub returns : goal.returns
returns c = rw c.from_vec.ensures (found_done span_seen unlock c.args.elements.now c.loop-element.element-index c.loop-element.recipes.items c.loop-element-test.false c.loop-element.invariant)
