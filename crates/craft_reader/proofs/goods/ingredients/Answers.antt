use Rattle.std.proofs.lemmas.Result.{err_from_is_err_and}
use Rattle.json_text.specs.SpanSeen.{span_seen}
use Rattle.prototype_fields.proofs.Each.{each_fails, each_done}
use Rattle.craft_reader.specs.Goods.{ingredient}
use Rattle.craft_reader.proofs.goods.ingredients.Goals as goal

pub returns-in_err-part : goal.returns-in_err-part
returns-in_err-part c =
    let p = err_from_is_err_and c.from_residual-in_err-part.result c.from_residual-in_err-part.ensures.1 in
    rw (p.1, p.2)
    (λ memory. each_fails span_seen (ingredient c.args.within) c.args.elements.now c.loop-element.element-index c.element-item.result c.in_err-part.field-0.0 c.loop-element.parts.items c.loop-element-test.true c.element-item.is (c.in_err-part.ensures memory) c.loop-element.invariant)

pub returns : goal.returns
returns c = rw c.from_vec.ensures (each_done span_seen (ingredient c.args.within) c.args.elements.now c.loop-element.element-index c.loop-element.parts.items c.loop-element-test.false c.loop-element.invariant)
