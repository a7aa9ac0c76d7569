use Rattle.std.proofs.lemmas.Result.{err_from_is_err_and}
use Rattle.json_text.specs.SpanSeen.{span_seen}
use Rattle.prototype_fields.proofs.Each.{each_fails, each_done}
use Rattle.craft_reader.specs.Goods.{product}
use Rattle.craft_reader.proofs.given.each_product.Goals as goal

pub returns-in_err-product : goal.returns-in_err-product
returns-in_err-product c =
    let p = err_from_is_err_and c.from_residual-in_err-product.result c.from_residual-in_err-product.ensures.1 in
    rw (p.1, p.2)
    (λ memory. each_fails span_seen (product c.args.within) c.args.elements.now c.loop-element.element-index c.element-item.result c.in_err-product.field-0.0 c.loop-element.products.items c.loop-element-test.true c.element-item.is (c.in_err-product.ensures memory) c.loop-element.invariant)

pub returns : goal.returns
returns c = rw c.from_vec.ensures (each_done span_seen (product c.args.within) c.args.elements.now c.loop-element.element-index c.loop-element.products.items c.loop-element-test.false c.loop-element.invariant)
