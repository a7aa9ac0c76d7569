use Rattle.std.proofs.lemmas.Result.{err_from_is_err_and}
use Rattle.json_text.specs.SpanSeen.{span_seen}
use Rattle.prototype_fields.specs.Seen.{object_seen}
use Rattle.prototype_fields.specs.Values.{category_in, categories}
use Rattle.prototype_fields.proofs.Each.{named_fails, named_done}
use Rattle.prototype_fields.proofs.fields.Fields.categories.Goals as goal

pub returns-in_err-number-clause-gives : goal.returns-in_err-number-clause-gives
unfolding categories
returns-in_err-number-clause-gives c =
    let p = err_from_is_err_and c.from_residual.result c.from_residual.ensures.1 in
    rw (p.1, p.2)
    (λ memory. named_fails span_seen (category_in (object_seen c.args.self.now) c.args.key) c.args.elements.now c.args.names.now c.loop-element.element-index c.element-item.result c.in_err-number.field-0.0 c.loop-element.numbers.items c.loop-element.names c.loop-element-test.true c.element-item.is (c.in_err-number.ensures.gives memory) c.loop-element.invariant.so_far)

pub returns-clause-gives : goal.returns-clause-gives
unfolding categories
returns-clause-gives c =
    rw c.from_vec.ensures (named_done span_seen (category_in (object_seen c.args.self.now) c.args.key) c.args.elements.now c.args.names.now c.loop-element.element-index c.loop-element.numbers.items c.loop-element.names c.loop-element-test.false c.loop-element.invariant.so_far)
