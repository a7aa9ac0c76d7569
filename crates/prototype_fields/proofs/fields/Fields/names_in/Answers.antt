use Rattle.std.proofs.Common.{sym}
use Rattle.std.proofs.lemmas.Result.{err_from_is_err_and}
use Rattle.json_text.specs.SpanSeen.{span_seen}
use Rattle.prototype_fields.specs.Seen.{object_seen}
use Rattle.prototype_fields.specs.Values.{name_in, names_in}
use Rattle.prototype_fields.proofs.Each.{found_fails, found_done}
use Rattle.prototype_fields.proofs.fields.Fields.names_in.Goals as goal

pub returns-in_err-name : goal.returns-in_err-name
unfolding names_in
returns-in_err-name c =
    let p = err_from_is_err_and c.from_residual.result c.from_residual.ensures.1 in
    rw (p.1, p.2) (λ _. found_fails span_seen (name_in (object_seen c.args.self.now) c.args.key) c.args.elements.now c.loop-element.element-index c.element-item.result c.in_err-name.field-0.0 c.loop-element.names.items c.loop-element-test.true c.element-item.is (sym c.in_err-name.ensures) c.loop-element.invariant)

pub returns : goal.returns
unfolding names_in
returns c = rw c.from_vec.ensures (found_done span_seen (name_in (object_seen c.args.self.now) c.args.key) c.args.elements.now c.loop-element.element-index c.loop-element.names.items c.loop-element-test.false c.loop-element.invariant)
