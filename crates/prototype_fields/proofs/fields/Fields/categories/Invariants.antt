use Rattle.json_text.specs.SpanSeen.{span_seen}
use Rattle.prototype_fields.specs.Seen.{object_seen}
use Rattle.prototype_fields.specs.Values.{Extends, category_in}
use Rattle.prototype_fields.proofs.Each.{NamedSoFar}
use Rattle.prototype_fields.proofs.fields.Fields.categories.Given as goal

abbrev pub invariant-loop-element : goal.invariant-loop-element
invariant-loop-element l = record {
  so_far : NamedSoFar span_seen (category_in (object_seen l.fn.self) l.fn.key) l.elements l.initial.names l.element-index l.numbers.items l.names;
  names : Extends l.initial.names l.names;
}
