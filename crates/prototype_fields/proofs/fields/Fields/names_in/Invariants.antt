use Rattle.json_text.specs.SpanSeen.{span_seen}
use Rattle.prototype_fields.specs.Seen.{object_seen}
use Rattle.prototype_fields.specs.Values.{name_in}
use Rattle.prototype_fields.proofs.Each.{FoundSoFar}
use Rattle.prototype_fields.proofs.fields.Fields.names_in.Given as goal

abbrev pub invariant-loop-element : goal.invariant-loop-element
invariant-loop-element l = FoundSoFar span_seen (name_in (object_seen l.fn.self) l.fn.key) l.elements l.element-index l.names.items
