use Rattle.json_text.specs.SpanSeen.{span_seen}
use Rattle.prototype_fields.proofs.Each.{FoundSoFar}
use Rattle.craft_reader.specs.Technologies.{unlock}
use Rattle.craft_reader.proofs.technologies.each_unlock.Given as goal

abbrev pub invariant-loop-element : goal.invariant-loop-element
invariant-loop-element l = FoundSoFar span_seen unlock l.elements l.element-index l.recipes.items
