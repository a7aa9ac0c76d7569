use Rattle.json_text.specs.SpanSeen.{span_seen}
use Rattle.prototype_fields.proofs.Each.{EachSoFar}
use Rattle.craft_reader.specs.Goods.{ingredient}
use Rattle.craft_reader.proofs.goods.ingredients.Given as goal

abbrev pub invariant-loop-element : goal.invariant-loop-element
invariant-loop-element l = EachSoFar span_seen (ingredient l.fn.within) l.elements l.element-index l.parts.items
