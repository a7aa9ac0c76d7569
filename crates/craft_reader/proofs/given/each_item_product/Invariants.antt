use Rattle.json_text.specs.SpanSeen.{span_seen}
use Rattle.prototype_fields.proofs.Each.{EachSoFar}
use Rattle.craft_reader.specs.Goods.{item_product}
use Rattle.craft_reader.proofs.given.each_item_product.Given as goal

abbrev pub invariant-loop-element : goal.invariant-loop-element
invariant-loop-element l = EachSoFar span_seen (item_product l.fn.within) l.elements l.element-index l.products.items
