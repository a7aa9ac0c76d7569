use Rattle.std.proofs.Common.{◌∙◌, sym, ap, Some, rules}
use Rattle.json_text.specs.SpanSeen.{spans_seen}
use Rattle.prototype_fields.proofs.TreesLemmas.{list-List, list-Object, list-full, empty_items, full_items}
use Rattle.prototype_fields.proofs.trees.as_list.Goals as goal

pub returns-in-List : goal.returns-in-List
returns-in-List c = ap (λ ms. Some (spans_seen ms)) c.as_slice.ensures.value ∙ sym (list-List c.args.tree.now c.in-List.elements c.in-List.is)

pub returns-then-is_empty : goal.returns-then-is_empty
returns-then-is_empty c = rw c.no_elements-none.ensures (sym (list-Object c.args.tree.now c.in-Object.members c.in-Object.is (empty_items _ (search rules))))

pub returns-else-is_empty : goal.returns-else-is_empty
returns-else-is_empty c = sym (list-full c.args.tree.now c.in-Object.members c.in-Object.is (full_items _ (search rules)))
