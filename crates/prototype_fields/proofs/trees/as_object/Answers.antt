use Rattle.std.proofs.Common.{◌∙◌, sym, ap, Some, rules}
use Rattle.json_text.specs.SpanSeen.{members_seen}
use Rattle.prototype_fields.proofs.TreesLemmas.{object-Object, object-List, object-full, empty_items, full_items}
use Rattle.prototype_fields.proofs.trees.as_object.Goals as goal

pub returns-in-Object : goal.returns-in-Object
returns-in-Object c = ap (λ ms. Some (members_seen ms)) c.as_slice.ensures.value ∙ sym (object-Object c.args.tree.now c.in-Object.members c.in-Object.is)

pub returns-then-is_empty : goal.returns-then-is_empty
returns-then-is_empty c = rw c.no_members-none.ensures (sym (object-List c.args.tree.now c.in-List.elements c.in-List.is (empty_items _ (search rules))))

pub returns-else-is_empty : goal.returns-else-is_empty
returns-else-is_empty c = sym (object-full c.args.tree.now c.in-List.elements c.in-List.is (full_items _ (search rules)))
