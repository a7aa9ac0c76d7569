use Rattle.std.proofs.Common.{◌∙◌, sym, subst, ap}
use Rattle.std.proofs.lemmas.Str.{IsUtf8-from_is_utf8}
use Rattle.json_text.specs.Kept as k
use Rattle.json_text.specs.Machine.{list_of, object_of}
use Rattle.json_text.specs.SpanSeen.{node_seen, spans_seen, members_seen as lent_members_seen}
use Rattle.json_text.specs.Textual.{IsTextual}
use Rattle.json_text.proofs.Owning.{own-List, own-Object}
use Rattle.json_text.proofs.SpanLemmas.{seen-Number, seen-List, seen-Object}
use Rattle.json_text.proofs.own.+own.Goals as goal

pub owned_tree-text_of-requires : goal.owned_tree-text_of-requires
owned_tree-text_of-requires t c = IsUtf8-from_is_utf8 _ (subst IsTextual (ap (λ n. node_seen n c.args.tree.now.at) c.in-Number.is ∙ seen-Number c.in-Number.digits c.args.tree.now.at) c.requires)

pub owned_tree-returns-in_ok-owned_elements-in-List-clause-ok : goal.owned_tree-returns-in_ok-owned_elements-in-List-clause-ok
owned_tree-returns-in_ok-owned_elements-in-List-clause-ok t c =
    let at = c.args.tree.now.at in
    own-List c.in_ok-owned_elements-in-List.field-0 at ∙ ap (λ x. k.list at (list_of x)) (c.in_ok-owned_elements-in-List.ensures.ok ∙ ap spans_seen c.as_slice.ensures.value) ∙ sym (ap (λ n. node_seen n at) c.in-List.is ∙ seen-List c.in-List.elements at)

pub owned_tree-returns-in_ok-owned_members-in-Object-clause-ok : goal.owned_tree-returns-in_ok-owned_members-in-Object-clause-ok
owned_tree-returns-in_ok-owned_members-in-Object-clause-ok t c =
    let at = c.args.tree.now.at in
    own-Object c.in_ok-owned_members-in-Object.field-0 at ∙ ap (λ x. k.object at (object_of x)) (c.in_ok-owned_members-in-Object.ensures.ok ∙ ap lent_members_seen c.as_slice-in-Object.ensures.value) ∙ sym (ap (λ n. node_seen n at) c.in-Object.is ∙ seen-Object c.in-Object.members at)
