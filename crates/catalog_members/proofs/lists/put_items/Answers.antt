use Rattle.std.proofs.Common.{◌≡◌, ◌∙◌, ap, subst}
use Rattle.std.specs.Prelude.{OnOk}
use Rattle.serde_json.specs.Data.{Data, Members, put}
use Rattle.serde_json.specs.View.{members_view}
use Rattle.serde_json.proofs.Views.{view-Array}
use Rattle.catalog_members.proofs.Listing.{listed}
use Rattle.catalog_members.proofs.lists.put_items.Goals as goal

pub returns-else-is_empty : goal.returns-else-is_empty
returns-else-is_empty c =
    subst (λ (ms : Members). OnOk c.put.result (members_view c.put.new.members.entries ≡ ms))
    (ap (λ (d : Data). put c.args.key.now d (members_view c.args.members.now.entries)) (view-Array c.args.items)
    ∙ listed c.args.key.now c.args.items.items c.as_slice.result.now (members_view c.args.members.now.entries) c.is_empty.result c.as_slice.ensures.value c.is_empty.ensures c.if-is_empty.false)
    c.put.ensures
