use Rattle.std.proofs.Common.{◌∙◌, ◌++◌, ◌∷◌, [], ap, sym}
use Rattle.graph_store.proofs.Listing.{contents_put}
use Rattle.graph_store.proofs.lists.push_at.Goals as goal

pub returns : goal.returns
returns c = contents_put c.args.lists.now c.args.place c.args.node c.index-lists-place.result c.push.new.self c.requires c.index-lists-place.is (c.in_ok-push.ensures.items ∙ ap (λ l. l.items ++ c.args.node ∷ []) (sym c.index-lists-place.is))
