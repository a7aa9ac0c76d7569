use Rattle.std.proofs.Common.{◌∙◌, ap}
use Rattle.graph_store.specs.Lists.{is_among, numbers_at, HoldInOrder}
use Rattle.depend_rows.proofs.FuelLemmas.{fuels_union}
use Rattle.depend_rows.proofs.machines.fuels_taken.Goals as goal

pub returns : goal.returns
returns c =
    let different = c.distinct-different.result.items in
    let index = c.args.index.now in
    let held : HoldInOrder (numbers_at index.fuels.items different) c.in_ok-nodes.nodes.items = rw (c.as_slice-fuels.ensures.value, c.as_slice-all.ensures.value) at c.in_ok-nodes.ensures in
    fuels_union index.fuels.items c.args.game.now.items c.args.categories.now different c.in_ok-nodes.nodes.items c.requires.index.fuels
    (λ k. c.distinct-different.ensures.same k ∙ ap (λ l. is_among l k) c.in_ok-from_slice.ensures.items) held
