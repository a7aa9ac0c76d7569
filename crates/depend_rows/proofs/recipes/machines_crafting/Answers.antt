use Rattle.std.proofs.Common.{◌∙◌, ◌++◌, ap}
use Rattle.depend_index.specs.Goods.{first_machine}
use Rattle.graph_store.specs.Members.{those}
use Rattle.depend_index.specs.Kinds.{crafts_all_of}
use Rattle.graph_store.specs.Lists.{list_at}
use Rattle.graph_store.proofs.OrderLemmas.{numbers_of}
use Rattle.depend_rows.proofs.CraftLemmas.{crafters_union}
use Rattle.depend_rows.proofs.recipes.machines_crafting.Goals as goal

pub returns : goal.returns
returns c =
    let game = c.args.game.now in
    let recipe = c.args.recipe.now in
    let index = c.args.index.now in
    let all = c.requires.index.crafters recipe.category in
    let alone = c.requires.index.fixed.each c.args.number c.requires.number in
    crafters_union game.recipes c.args.number recipe (first_machine game) game.machines (numbers_of (list_at index.crafters.items recipe.category) ++ numbers_of (list_at index.fixed.items c.args.number)) c.in_ok-nodes.nodes.items c.requires.recipe
    (ap (λ l. numbers_of l ++ numbers_of (list_at index.fixed.items c.args.number)) all ∙ ap (λ l. numbers_of (those (λ machine. crafts_all_of machine.kind recipe.category) (first_machine game) game.machines) ++ numbers_of l) alone)
    c.in_ok-nodes.ensures
