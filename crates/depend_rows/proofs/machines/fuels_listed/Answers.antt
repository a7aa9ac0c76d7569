use Rattle.std.proofs.Common.{subst, arith, get_or, List, ℕ}
use Rattle.graph_store.specs.Lists.{HoldInOrder}
use Rattle.depend_rows.proofs.FuelLemmas.{numbers_more, numbers_last}
use Rattle.graph_store.proofs.Walks.{at_self}
use Rattle.depend_rows.proofs.machines.fuels_listed.Goals as goal

pub loop-category-preserved : goal.loop-category-preserved
loop-category-preserved c =
    let categories = c.args.categories.now in
    let i = c.loop-category.category-index in
    let x = get_or categories i 0 in
    numbers_more c.args.fuels.now categories i x c.loop-category.numbers.items c.push_list.new.numbers.items c.loop-category-test.true (at_self categories i 0 c.loop-category-test.true) c.in_ok-push_list.ensures c.loop-category.invariant

pub returns : goal.returns
returns c =
    let held : List ℕ → Type 0 = λ l. HoldInOrder l c.in_ok-nodes.nodes.items in
    subst held (numbers_last c.args.fuels.now c.args.categories.now c.loop-category.category-index c.loop-category.numbers.items (omega (arith, c.loop-category-test.false)) c.loop-category.invariant) c.in_ok-nodes.ensures
