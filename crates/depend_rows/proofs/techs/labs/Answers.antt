use Rattle.std.proofs.Common.{◌∙◌, ◌≡◌, ◌<◌, ℕ, List, Vec, length, map, ap, sym, subst, refl, arith}
use Rattle.std.specs.Global.{Global}
use Rattle.std.specs.Prelude.{All}
use Rattle.std.proofs.lemmas.Bool.Decides.{nat_tests}
use Rattle.plan_base.specs.declared.ids.GoodId.{GoodId}
use Rattle.plan_base.specs.declared.ids.NodeId.{NodeId}
use Rattle.fractions.specs.Fraction.{Fraction}
use Rattle.depend_index.specs.Goods.{first_machine}
use Rattle.depend_rows.specs.Machines.{labs}
use Rattle.graph_store.specs.Lists.{list_at, AreCommon, Rise}
use Rattle.depend_rows.proofs.LabLemmas.{common_labs, lists_rise}
use Rattle.graph_store.proofs.Walks.{numbers_below}
use Rattle.depend_rows.proofs.techs.labs.Goals as goal

pub in_each-requires-clause-rise : goal.in_each-requires-clause-rise
in_each-requires-clause-rise c =
    let game = c.args.game.now in
    let all_rise : List (Vec NodeId Global) → Type 0 = λ lists. (k : ℕ) → k < length lists → Rise (list_at lists k) in
    subst all_rise (sym c.as_slice-else-is_empty.ensures.value) (lists_rise c.args.index.now.takers.items (first_machine game) (length game.items) game.machines c.requires.index.takers)

pub in_each-requires-clause-within : goal.in_each-requires-clause-within
in_each-requires-clause-within c =
    let game = c.args.game.now in
    let below : List ℕ → Type 0 = λ l. All (λ k. k < length c.as_slice-else-is_empty.result.now) l in
    subst below (sym c.as_slice-else-is_empty-3.ensures.value)
    (numbers_below (λ part. part.0.0) c.args.tech.now.ingredients c.as_slice.result.now c.in_ok-goods.goods.items (length c.as_slice-else-is_empty.result.now) (length game.items) c.requires.tech.ingredients c.as_slice.ensures c.in_ok-goods.ensures
    (ap length c.as_slice-else-is_empty.ensures.value ∙ c.requires.index.takers.as_long))

pub returns : goal.returns
unfolding labs
returns c =
    let game = c.args.game.now in
    let parts = c.args.tech.now.ingredients in
    let lists = c.args.index.now.takers.items in
    let goods = c.in_ok-goods.goods.items in
    let are : goods ≡ map (λ (part : GoodId × Fraction). part.0.0) parts = c.in_ok-goods.ensures ∙ ap (map (λ (part : GoodId × Fraction). part.0.0)) c.as_slice.ensures in
    let below : All (λ k. k < length game.items) goods = numbers_below (λ part. part.0.0) parts c.as_slice.result.now goods (length game.items) (length game.items) c.requires.tech.ingredients c.as_slice.ensures c.in_ok-goods.ensures refl in
    let common : AreCommon lists goods c.in_ok-nodes.nodes.items = rw (c.as_slice-else-is_empty.ensures.value, c.as_slice-else-is_empty-3.ensures.value) at c.in_ok-nodes.ensures in
    let some : 0 < length goods = grind (arith, nat_tests, c.is_empty.ensures, c.if-is_empty.false) in
    common_labs lists (first_machine game) (length game.items) game.machines parts goods c.in_ok-nodes.nodes.items c.requires.index.takers are some below common
