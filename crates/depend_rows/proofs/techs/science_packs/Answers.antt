use Rattle.std.proofs.Common.{◌<◌, arith}
use Rattle.std.specs.Prelude.{All}
use Rattle.plan_base.specs.declared.ids.GoodId.{GoodId}
use Rattle.fractions.specs.Fraction.{Fraction}
use Rattle.depend_index.specs.Goods.{good_count}
use Rattle.depend_rows.specs.Machines.{science_packs}
use Rattle.graph_store.proofs.Walks.{numbers_below}
use Rattle.depend_rows.proofs.techs.science_packs.Goals as goal

pub named-requires-clause-numbers : goal.named-requires-clause-numbers
named-requires-clause-numbers c =
    let goods : All (λ (part : GoodId × Fraction). part.0.0 < good_count c.args.game.now) c.args.tech.now.ingredients = λ k d within. let item = c.requires.tech.ingredients k d within in omega (arith, item) in
    numbers_below (λ part. part.0.0) c.args.tech.now.ingredients c.as_slice.result.now c.in_ok-goods.goods.items c.good_count.result (good_count c.args.game.now) goods c.as_slice.ensures c.in_ok-goods.ensures c.good_count.ensures.goods

pub returns : goal.returns
unfolding science_packs
returns c = rw (c.good_count.ensures.goods, c.in_ok-goods.ensures, c.as_slice.ensures) at c.named.ensures
