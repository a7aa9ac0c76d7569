use Rattle.std.proofs.Common.{◌∙◌, sym, ap}
use Rattle.game_types.proofs.Walks.{next}
use Rattle.plan_base.specs.declared.ids.GoodId.{GoodId}
use Rattle.std.proofs.Common.{List, drop, ◌+◌}
use Rattle.production_table.specs.Linear.{with_goods}
use Rattle.production_table.proofs.Goods.{goods_end, goods_on}
use Rattle.production_table.proofs.table_places.add_goods.Goals as goal

pub loop-pair-preserved : goal.loop-pair-preserved
loop-pair-preserved c =
    c.loop-pair.invariant ∙ goods_on c.loop-pair.goods.items c.args.pairs.now c.loop-pair.pair-index c.pair-item.result (next c.args.pairs.now c.loop-pair.pair-index c.pair-item.result c.loop-pair-test.true c.pair-item.is)
    ∙ ap (λ (goods : List GoodId). with_goods goods (drop (c.loop-pair.pair-index + 1) c.args.pairs.now)) (sym c.in_ok-add_good.ensures)

pub returns : goal.returns
returns c = sym (c.loop-pair.invariant ∙ goods_end c.loop-pair.goods.items c.args.pairs.now c.loop-pair.pair-index c.loop-pair-test.false)
