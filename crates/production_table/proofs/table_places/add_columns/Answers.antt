use Rattle.std.proofs.Common.{◌∙◌, sym, ap}
use Rattle.game_types.proofs.Walks.{next}
use Rattle.fractions.specs.Fraction.{Fraction}
use Rattle.plan_base.specs.declared.ids.GoodId.{GoodId}
use Rattle.std.proofs.Common.{List, drop, ◌+◌}
use Rattle.production_table.specs.Linear.{with_columns, with_goods}
use Rattle.production_table.proofs.Goods.{columns_end, columns_on}
use Rattle.production_table.proofs.table_places.add_columns.Goals as goal

pub loop-column-preserved : goal.loop-column-preserved
loop-column-preserved c =
    c.loop-column.invariant
    ∙ columns_on c.loop-column.goods.items c.args.columns.now c.loop-column.column-index c.column-item.result (next c.args.columns.now c.loop-column.column-index c.column-item.result c.loop-column-test.true c.column-item.is)
    ∙ ap (λ (pairs : List (GoodId × Fraction)). with_columns (with_goods c.loop-column.goods.items pairs) (drop (c.loop-column.column-index + 1) c.args.columns.now)) (sym c.as_slice.ensures)
    ∙ ap (λ (goods : List GoodId). with_columns goods (drop (c.loop-column.column-index + 1) c.args.columns.now)) (sym c.in_ok-add_goods.ensures)

pub returns : goal.returns
returns c = sym (c.loop-column.invariant ∙ columns_end c.loop-column.goods.items c.args.columns.now c.loop-column.column-index c.loop-column-test.false)
