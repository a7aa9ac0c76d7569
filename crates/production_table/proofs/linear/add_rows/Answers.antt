use Rattle.std.proofs.Common.{◌∙◌, ◌<◌, ◌+◌, ◌++◌, List, length, drop, sym, ap, arith}
use Rattle.fractions.specs.Fraction.{Fraction}
use Rattle.plan_base.specs.declared.ids.GoodId.{GoodId}
use Rattle.linear_table.specs.declared.LinearColumn.{LinearColumn}
use Rattle.game_types.proofs.Walks.{next}
use Rattle.production_table.specs.Linear.{row_column, row_columns}
use Rattle.production_table.proofs.Forms.{lines_end, lines_on}
use Rattle.production_table.proofs.linear.add_rows.Goals as goal

pub loop-number-preserved : goal.loop-number-preserved
loop-number-preserved c =
    let within : c.loop-number.number < length c.args.columns.now = let same = c.requires.columns in let lt = c.loop-number-test.true in omega arith in
    c.loop-number.invariant
    ∙ lines_on c.args.goods.now c.loop-number.made.items c.args.rows.now c.args.columns.now c.loop-number.number c.index-rows-number.result c.index-columns-number.result c.in_ok-one.one
    (next c.args.rows.now c.loop-number.number c.index-rows-number.result c.loop-number-test.true c.index-rows-number.is)
    (next c.args.columns.now c.loop-number.number c.index-columns-number.result within c.index-columns-number.is)
    (c.in_ok-one.ensures ∙ ap (λ (column : List (GoodId × Fraction)). row_column c.args.goods.now c.loop-number.number c.index-rows-number.result column) c.as_slice.ensures)
    ∙ ap (λ (made : List LinearColumn). made ++ row_columns c.args.goods.now (c.loop-number.number + 1) (drop (c.loop-number.number + 1) c.args.rows.now) (drop (c.loop-number.number + 1) c.args.columns.now)) (sym c.in_ok-push.ensures.items)

pub returns : goal.returns
returns c = sym (c.loop-number.invariant ∙ lines_end c.args.goods.now c.loop-number.made.items c.args.rows.now c.args.columns.now c.loop-number.number c.loop-number-test.false)
