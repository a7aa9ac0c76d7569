use Rattle.std.proofs.Common.{◌∙◌, ◌++◌, ◌+◌, List, [], ◌∷◌, drop, sym, ap}
use Rattle.std.specs.Prelude.{Ok}
use Rattle.fractions.specs.Fraction.{Fraction}
use Rattle.plan_base.specs.declared.ids.GoodId.{GoodId}
use Rattle.plan_base.specs.Outcomes.{seen_as}
use Rattle.game_types.proofs.Walks.{next, returned}
use Rattle.game_types.specs.Steps.{◌▸◌}
use Rattle.production_table.specs.declared.linear.ColumnsAndFigures.{ColumnsAndFigures}
use Rattle.production_table.specs.Linear.{columns_of}
use Rattle.production_table.proofs.Forms.{figures_end, figures_on, rows_end, rows_on, rows_stop}
use Rattle.production_table.proofs.linear.columns_of.Goals as goal

pub returns-in_err-made-clause-columns : goal.returns-in_err-made-clause-columns
returns-in_err-made-clause-columns c =
    rows_stop c.args.game.now c.args.power c.args.rows.now c.loop-row.columns.items c.loop-row.row-index c.row-item.result c.in_err-made.field-0.0 (seen_as (λ (made : ColumnsAndFigures). made.columns) c.from_residual.result) c.loop-row.invariant.0
    (next c.args.rows.now c.loop-row.row-index c.row-item.result c.loop-row-test.true c.row-item.is) c.in_err-made.ensures.column
    (ap (seen_as (λ (made : ColumnsAndFigures). made.columns)) (returned c.from_residual.result c.in_err-made.field-0.0 c.from_residual.ensures))

pub loop-row-preserved : goal.loop-row-preserved
loop-row-preserved c = (
  c.loop-row.invariant.0
      ∙ rows_on c.args.game.now c.args.power c.args.rows.now c.loop-row.columns.items c.loop-row.row-index c.row-item.result c.in_ok-made.made.column.items
      (next c.args.rows.now c.loop-row.row-index c.row-item.result c.loop-row-test.true c.row-item.is) c.in_ok-made.ensures.column
      ∙ ap (λ (columns : List (List (GoodId × Fraction))). columns_of c.args.game.now c.args.power (drop (c.loop-row.row-index + 1) c.args.rows.now) ▸ λ rest. Ok (columns ++ rest))
      (sym (c.in_ok-push-2.ensures.items ∙ ap (λ (column : List (GoodId × Fraction)). c.loop-row.columns.items ++ column ∷ []) c.from_vec.ensures)),
  figures_on c.args.game.now c.args.rows.now c.loop-row.figures.items c.push.new.self.items c.loop-row.row-index c.row-item.result c.in_ok-made.made.figures
      (next c.args.rows.now c.loop-row.row-index c.row-item.result c.loop-row-test.true c.row-item.is) c.in_ok-made.ensures.figures c.in_ok-push.ensures.items c.loop-row.invariant.1,
)

pub returns-clause-columns : goal.returns-clause-columns
returns-clause-columns c = c.loop-row.invariant.0 ∙ rows_end c.args.game.now c.args.power c.args.rows.now c.loop-row.columns.items c.loop-row.row-index c.loop-row-test.false ∙ ap Ok (sym c.from_vec-2.ensures)

pub returns-clause-figures : goal.returns-clause-figures
returns-clause-figures c = figures_end c.args.game.now c.args.rows.now c.loop-row.figures.items c.from_vec-3.result c.loop-row.row-index c.loop-row-test.false c.from_vec-3.ensures c.loop-row.invariant.1
