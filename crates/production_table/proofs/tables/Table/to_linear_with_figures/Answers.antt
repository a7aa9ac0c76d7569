use Rattle.std.proofs.Common.{◌≡◌, ◌∙◌, ◌<◌, ◌≤◌, List, length, sym, ap, subst, arith, rules}
use Rattle.std.specs.Prelude.{Ok}
use Rattle.fractions.specs.Fraction.{Fraction}
use Rattle.plan_base.specs.declared.ids.GoodId.{GoodId}
use Rattle.plan_base.specs.Outcomes.{seen_as}
use Rattle.plan_base.proofs.Outcomes.{is_refused}
use Rattle.game_types.proofs.Walks.{returned}
use Rattle.linear_table.specs.Plans.{IsWellFormed}
use Rattle.linear_table.specs.declared.Linear.{Linear}
use Rattle.production_table.specs.declared.linear.LinearAndFigures.{LinearAndFigures}
use Rattle.production_table.specs.declared.tables.TableRow.{TableRow}
use Rattle.production_table.specs.declared.faults.TableFault.TheVariants.{Full}
use Rattle.production_table.specs.Linear.{columns_of, linear_of, linear_with, table_goods}
use Rattle.production_table.specs.Tables.{GoodsRise}
use Rattle.production_table.proofs.Forms.{columns_count}
use Rattle.production_table.proofs.Whole.{rows_fault, too_many, whole}
use Rattle.production_table.proofs.InGame.{in_game}
use Rattle.production_table.proofs.WellFormed.{formed, table_goods_rise}
use Rattle.production_table.proofs.tables.Table.to_linear_with_figures.Goals as goal

pub returns-in_err-rows-clause-linear : goal.returns-in_err-rows-clause-linear
returns-in_err-rows-clause-linear c =
    rows_fault c.args.game.now c.args.self.now c.in_err-rows.field-0.0 (seen_as (λ (made : LinearAndFigures). made.linear) c.from_residual.result)
    (ap (seen_as (λ (made : LinearAndFigures). made.linear)) (returned c.from_residual.result c.in_err-rows.field-0.0 c.from_residual.ensures))
    (λ refusal is.
    ap (λ (rows : List TableRow). columns_of c.args.game.now c.args.self.now.power rows) (sym c.as_slice.ensures) ∙ c.in_err-rows.ensures.columns refusal is)

pub returns-then-len-gt-LIMIT-clause-linear : goal.returns-then-len-gt-LIMIT-clause-linear
returns-then-len-gt-LIMIT-clause-linear c =
    let made : columns_of c.args.game.now c.args.self.now.power c.args.self.now.rows ≡ Ok c.in_ok-rows.rows.columns
    = ap (λ (rows : List TableRow). columns_of c.args.game.now c.args.self.now.power rows) (sym c.as_slice.ensures) ∙ c.in_ok-rows.ensures.columns in
    let far : 512 < length c.in_ok-goods.goods.items = first_of (omega arith, omega (arith, c.in_ok-goods.goods.ok.0), search rules) in
    is_refused (linear_of c.args.game.now c.args.self.now) Full (too_many c.args.game.now c.args.self.now c.in_ok-rows.rows.columns c.in_ok-goods.goods.items made
    (c.in_ok-goods.ensures ∙ ap (λ (columns : List (List (GoodId × Fraction))). table_goods c.args.self.now columns) c.as_slice-2.ensures) far)

pub linear_with-requires-clause-columns : goal.linear_with-requires-clause-columns
linear_with-requires-clause-columns c =
    let made : columns_of c.args.game.now c.args.self.now.power c.args.self.now.rows ≡ Ok c.in_ok-rows.rows.columns
    = ap (λ (rows : List TableRow). columns_of c.args.game.now c.args.self.now.power rows) (sym c.as_slice.ensures) ∙ c.in_ok-rows.ensures.columns in
    ap (λ (columns : List (List (GoodId × Fraction))). length columns) c.as_slice-3.ensures ∙ columns_count c.args.game.now c.args.self.now.power c.args.self.now.rows c.in_ok-rows.rows.columns made

pub linear_with-requires-clause-rises : goal.linear_with-requires-clause-rises
linear_with-requires-clause-rises c = subst (GoodsRise 0) (sym c.in_ok-goods.ensures) (table_goods_rise c.args.self.now c.as_slice-2.result.now)

pub returns-clause-linear : goal.returns-clause-linear
returns-clause-linear c =
    let made : columns_of c.args.game.now c.args.self.now.power c.args.self.now.rows ≡ Ok c.in_ok-rows.rows.columns
    = ap (λ (rows : List TableRow). columns_of c.args.game.now c.args.self.now.power rows) (sym c.as_slice.ensures) ∙ c.in_ok-rows.ensures.columns in
    let near : length c.in_ok-goods.goods.items ≤ 512 = first_of (omega arith, omega (arith, c.in_ok-goods.goods.ok.0), search rules) in
    let is = whole c.args.game.now c.args.self.now c.in_ok-rows.rows.columns c.in_ok-goods.goods.items made
    (c.in_ok-goods.ensures ∙ ap (λ (columns : List (List (GoodId × Fraction))). table_goods c.args.self.now columns) c.as_slice-2.ensures) near in
    let same : linear_with c.args.self.now c.in_ok-goods.goods.items c.in_ok-rows.rows.columns ≡ c.in_ok-linear.linear
    = sym (c.in_ok-linear.ensures ∙ ap (λ (columns : List (List (GoodId × Fraction))). linear_with c.args.self.now c.in_ok-goods.goods.items columns) c.as_slice-3.ensures) in
    is ∙ ap Ok same

pub returns-clause-formed : goal.returns-clause-formed
returns-clause-formed c =
    let made : columns_of c.args.game.now c.args.self.now.power c.args.self.now.rows ≡ Ok c.in_ok-rows.rows.columns
    = ap (λ (rows : List TableRow). columns_of c.args.game.now c.args.self.now.power rows) (sym c.as_slice.ensures) ∙ c.in_ok-rows.ensures.columns in
    let same : linear_with c.args.self.now c.in_ok-goods.goods.items c.in_ok-rows.rows.columns ≡ c.in_ok-linear.linear
    = sym (c.in_ok-linear.ensures ∙ ap (λ (columns : List (List (GoodId × Fraction))). linear_with c.args.self.now c.in_ok-goods.goods.items columns) c.as_slice-3.ensures) in
    subst IsWellFormed same
    (formed c.args.game.now c.args.self.now c.in_ok-rows.rows.columns c.in_ok-goods.goods.items c.requires.table made
    (c.in_ok-goods.ensures ∙ ap (λ (columns : List (List (GoodId × Fraction))). table_goods c.args.self.now columns) c.as_slice-2.ensures))

pub returns-clause-goods : goal.returns-clause-goods
returns-clause-goods c =
    let made : columns_of c.args.game.now c.args.self.now.power c.args.self.now.rows ≡ Ok c.in_ok-rows.rows.columns
    = ap (λ (rows : List TableRow). columns_of c.args.game.now c.args.self.now.power rows) (sym c.as_slice.ensures) ∙ c.in_ok-rows.ensures.columns in
    λ of_game.
    in_game c.args.game.now c.args.self.now c.in_ok-rows.rows.columns c.in_ok-linear.linear.goods c.requires.sound c.requires.rows of_game made
    (ap (λ (linear : Linear). linear.goods) c.in_ok-linear.ensures ∙ c.in_ok-goods.ensures ∙ ap (λ (columns : List (List (GoodId × Fraction))). table_goods c.args.self.now columns) c.as_slice-2.ensures)
