use Rattle.std.proofs.Common.{◌∙◌, sym, ap, ◌≡◌}
use Rattle.pivot_solver.specs.Rows.{Numbers, row_at}
use Rattle.pivot_solver.proofs.ManyRows.{row_at-get_or, where_err, where_ok}
use Rattle.pivot_solver.proofs.Pivoted.{pivoted_rows, divided_width, others_width, others_narrow, wide_row, wide_cost}
use Rattle.pivot_solver.proofs.exchange.pivot.Goals.{After-replace-pivot_row}
use Rattle.pivot_solver.proofs.exchange.pivot.Goals as goal

-- the row that is taken out
taken : (c : After-replace-pivot_row) → c.replace-pivot_row.result.items ≡ row_at c.args.rows.now c.args.row
taken c = ap (λ (x : Numbers). x.items) c.replace-pivot_row.ensures.value ∙ sym (row_at-get_or c.args.rows.now c.args.row c.index-rows-row.result c.requires.inside)

pub reduce_rows-requires-clause-widths : goal.reduce_rows-requires-clause-widths
reduce_rows-requires-clause-widths c =
    others_width c.args.rows.now c.args.row c.args.enter c.replace-pivot_row.result c.replace-pivot_row.new.dest c.divide.new.self
    (taken (goal.at.reduce_rows-requires-clause-widths c).After-replace-pivot_row) c.in_default.ensures.ok c.requires.widths

pub reduce_rows-requires-clause-narrow : goal.reduce_rows-requires-clause-narrow
reduce_rows-requires-clause-narrow c = others_narrow c.args.rows.now c.args.row c.replace-pivot_row.new.dest c.requires.narrow

pub returns-in-Err-2-clause-err : goal.returns-in-Err-2-clause-err
returns-in-Err-2-clause-err c =
    let e = where_err _ c.in_ok-spot.field-0 c.in-Err-2.spot c.in-Err-2.is c.in_ok-spot.ensures.err in
    wide_row c.args.rows.now c.args.row c.args.enter c.in-Err-2.spot.row c.in-Err-2.spot.place c.replace-pivot_row.result c.replace-pivot_row.new.dest c.divide.new.self
    (taken (goal.at.returns-in-Err-2-clause-err c).After-replace-pivot_row) c.in_default.ensures.ok e.0 e.1 e.2 e.3

pub reduce_at-requires-clause-width : goal.reduce_at-requires-clause-width
reduce_at-requires-clause-width c =
    divided_width c.args.rows.now c.args.cost.now.items c.args.row c.args.enter c.replace-pivot_row.result c.divide.new.self
    (taken (goal.at.reduce_at-requires-clause-width c).After-replace-pivot_row) c.in_default.ensures.ok c.requires.cost_width

pub returns-in-Err-3-clause-err : goal.returns-in-Err-3-clause-err
returns-in-Err-3-clause-err c =
    let e = where_err _ c.in_ok-place.field-0 c.in-Err-3.place c.in-Err-3.is c.in_ok-place.ensures.err in
    wide_cost c.args.rows.now c.args.cost.now.items c.args.row c.args.enter c.in-Err-3.place c.replace-pivot_row.result c.divide.new.self
    (taken (goal.at.returns-in-Err-3-clause-err c).After-replace-pivot_row) c.in_default.ensures.ok c.requires.cost_width e.0 e.1

pub returns-clause-ok : goal.returns-clause-ok
returns-clause-ok c =
    pivoted_rows c.args.rows.now c.reduce_rows.new.rows c.args.cost.now.items c.reduce_at.new.self.items c.args.row c.args.enter c.replace-pivot_row.result c.replace-pivot_row.new.dest c.divide.new.self c.requires.inside
    (taken (goal.at.returns-clause-ok c).After-replace-pivot_row) c.in_default.ensures.ok
    (where_ok c.in_ok-spot.field-0 c.in_default-2.field-0 c.in_default-2.is c.in_ok-spot.ensures.ok) (where_ok c.in_ok-place.field-0 c.in_default-3.field-0 c.in_default-3.is c.in_ok-place.ensures.ok)
