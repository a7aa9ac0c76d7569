use Rattle.std.proofs.Common.{arith, ◌<◌, length}
use Rattle.pivot_solver.proofs.ManyRows.{items_of_row}
use Rattle.pivot_solver.proofs.Settling.{refusal_of, prices_at}
use Rattle.pivot_solver.proofs.answers.refusal.Goals as goal

pub returns : goal.returns
returns c =
    let p = c.args.path.now in
    let path = c.requires.is_path in
    let inside : c.args.row < length p.rows.items = omega (arith, c.requires.shows.inside, path.tableau.row_count, path.tableau.is_basis.size) in
    refusal_of c.args.linear.now p.basis.items p.rows.items p.cost.items c.args.row c.requires.well_formed path.tableau c.requires.shows c.from_vec.result
    (prices_at (λ x. x) (items_of_row p.rows.items c.args.row c.index.result.now inside c.index.ensures) c.requires.goods_is c.from_vec.ensures c.in_ok-prices.ensures)
