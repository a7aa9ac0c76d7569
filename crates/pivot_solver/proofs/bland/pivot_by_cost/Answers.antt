use Rattle.std.proofs.Common.{inl}
use Rattle.pivot_solver.proofs.Choosing.{cost_plan, cost_next, cost_candidate}
use Rattle.pivot_solver.proofs.bland.pivot_by_cost.Goals as goal

pub unreachable-requires : goal.unreachable-requires
unreachable-requires g c =
    let plan = cost_plan g.s c.args.basis.now c.args.rows.now c.args.cost.now.items c.requires.0 c.args.goods c.args.columns c.requires.1.1.0 c.requires.1.1.1.0 c.requires.1.1.1.1.0 c.requires.1.1.1.1.1.0 c.requires.1.1.1.1.1.1.0 c.in-None.ensures in
    c.requires.1.1.1.1.1.1.1 plan.entries plan.are_entries (inl plan.shows)

pub unreachable-requires-in-None-least_row : goal.unreachable-requires-in-None-least_row
unreachable-requires-in-None-least_row g c =
    absurd (cost_candidate g.s c.args.basis.now c.args.rows.now c.args.cost.now.items c.requires.0 c.args.goods c.args.columns c.in-Some.enter c.requires.1.1.0 c.requires.1.1.1.0 c.requires.1.0 c.in-Some.ensures c.in-None-least_row.ensures)

pub returns : goal.returns
returns g c =
    cost_next g.s c.args.basis.now c.args.rows.now c.args.cost.now.items c.requires.0 c.args.goods c.args.columns c.in-Some.enter c.in-Some-least_row.row c.requires.1.1.0 c.requires.1.1.1.0 c.requires.1.1.1.1.1.0 c.in-Some.ensures c.in-Some-least_row.ensures c.requires.1.1.1.1.1.1.1
