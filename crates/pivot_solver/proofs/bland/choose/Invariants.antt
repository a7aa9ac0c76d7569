use Rattle.pivot_solver.proofs.bland.choose.Given as goal

abbrev pub ghost-pivot_by_cost : goal.ghost-pivot_by_cost
ghost-pivot_by_cost g a = g.t.system

abbrev pub ghost-pivot_by_aim : goal.ghost-pivot_by_aim
ghost-pivot_by_aim g a = g.t
