use Rattle.linear_table.specs.Basis.{system_of}
use Rattle.pivot_solver.proofs.path.choice_on.Given as goal

abbrev pub ghost-choose : goal.ghost-choose
ghost-choose g a = record { system = system_of g.l; cost = a.cost.now.items }
