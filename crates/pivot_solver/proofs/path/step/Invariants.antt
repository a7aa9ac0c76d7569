use Rattle.pivot_solver.proofs.path.step.Given as goal

abbrev pub ghost-choice_on : goal.ghost-choice_on
ghost-choice_on a = a.linear.now
