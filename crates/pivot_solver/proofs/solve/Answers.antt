use Rattle.pivot_solver.proofs.Exactly.{done_of, wide_exactly, out_exactly, infeasible_exactly, no_basis_twice, settles, moderate_never_wide}
use Rattle.pivot_solver.proofs.TrailLaws.{answer_tells}
use Rattle.pivot_solver.proofs.solve.Goals as goal

pub returns-in-Done-clause-plans : goal.returns-in-Done-clause-plans
returns-in-Done-clause-plans c = answer_tells c.args.linear.now c.args.budget c.in-Done.answer (done_of c.args.linear.now c.args.budget _ c.in_ok-progress.progress c.in-Done.answer c.in-Done.is c.in_ok-progress.ensures).0

pub returns-in-Done-clause-too_wide : goal.returns-in-Done-clause-too_wide
returns-in-Done-clause-too_wide c = wide_exactly c.args.linear.now c.args.budget c.in-Done.answer c.requires (done_of c.args.linear.now c.args.budget _ c.in_ok-progress.progress c.in-Done.answer c.in-Done.is c.in_ok-progress.ensures)

pub returns-in-Done-clause-out_of_budget : goal.returns-in-Done-clause-out_of_budget
returns-in-Done-clause-out_of_budget c = out_exactly c.args.linear.now c.args.budget c.in-Done.answer c.requires (done_of c.args.linear.now c.args.budget _ c.in_ok-progress.progress c.in-Done.answer c.in-Done.is c.in_ok-progress.ensures)

pub returns-in-Done-clause-infeasible : goal.returns-in-Done-clause-infeasible
returns-in-Done-clause-infeasible c = infeasible_exactly c.args.linear.now c.args.budget c.in-Done.answer c.requires (done_of c.args.linear.now c.args.budget _ c.in_ok-progress.progress c.in-Done.answer c.in-Done.is c.in_ok-progress.ensures)

pub returns-in-Done-clause-no_basis_twice : goal.returns-in-Done-clause-no_basis_twice
returns-in-Done-clause-no_basis_twice c = no_basis_twice c.args.linear.now c.in-Done.answer c.requires

pub returns-in-Done-clause-settled : goal.returns-in-Done-clause-settled
returns-in-Done-clause-settled c = settles c.args.linear.now c.args.budget c.in-Done.answer c.requires (done_of c.args.linear.now c.args.budget _ c.in_ok-progress.progress c.in-Done.answer c.in-Done.is c.in_ok-progress.ensures)

pub returns-in-Done-clause-moderate : goal.returns-in-Done-clause-moderate
returns-in-Done-clause-moderate c = λ below. settles c.args.linear.now c.args.budget c.in-Done.answer c.requires (done_of c.args.linear.now c.args.budget _ c.in_ok-progress.progress c.in-Done.answer c.in-Done.is c.in_ok-progress.ensures) (moderate_never_wide c.args.linear.now c.requires below)
