use Rattle.std.proofs.Common.{arith, inl, inr}
use Rattle.pivot_solver.proofs.Paths.{ends_within, out_done}
use Rattle.pivot_solver.proofs.path.step.Goals as goal

pub returns-in_ok-plan-in-Planned : goal.returns-in_ok-plan-in-Planned
returns-in_ok-plan-in-Planned c = (
  c.in_ok-plan-in-Planned.ensures,
  (
    c.requires.is_path.moves,
    ends_within c.args.linear.now c.args.budget c.args.path c.requires.is_path c.requires.within c.in-Planned.ensures.entries c.in-Planned.ensures.are_entries (inl c.in-Planned.ensures.shows),
  ),
)

pub returns-in_ok-prices-in-Infeasible : goal.returns-in_ok-prices-in-Infeasible
returns-in_ok-prices-in-Infeasible c = (
  c.in_ok-prices-in-Infeasible.ensures,
  (
    c.requires.is_path.moves,
    ends_within c.args.linear.now c.args.budget c.args.path c.requires.is_path c.requires.within c.in-Infeasible.ensures.entries c.in-Infeasible.ensures.are_entries (inr c.in-Infeasible.ensures.shows),
  ),
)

pub returns-else-len-budget : goal.returns-else-len-budget
returns-else-len-budget c =
    out_done c.args.linear.now c.args.budget c.args.path c.in-Pivot.row c.in-Pivot.enter c.requires.is_path c.in-Pivot.ensures (omega arith) c.out_of_budget.result c.out_of_budget.ensures
