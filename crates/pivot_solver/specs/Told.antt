-- What an answer of the solver says of all plans of the table.
use Rattle.std.specs.Prelude.{List}
use Rattle.fractions.specs.Fraction.{Fraction, ◌≤ʳ◌}
use Rattle.linear_table.specs.Plans.{IsPlan, cost_of}
use Rattle.linear_table.specs.Answer.{HasNoPlan}
use Rattle.linear_table.specs.declared.Linear.{Linear}
use Rattle.linear_table.specs.declared.SolveAnswer.{SolveAnswer}
use Rattle.linear_table.specs.declared.SolveAnswer.TheVariants.{Planned, Infeasible, TooWide, OutOfBudget}

-- no plan costs less than the one that is answered, and an infeasible table has none
abbrev pub TellsOfPlans : Linear → SolveAnswer → Type 0
TellsOfPlans l (Planned p) = (rates : List Fraction) → IsPlan l rates → p.cost ≤ʳ cost_of l rates
TellsOfPlans l (Infeasible prices) = HasNoPlan l
TellsOfPlans l (TooWide trail next place) = Unit {0}
TellsOfPlans l (OutOfBudget trail) = Unit {0}
