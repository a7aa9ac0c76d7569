use Rattle.production_laws.proofs.Plans.{least_cost, none_at_all, same_cost, same_plans}
use Rattle.production_laws.proofs.laws.plans_are_balances.Goals as goal

pub returns-clause-plans : goal.returns-clause-plans
returns-clause-plans c = same_plans

pub returns-clause-cost : goal.returns-clause-cost
returns-clause-cost c = same_cost

pub returns-clause-least : goal.returns-clause-least
returns-clause-least c = least_cost

pub returns-clause-none : goal.returns-clause-none
returns-clause-none c = none_at_all
