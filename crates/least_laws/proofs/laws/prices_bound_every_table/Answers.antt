use Rattle.least_laws.specs.Ways.{WaysBy}
use Rattle.least_laws.proofs.Bound.{costs_enough, costs_least, ways_cost_enough}
use Rattle.least_laws.proofs.laws.prices_bound_every_table.Goals as goal

pub returns-clause-rows : goal.returns-clause-rows
returns-clause-rows c = costs_enough

pub returns-clause-ways : goal.returns-clause-ways
returns-clause-ways c g t l rates is_way = ways_cost_enough g t l rates (WaysBy is_way)

pub returns-clause-least : goal.returns-clause-least
returns-clause-least c g best t l best_rates rates is_way = costs_least g best t l best_rates rates (WaysBy is_way)
