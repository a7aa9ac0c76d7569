use Rattle.plan_charts.proofs.Balance.{balances}
use Rattle.plan_charts.proofs.edge_laws.edges_balance.Goals as goal

pub returns : goal.returns
returns c = balances
