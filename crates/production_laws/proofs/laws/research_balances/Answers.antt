use Rattle.production_laws.proofs.Power.{research_balance}
use Rattle.production_laws.proofs.laws.research_balances.Goals as goal

pub returns : goal.returns
returns c = research_balance
