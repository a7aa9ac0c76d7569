use Rattle.production_laws.proofs.Power.{power_balance}
use Rattle.production_laws.proofs.laws.power_balances.Goals as goal

pub returns : goal.returns
returns c = power_balance
