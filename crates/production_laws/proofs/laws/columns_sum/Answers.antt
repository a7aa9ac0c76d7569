use Rattle.production_laws.proofs.Shares.{other_amounts, power_amount}
use Rattle.production_laws.proofs.laws.columns_sum.Goals as goal

pub returns-clause-others : goal.returns-clause-others
returns-clause-others c = other_amounts

pub returns-clause-power : goal.returns-clause-power
returns-clause-power c = power_amount
