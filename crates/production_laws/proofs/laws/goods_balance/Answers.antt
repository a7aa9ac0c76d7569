use Rattle.production_laws.proofs.Whole.{good_balances}
use Rattle.production_laws.proofs.laws.goods_balance.Goals as goal

pub returns : goal.returns
returns c = good_balances
