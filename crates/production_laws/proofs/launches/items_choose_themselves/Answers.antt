use Rattle.production_laws.proofs.Items.{item_choice}
use Rattle.production_laws.proofs.launches.items_choose_themselves.Goals as goal

pub returns : goal.returns
returns c = item_choice
