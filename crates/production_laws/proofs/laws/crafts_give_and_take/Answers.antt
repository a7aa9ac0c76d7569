use Rattle.production_laws.proofs.Crafts.{craft_gives_and_takes}
use Rattle.production_laws.proofs.laws.crafts_give_and_take.Goals as goal

pub returns : goal.returns
returns c = craft_gives_and_takes
