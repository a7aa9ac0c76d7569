use Rattle.production_laws.proofs.Crafts.{lab_gives, lab_takes}
use Rattle.production_laws.proofs.laws.labs_take_packs.Goals as goal

pub returns-clause-units : goal.returns-clause-units
returns-clause-units c = lab_gives

pub returns-clause-packs : goal.returns-clause-packs
returns-clause-packs c = lab_takes
