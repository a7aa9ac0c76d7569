use Rattle.production_table.proofs.Numbered.{wants_change, wants_sound}
use Rattle.production_table.proofs.tables.Table.set_want.Goals as goal

pub returns-clause-change : goal.returns-clause-change
returns-clause-change c = wants_change c.args.good c.args.rate.now c.rewant.result c.args.self.now c.rewant.new.wants c.rewant.ensures

pub returns-clause-sound : goal.returns-clause-sound
returns-clause-sound c = wants_sound c.args.good c.args.rate.now c.rewant.result c.args.self.now c.rewant.new.wants c.rewant.ensures c.requires.sound
