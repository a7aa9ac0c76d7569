use Rattle.production_table.proofs.Numbered.{surpluses_change, surpluses_sound}
use Rattle.production_table.proofs.tables.Table.set_surplus.Goals as goal

pub returns-clause-change : goal.returns-clause-change
returns-clause-change c = surpluses_change c.args.good c.args.price c.reprice.result c.args.self.now c.reprice.new.prices c.reprice.ensures

pub returns-clause-sound : goal.returns-clause-sound
returns-clause-sound c = surpluses_sound c.args.good c.args.price c.reprice.result c.args.self.now c.reprice.new.prices c.reprice.ensures c.requires.sound
