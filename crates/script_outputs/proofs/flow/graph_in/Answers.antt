use Rattle.std.proofs.Common.{subst, sym}
use Rattle.planner_tables.specs.Effects.{AreSoundTables}
use Rattle.script_outputs.proofs.flow.graph_in.Goals as goal

pub graph_among-requires-clause-tables : goal.graph_among-requires-clause-tables
graph_among-requires-clause-tables c = subst (λ g. AreSoundTables g c.tables-tables.result.now) (sym c.game-game.ensures.game) c.tables-tables.ensures.sound
