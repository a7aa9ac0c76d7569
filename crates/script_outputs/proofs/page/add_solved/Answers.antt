use Rattle.std.proofs.Common.{subst, sym}
use Rattle.planner_tables.specs.Effects.{AreSoundTables}
use Rattle.script_outputs.proofs.page.add_solved.Goals as goal

pub add_plan_among-requires-clause-tables : goal.add_plan_among-requires-clause-tables
add_plan_among-requires-clause-tables c = subst (λ g. AreSoundTables g c.tables-tables.result.now) (sym c.game-game.ensures.game) c.tables-tables.ensures.sound
