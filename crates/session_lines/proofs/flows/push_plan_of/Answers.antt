use Rattle.std.proofs.Common.{subst, sym}
use Rattle.planner_tables.specs.Effects.{AreSoundTables}
use Rattle.session_lines.proofs.flows.push_plan_of.Goals as goal

pub push_plan_among-requires-clause-tables : goal.push_plan_among-requires-clause-tables
push_plan_among-requires-clause-tables c = subst (λ g. AreSoundTables g c.tables-tables.result.now) (sym c.game-game.ensures.game) c.tables-tables.ensures.sound
