use Rattle.std.proofs.Common.{sym, subst}
use Rattle.planner_tables.specs.Effects.{AreSoundTables}
use Rattle.planning_state.proofs.QuestionLemmas.{kept-first, no-tables}
use Rattle.planning_state.proofs.RememberedLemmas.{remembers-nothing}
use Rattle.planning_state.proofs.planning.assemble.Goals as goal

pub invariant_of-result : goal.invariant_of-result
invariant_of-result c = (
  kept-first c.args.book c.args.kept.graph c.args.kept.worlds c.requires.sound c.requires.rows c.requires.none c.requires.worlds,
  subst (AreSoundTables c.args.book.game) (sym c.new.ensures.items) (no-tables c.args.book.game),
  c.requires.index,
  remembers-nothing c.args.book c.args.kept.graph c.none.result c.none.ensures.marks c.none.ensures.before,
  c.requires.starts,
)
