use Rattle.edit_undo.proofs.Moves.{history_first, history_active, history_same}
use Rattle.state_changes.specs.Effects.{effect_of, is_entry}
use Rattle.state_changes.specs.States.{first_state}
use Rattle.state_changes.specs.Undoing.{LeadsBack}
use Rattle.planner_core.proofs.laws.state_is_of_the_active_edits.Goals as goal

pub returns-clause-first : goal.returns-clause-first
returns-clause-first c = λ game. history_first effect_of is_entry LeadsBack (first_state game)

pub returns-clause-active : goal.returns-clause-active
returns-clause-active c = λ base p history. history_active effect_of is_entry LeadsBack p.kept base p.state history

pub returns-clause-same : goal.returns-clause-same
returns-clause-same c = λ base p q first second done. history_same effect_of is_entry LeadsBack p.kept q.kept base p.state q.state first second done
