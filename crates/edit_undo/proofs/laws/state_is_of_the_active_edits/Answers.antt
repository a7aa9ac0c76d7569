use Rattle.edit_undo.proofs.Moves.{history_first, history_active, history_same}
use Rattle.edit_undo.proofs.laws.state_is_of_the_active_edits.Goals as goal

pub returns-clause-first : goal.returns-clause-first
returns-clause-first g c = λ base. history_first g.E.Editable.effect g.E.Editable.takes g.E.Editable.leads_back base

pub returns-clause-active : goal.returns-clause-active
returns-clause-active g c = history_active g.E.Editable.effect g.E.Editable.takes g.E.Editable.leads_back

pub returns-clause-same : goal.returns-clause-same
returns-clause-same g c = history_same g.E.Editable.effect g.E.Editable.takes g.E.Editable.leads_back
