use Rattle.edit_undo.proofs.Moves.{undone_entry, redone_entry}
use Rattle.edit_undo.proofs.laws.undo_and_redo_lead_back.Goals as goal

pub returns-clause-undone : goal.returns-clause-undone
returns-clause-undone g c = undone_entry

pub returns-clause-redone : goal.returns-clause-redone
returns-clause-redone g c = redone_entry
