use Rattle.data_edit.proofs.NamesKept.{edit_keeps, restored_keeps}
use Rattle.data_edit.proofs.laws.edits_keep_names.Goals as goal

pub returns-clause-edits : goal.returns-clause-edits
returns-clause-edits c = edit_keeps

pub returns-clause-parts : goal.returns-clause-parts
returns-clause-parts c = restored_keeps
