use Rattle.data_edit.proofs.GameKept.{edit_keeps_game, restored_keeps_game}
use Rattle.data_edit.proofs.laws.edits_keep_the_rest.Goals as goal

pub returns-clause-edits : goal.returns-clause-edits
returns-clause-edits c = edit_keeps_game

pub returns-clause-parts : goal.returns-clause-parts
returns-clause-parts c = restored_keeps_game
