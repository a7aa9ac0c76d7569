use Rattle.production_table.proofs.Edited.{edit_kept}
use Rattle.production_table.proofs.edit_laws.fitting_rows_stay.Goals as goal

pub returns : goal.returns
returns c = edit_kept
