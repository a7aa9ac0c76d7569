use Rattle.production_table.proofs.Numbered.{imports_back, surpluses_back, wants_back}
use Rattle.production_table.proofs.RowsBack.{drop_back, price_back, room_back, row_back}
use Rattle.production_table.proofs.laws.changes_are_undone.Goals as goal

pub returns-clause-row : goal.returns-clause-row
returns-clause-row c = row_back

pub returns-clause-dropped_row : goal.returns-clause-dropped_row
returns-clause-dropped_row c = drop_back

pub returns-clause-dropped_room : goal.returns-clause-dropped_room
returns-clause-dropped_room c = room_back

pub returns-clause-price : goal.returns-clause-price
returns-clause-price c = price_back

pub returns-clause-want : goal.returns-clause-want
returns-clause-want c = wants_back

pub returns-clause-import : goal.returns-clause-import
returns-clause-import c = imports_back

pub returns-clause-surplus : goal.returns-clause-surplus
returns-clause-surplus c = surpluses_back
