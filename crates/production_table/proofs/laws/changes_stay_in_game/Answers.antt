use Rattle.production_table.proofs.StaysInGame.{drop_stays, empty_is, import_stays, power_stays, price_stays, put_stays, row_stays, surplus_stays, want_stays}
use Rattle.production_table.proofs.laws.changes_stay_in_game.Goals as goal

pub returns-clause-empty : goal.returns-clause-empty
returns-clause-empty c = empty_is

pub returns-clause-row : goal.returns-clause-row
returns-clause-row c = row_stays

pub returns-clause-dropped_row : goal.returns-clause-dropped_row
returns-clause-dropped_row c = drop_stays

pub returns-clause-put_row : goal.returns-clause-put_row
returns-clause-put_row c = put_stays

pub returns-clause-price : goal.returns-clause-price
returns-clause-price c = price_stays

pub returns-clause-want : goal.returns-clause-want
returns-clause-want c = want_stays

pub returns-clause-import : goal.returns-clause-import
returns-clause-import c = import_stays

pub returns-clause-surplus : goal.returns-clause-surplus
returns-clause-surplus c = surplus_stays

pub returns-clause-power : goal.returns-clause-power
returns-clause-power c = power_stays
