-- What the test tells of each row.
use Rattle.wish_checks.proofs.MetLemmas.{fitting_where}
use Rattle.wish_checks.proofs.solving.are_fitting.Goals as goal

pub returns-clause-fitting : goal.returns-clause-fitting
returns-clause-fitting c = fitting_where c.args.game.now c.args.rows.now c.all_fit.result c.all_fit.ensures
