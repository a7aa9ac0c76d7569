use Rattle.depend_rows.proofs.Below.{are_rows}
use Rattle.depend_rows.proofs.rows.rows_and_index.Goals as goal

pub returns-clause-graph : goal.returns-clause-graph
returns-clause-graph g c = are_rows c.args.book.now.game c.in_ok-rows.rows.items c.requires.game c.in_ok-rows.ensures.rows.0
