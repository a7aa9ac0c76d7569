use Rattle.linear_table.specs.Plans.{number_at}
use Rattle.number_rows.proofs.Steps.{reduced_same}
use Rattle.number_rows.proofs.row.NumberRow.reduce_at.Goals as goal

pub returns-then-is_zero-clause-ok : goal.returns-then-is_zero-clause-ok
returns-then-is_zero-clause-ok c = reduced_same c.args.self.now.items (number_at c.args.self.now.items c.args.enter) c.args.pivot_row.now.items (c.is_zero.ensures.0 c.if-is_zero.true) c.requires.narrow
