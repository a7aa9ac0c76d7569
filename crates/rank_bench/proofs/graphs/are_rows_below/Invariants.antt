use Rattle.std.proofs.Common.{ℕ, ◌<◌, get_or}
use Rattle.graph_store.specs.declared.Row.{Row}
use Rattle.graph_store.specs.Rows.{HasMembersBelow}
use Rattle.rank_bench.proofs.graphs.are_rows_below.Given as goal

abbrev pub invariant-loop-row : goal.invariant-loop-row
invariant-loop-row l = (k : ℕ) (d : Row) → k < l.row-index → HasMembersBelow l.count (get_or l.rows k d)
