use Rattle.std.proofs.Common.{ℕ, ◌<◌, All, get_or}
use Rattle.graph_store.specs.declared.Group.{Group}
use Rattle.rank_bench.proofs.graphs.is_row_below.Given as goal

abbrev pub invariant-loop-group : goal.invariant-loop-group
invariant-loop-group l =
    (k : ℕ) (d : Group) → k < l.group-index → All (λ m. m.0 < l.count) (get_or l.group-items k d).members
