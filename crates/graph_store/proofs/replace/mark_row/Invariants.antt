use Rattle.std.proofs.Common.{take}
use Rattle.std.specs.List.{list_any}
use Rattle.graph_store.specs.Rows.{has_node}
use Rattle.graph_store.specs.Replace.{Marks}
use Rattle.graph_store.proofs.replace.mark_row.Given as goal

abbrev pub invariant-loop-group : goal.invariant-loop-group
invariant-loop-group l =
    Marks (λ n. list_any (λ group. has_node group.members n) (take l.group-index l.group-items)) l.mark l.initial.marks l.marks
