use Rattle.std.proofs.Common.{take}
use Rattle.graph_store.specs.Rows.{has_node}
use Rattle.graph_store.specs.Replace.{Marks}
use Rattle.graph_store.proofs.replace.mark_each.Given as goal

abbrev pub invariant-loop-m : goal.invariant-loop-m
invariant-loop-m l = Marks (λ n. has_node (take l.m-index l.members) n) l.mark l.initial.marks l.marks
