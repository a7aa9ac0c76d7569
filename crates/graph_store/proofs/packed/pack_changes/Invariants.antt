use Rattle.std.proofs.Common.{◌≡◌}
use Rattle.graph_store.proofs.packed.pack_changes.Given as goal

abbrev pub invariant-loop-change : goal.invariant-loop-change
invariant-loop-change l = l.packed.items ≡ l.yielded
