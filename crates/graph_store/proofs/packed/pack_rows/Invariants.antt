use Rattle.std.proofs.Common.{◌≡◌}
use Rattle.graph_store.proofs.packed.pack_rows.Given as goal

abbrev pub invariant-loop-row : goal.invariant-loop-row
invariant-loop-row l = l.packed.items ≡ l.yielded
