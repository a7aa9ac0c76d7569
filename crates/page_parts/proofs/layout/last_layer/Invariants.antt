use Rattle.std.proofs.Common.{◌≤◌}
use Rattle.page_parts.proofs.layout.last_layer.Given as goal

abbrev pub invariant-loop-layer : goal.invariant-loop-layer
invariant-loop-layer l = l.last ≤ 1_000_000
