use Rattle.std.proofs.Common.{◌≡◌, ◌++◌, ◌-◌}
use Rattle.planner_core.specs.Replies.{reached_from}
use Rattle.planner_core.proofs.reached.reached_from.Given as goal

abbrev pub invariant-loop-n : goal.invariant-loop-n
invariant-loop-n l = l.nodes.items ++ reached_from l.planning.book l.n (l.end - l.n) ≡ reached_from l.planning.book l.first (l.end - l.first)
