use Rattle.std.proofs.Common.{◌≡◌, ◌++◌, drop, map}
use Rattle.planner_core.specs.Replies.{why_line}
use Rattle.planner_core.proofs.questions.why_lines.Given as goal

abbrev pub invariant-loop-node : goal.invariant-loop-node
invariant-loop-node l = l.lines.items ++ map (why_line l.planning.book) (drop l.node-index l.nodes) ≡ map (why_line l.planning.book) l.nodes
