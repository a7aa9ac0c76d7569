use Rattle.std.proofs.Common.{◌≡◌, ◌++◌, drop}
use Rattle.planner_core.specs.Replies.{missing_lines}
use Rattle.planner_core.proofs.questions.missing_lines.Given as goal

abbrev pub invariant-loop-group : goal.invariant-loop-group
invariant-loop-group l = l.lines.items ++ missing_lines (drop l.group-index l.groups) ≡ missing_lines l.groups
