use Rattle.std.proofs.Common.{◌≡◌, take}
use Rattle.planner_core.proofs.questions.milestones.Given as goal

abbrev pub invariant-loop-place : goal.invariant-loop-place
invariant-loop-place l = l.nodes.items ≡ take l.place l.planning.milestones
