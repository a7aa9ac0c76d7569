use Rattle.std.proofs.Common.{◌≡◌, map}
use Rattle.std.specs.List.{range_with_len}
use Rattle.planning_state.specs.Worlds.{is_reached}
use Rattle.planner_core.proofs.reached.reached_marks.Given as goal

abbrev pub invariant-loop-n : goal.invariant-loop-n
invariant-loop-n l = l.marks.items ≡ map (is_reached l.planning.book) (range_with_len 0 l.n)
