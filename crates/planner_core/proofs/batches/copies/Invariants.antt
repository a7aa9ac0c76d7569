use Rattle.std.proofs.Common.{◌≡◌, ◌++◌, drop}
use Rattle.planner_core.specs.Lines.{changes_of}
use Rattle.planner_core.proofs.batches.copies.Given as goal

abbrev pub invariant-loop-change : goal.invariant-loop-change
invariant-loop-change l = l.edits.items ++ changes_of (drop l.change-index l.held) ≡ changes_of l.held
