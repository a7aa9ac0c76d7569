use Rattle.std.proofs.Common.{◌≡◌, length}
use Rattle.state_changes.specs.States.{State}
use Rattle.planner_core.specs.Lines.{IsSessionOf}
use Rattle.script_runner.proofs.LeadingLemmas.{SoFar}
use Rattle.script_runner.proofs.stepping.step_lines.Given as goal

abbrev pub invariant-loop-line : goal.invariant-loop-line
invariant-loop-line g l = record {
  so_far : SoFar l.initial.planner l.lines l.left.rest.now l.fn.before l.planner l.done;
  number : l.left.count ≡ l.done.count;
  history : (base : State) → IsSessionOf base l.initial.planner → IsSessionOf base l.planner;
}

abbrev pub decreases-loop-line : goal.decreases-loop-line
decreases-loop-line g l = length l.left.rest.now
