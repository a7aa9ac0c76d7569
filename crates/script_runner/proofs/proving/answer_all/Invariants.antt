use Rattle.std.proofs.Common.{length}
use Rattle.state_changes.specs.States.{State}
use Rattle.planner_core.specs.Lines.{IsSessionOf}
use Rattle.script_runner.proofs.ProvingLemmas.{Proving}
use Rattle.script_runner.proofs.proving.answer_all.Given as goal

abbrev pub invariant-loop-line : goal.invariant-loop-line
invariant-loop-line g l = record {
  so_far : Proving l.initial.planner l.planner l.script l.lines.rest.now l.lines.count l.refused l.solved.items l.entries.items l.initial.steps l.steps;
  history : (base : State) → IsSessionOf base l.initial.planner → IsSessionOf base l.planner;
}

abbrev pub decreases-loop-line : goal.decreases-loop-line
decreases-loop-line g l = length l.lines.rest.now
