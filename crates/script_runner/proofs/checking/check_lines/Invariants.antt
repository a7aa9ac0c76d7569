use Rattle.std.proofs.Common.{◌≡◌, ◌≤◌, length}
use Rattle.state_changes.specs.States.{State}
use Rattle.planner_core.specs.Lines.{IsSessionOf}
use Rattle.script_runner.proofs.TrialLemmas.{Judging}
use Rattle.script_runner.proofs.checking.check_lines.Given as goal

abbrev pub invariant-loop-line : goal.invariant-loop-line
invariant-loop-line g l = record {
  so_far : Judging l.entries l.initial.planner l.planner l.script l.lines.rest.now l.lines.count l.refused l.proved l.forms (g.K.Sink.written l.initial.out) (g.K.Sink.written l.out) l.initial.steps l.steps;
  history : (base : State) → IsSessionOf base l.initial.planner → IsSessionOf base l.planner;
  limit : g.K.Sink.limit l.out ≡ g.K.Sink.limit l.initial.out;
  faults : g.K.Sink.faults l.initial.out ≤ g.K.Sink.faults l.out;
}

abbrev pub decreases-loop-line : goal.decreases-loop-line
decreases-loop-line g l = length l.lines.rest.now
