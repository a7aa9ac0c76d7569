use Rattle.script_runner.proofs.TrialNotes.{judges_noted}
use Rattle.script_runner.proofs.trial.judge_line.Goals as goal

pub returns-clause-note : goal.returns-clause-note
returns-clause-note g c =
    judges_noted c.note_of.result c.args.entries.now c.args.number c.args.line.now c.in_ok-reading.reading c.in_ok-said.said c.in_ok-table.table c.args.planner.now c.pose.new.planner c.args.steps.now c.pose.new.steps
    c.in_ok-reading.ensures c.in_ok-said.ensures.said c.in_ok-said.ensures.history c.in_ok-table.ensures c.in_ok-said.ensures.work c.note_of.ensures
