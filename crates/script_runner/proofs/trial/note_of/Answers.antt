use Rattle.script_runner.specs.Verdicts.{claim_at}
use Rattle.script_runner.proofs.TrialNotes.{noted_form, noted_reply}
use Rattle.script_runner.proofs.trial.note_of.Goals as goal

pub returns-in-Reply : goal.returns-in-Reply
returns-in-Reply c =
    noted_reply c.reply_note.result (claim_at c.args.entries.now c.args.number) c.args.number c.args.planner.now.state.book.game c.args.table.now c.args.said.now c.in-Reply.reply c.in-Reply.is c.reply_note.ensures

pub returns-in-Linear : goal.returns-in-Linear
returns-in-Linear c =
    noted_form c.form_note.result (claim_at c.args.entries.now c.args.number) c.args.number c.args.planner.now.state.book.game c.args.table.now c.args.said.now c.in-Linear.linear c.in-Linear.is c.form_note.ensures
