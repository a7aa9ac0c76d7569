use Rattle.std.proofs.Common.{ap, ◌∙◌}
use Rattle.std.proofs.lemmas.Result.{IfOk-weaker}
use Rattle.plan_report.specs.Replies.{printed_reply}
use Rattle.session_lines.proofs.Telling.{told as is_told}
use Rattle.session_lines.proofs.script.answer_script.Goals as goal

pub returns-clause-answer : goal.returns-clause-answer
returns-clause-answer g c =
    IfOk-weaker c.told_as.result _ _
    (λ told says. is_told c.args.number c.args.line.now c.in_ok-reading.reading c.in_ok-reply.reply c.args.planner.now c.reply_to.new.planner told.text told.refused
    c.in_ok-reading.ensures c.in_ok-reply.ensures.reply c.in_ok-reply.ensures.history
    (says.0 ∙ ap (λ game. printed_reply game c.args.number c.in_ok-reply.reply) c.game.ensures.game) says.1)
    c.told_as.ensures
