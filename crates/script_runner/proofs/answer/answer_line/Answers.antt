use Rattle.std.proofs.Common.{ap, ◌∙◌}
use Rattle.std.proofs.lemmas.Result.{IfOk-weaker}
use Rattle.plan_report.specs.Replies.{printed_reply}
use Rattle.script_runner.proofs.AnswerLemmas.{answers_line}
use Rattle.script_runner.proofs.answer.answer_line.Goals as goal

pub returns-clause-answer : goal.returns-clause-answer
returns-clause-answer g c =
    IfOk-weaker c.told_as.result _ _
    (λ told says. answers_line c.args.number c.args.line.now c.in_ok-reading.reading c.in_ok-reply.reply c.args.planner.now c.reply_to.new.planner told.text told.refused told.solved c.args.steps.now c.reply_to.new.steps
    c.in_ok-reading.ensures c.in_ok-reply.ensures.reply c.in_ok-reply.ensures.history
    (says.0 ∙ ap (λ game. printed_reply game c.args.number c.in_ok-reply.reply) c.game.ensures.game) says.1 says.2 c.in_ok-reply.ensures.work)
    c.told_as.ensures
