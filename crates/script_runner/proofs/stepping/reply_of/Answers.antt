use Rattle.std.proofs.lemmas.Result.{IfOk-weaker}
use Rattle.script_runner.proofs.LeadingLemmas.{tells_reply}
use Rattle.script_runner.proofs.stepping.reply_of.Goals as goal

pub returns-clause-answered : goal.returns-clause-answered
returns-clause-answered g c =
    IfOk-weaker c.reply_to.result _ _
    (λ reply replied. tells_reply c.args.number c.args.line.now c.in_ok-reading.reading c.args.planner.now c.reply_to.new.planner reply c.in_ok-reading.ensures replied c.reply_to.ensures.history)
    c.reply_to.ensures.reply
