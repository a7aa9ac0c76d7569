use Rattle.script_runner.proofs.LeadingLemmas.{answers_so}
use Rattle.script_runner.proofs.stepping.seen_line.Goals as goal

pub returns-clause-answered : goal.returns-clause-answered
returns-clause-answered g c =
    answers_so c.args.number c.args.line.now c.args.planner.now c.reply_of.new.planner c.in_ok-reply.reply c.is_refusal-refused.result c.is_plan-planned.result
    c.in_ok-reply.ensures.answered c.is_refusal-refused.ensures c.is_plan-planned.ensures
