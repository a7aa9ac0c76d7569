use Rattle.std.proofs.lemmas.Result.{IfOk-weaker}
use Rattle.planner_core.proofs.Telling.{milestones_found, milestones_hidden}
use Rattle.planner_core.proofs.nodes.milestones_of.Goals as goal

pub returns-clause-milestones : goal.returns-clause-milestones
returns-clause-milestones g c =
    IfOk-weaker c.told_milestones.result _ _
    (λ told is. milestones_found c.args.planner.now c.ask_milestones.new.planner c.in_ok-reply.reply told c.in_ok-reply.ensures.reply is)
    c.told_milestones.ensures

pub returns-clause-none : goal.returns-clause-none
returns-clause-none g c =
    IfOk-weaker c.told_milestones.result _ _
    (λ told is. milestones_hidden c.args.planner.now c.ask_milestones.new.planner c.in_ok-reply.reply told c.in_ok-reply.ensures.reply is)
    c.told_milestones.ensures
