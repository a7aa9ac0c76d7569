use Rattle.std.proofs.Common.{◌≡◌, IfOk, refl, subst}
use Rattle.plan_lines.specs.declared.command.Command.{Command}
use Rattle.plan_lines.specs.declared.command.Command.TheVariants as command
use Rattle.planner_core.specs.Posing.{IsPosed}
use Rattle.planner_core.proofs.PosingLemmas.{posed_held, posed_other, posed_solve}
use Rattle.planner_core.proofs.planner.Planner.pose.Goals as goal

pub returns-then-is_open-clause-posed : goal.returns-then-is_open-clause-posed
returns-then-is_open-clause-posed g c = posed_held c.pose_reply.result c.args.line c.args.self.now c.args.command c.pose_reply.new.self (c.if-is_open.ensures.open_ refl) c.pose_reply.ensures.posed

pub returns-in-Solve-clause-posed : goal.returns-in-Solve-clause-posed
returns-in-Solve-clause-posed g c =
    let same : command.Solve c.in-Solve.table c.in-Solve.budget ≡ c.args.command = cc (c.in-Solve.is) in
    subst (λ (asked : Command). IfOk c.pose_form.result (λ said. IsPosed c.args.line c.args.self.now asked c.args.self.now said)) same
    (posed_solve c.pose_form.result c.args.line c.args.self.now c.in-Solve.table c.in-Solve.budget (c.if-is_open.ensures.free refl) c.pose_form.ensures.posed)

pub returns-in_default-clause-posed : goal.returns-in_default-clause-posed
returns-in_default-clause-posed g c =
    posed_other c.pose_reply-in_default.result c.args.line c.args.self.now c.args.command c.pose_reply-in_default.new.self (λ table budget is. c.in_default.not-Solve table budget is) c.pose_reply-in_default.ensures.posed
