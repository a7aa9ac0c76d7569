use Rattle.std.proofs.Common.{refl}
use Rattle.planner_core.proofs.StepLemmas.{free-steps, open-steps}
use Rattle.planner_core.proofs.planner.Planner.step.Goals as goal

pub returns-else-is_open-clause-reply : goal.returns-else-is_open-clause-reply
returns-else-is_open-clause-reply g c = free-steps c.step_free.result c.args.line c.args.self.now c.args.command c.step_free.new.self (c.if-is_open.ensures.free refl) c.step_free.ensures.history c.step_free.ensures.reply

pub returns-then-is_open-clause-reply : goal.returns-then-is_open-clause-reply
returns-then-is_open-clause-reply g c = open-steps c.step_open.result c.args.line c.args.self.now c.args.command c.step_open.new.self (c.if-is_open.ensures.open_ refl) c.step_open.ensures.history c.step_open.ensures.reply
