use Rattle.std.proofs.Common.{refl}
use Rattle.run_inputs.proofs.LoadLemmas.{ends_loading, many_members}
use Rattle.run_inputs.proofs.load.load.Goals as goal

pub returns-in-Err-plan-clause-planner : goal.returns-in-Err-plan-clause-planner
returns-in-Err-plan-clause-planner g c =
    ends_loading c.args.dump.items c.in-Err-plan.fault c.in-Err-plan.fault.code c.end_by.result _ refl c.end_by.ensures.memory c.end_by.ensures.refused
    (λ some. many_members c.args.dump.items c.in-Ok.game c.in-Err-plan.fault _ c.in-Ok.ensures.game (c.in-Err-plan.ensures.planner some))
