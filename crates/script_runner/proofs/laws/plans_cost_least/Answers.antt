use Rattle.std.specs.Prelude.{slice_index_or}
use Rattle.script_runner.proofs.PlanLemmas.{solves_rightly}
use Rattle.script_runner.proofs.laws.plans_cost_least.Goals as goal

pub returns : goal.returns
returns c = λ first last lines answers session k d within. solves_rightly (slice_index_or answers k d) (session.each k d within)
