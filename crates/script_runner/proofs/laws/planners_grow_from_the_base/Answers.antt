use Rattle.std.proofs.Common.{slice_index_or}
use Rattle.script_runner.proofs.SessionLemmas.{afresh, grown}
use Rattle.script_runner.proofs.laws.planners_grow_from_the_base.Goals as goal

pub returns-clause-grown : goal.returns-clause-grown
returns-clause-grown c = λ base first last lines answers session from. (grown base first last lines answers session from).0

pub returns-clause-afresh : goal.returns-clause-afresh
returns-clause-afresh c = λ base first last lines answers session from k d within.
    let both = (grown base first last lines answers session from).0 k d within in
    (afresh base (slice_index_or answers k d).before both.0, afresh base (slice_index_or answers k d).after both.1)
