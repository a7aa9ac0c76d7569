use Rattle.script_runner.proofs.AlikeLemmas.{alike_next}
use Rattle.script_runner.proofs.FollowLemmas.{sessions_alike}
use Rattle.script_runner.proofs.laws.lines_lead_to_one_planner.Goals as goal

pub returns-clause-line : goal.returns-clause-line
returns-clause-line c = λ base number asked p q r s one other alike from too step also. alike_next base number p q asked r s one other alike from too step also

pub returns-clause-session : goal.returns-clause-session
returns-clause-session c = λ base p q r s lines answers others alike from too session also. sessions_alike base p q lines answers others r s alike from too session also
