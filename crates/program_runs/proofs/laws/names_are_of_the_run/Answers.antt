use Rattle.program_runs.proofs.NameLemmas.{names_are}
use Rattle.program_runs.proofs.laws.names_are_of_the_run.Goals as goal

pub returns : goal.returns
returns c = names_are
