use Rattle.catalog_things.proofs.Offered.{passes_rest, right_machine}
use Rattle.catalog_things.proofs.laws.offered_rows_are_not_refused.Goals as goal

pub returns-clause-machine : goal.returns-clause-machine
returns-clause-machine c = right_machine

pub returns-clause-parts : goal.returns-clause-parts
returns-clause-parts c = passes_rest
