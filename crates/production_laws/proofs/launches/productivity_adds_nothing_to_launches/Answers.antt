use Rattle.production_laws.proofs.Catalysts.{launch_given}
use Rattle.production_laws.proofs.launches.productivity_adds_nothing_to_launches.Goals as goal

pub returns : goal.returns
returns c = λ one other item each. launch_given one other item.launch each
