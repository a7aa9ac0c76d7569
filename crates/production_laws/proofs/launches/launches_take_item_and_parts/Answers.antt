use Rattle.production_laws.proofs.LaunchLemmas.{launch_takes}
use Rattle.production_laws.proofs.launches.launches_take_item_and_parts.Goals as goal

pub returns : goal.returns
returns c = launch_takes
