use Rattle.production_laws.proofs.Reached.{launch_reached}
use Rattle.production_laws.proofs.launches.launches_are_reached_by_their_parts.Goals as goal

pub returns : goal.returns
returns c = λ g barred granted extra recipe silo cargo item is plain. launch_reached g barred granted extra recipe silo cargo item is plain
