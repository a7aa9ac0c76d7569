use Rattle.production_laws.proofs.Dumped.{dumped_launches}
use Rattle.production_laws.proofs.launches.dumps_have_their_launches.Goals as goal

pub returns : goal.returns
returns c = λ dump game has sound. dumped_launches dump game has sound
