use Rattle.std.proofs.Common.{List, subst, sym}
use Rattle.std.specs.Prelude.{All}
use Rattle.rocket_launches.specs.declared.silos.Flight.{Flight}
use Rattle.rocket_launches.specs.Launches.{IsThere}
use Rattle.rocket_launches.proofs.Flights.{all_there}
use Rattle.rocket_launches.proofs.adding.put_flights.Goals as goal

pub launch_names-requires-clause-there : goal.launch_names-requires-clause-there
launch_names-requires-clause-there c = subst (λ (xs : List Flight). All (IsThere c.args.game.now) xs) (sym c.requires.flights) (all_there c.args.game.now c.requires.sound)

pub launch_recipes-requires : goal.launch_recipes-requires
launch_recipes-requires c = subst (λ (xs : List Flight). All (IsThere c.args.game.now) xs) (sym c.requires.flights) (all_there c.args.game.now c.requires.sound)
