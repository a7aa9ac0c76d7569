use Rattle.std.proofs.Common.{◌≡◌, ◌++◌, drop, map}
use Rattle.rocket_launches.specs.Launches.{launch_recipe}
use Rattle.rocket_launches.proofs.launches.launch_recipes.Given as goal

abbrev pub invariant-loop-flight : goal.invariant-loop-flight
invariant-loop-flight l = l.recipes.items ++ map (launch_recipe l.game) (drop l.flight-index l.flights) ≡ map (launch_recipe l.game) l.flights
