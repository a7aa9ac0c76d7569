use Rattle.std.proofs.Common.{◌≡◌}
use Rattle.std.specs.Prelude.{option_and_then, slice_get}
use Rattle.rocket_launches.specs.Clashes.{dumped_flight, least_below}
use Rattle.rocket_launches.proofs.flight_names.earliest_dumped.Given as goal

abbrev pub invariant-loop-number : goal.invariant-loop-number
invariant-loop-number l = l.least ≡ least_below (λ k. option_and_then (dumped_flight l.game) (slice_get l.game.recipe_names k)) l.number
