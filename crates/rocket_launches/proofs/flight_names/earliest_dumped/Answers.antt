use Rattle.std.proofs.Common.{◌∙◌, ap, sym}
use Rattle.std.specs.Prelude.{option_and_then, slice_get}
use Rattle.rocket_launches.specs.Clashes.{dumped_flight, least_below, sooner}
use Rattle.rocket_launches.proofs.Earliest.{one_got}
use Rattle.rocket_launches.proofs.flight_names.earliest_dumped.Goals as goal

pub loop-number-preserved : goal.loop-number-preserved
loop-number-preserved c =
    c.sooner-least.ensures
    ∙ ap (λ a. sooner a c.dumped_flight.result) c.loop-number.invariant
    ∙ ap (sooner (least_below (λ k. option_and_then (dumped_flight c.args.game.now) (slice_get c.args.game.now.recipe_names k)) c.loop-number.number)) c.dumped_flight.ensures
    ∙ sym (one_got (dumped_flight c.args.game.now) c.args.game.now.recipe_names c.loop-number.number c.name_of-name.result.now c.name_of-name.ensures.name)
