use Rattle.std.proofs.Common.{◌∙◌, sym}
use Rattle.rocket_launches.proofs.FlightPlaces.{made_flights}
use Rattle.rocket_launches.proofs.SoundLaunches.{enough_room, none_found}
use Rattle.rocket_launches.proofs.adding.put_all.Goals as goal

pub put_flights-requires-clause-flights : goal.put_flights-requires-clause-flights
put_flights-requires-clause-flights c = c.as_slice.ensures.value ∙ c.in-Ok.ensures ∙ made_flights c.args.game.now c.args.silos.now c.args.cargo.now c.requires.silos c.requires.cargo

pub put_flights-requires-clause-room : goal.put_flights-requires-clause-room
put_flights-requires-clause-room c =
    enough_room c.args.game.now c.requires.sound c.as_slice.result.now (c.as_slice.ensures.value ∙ c.in-Ok.ensures ∙ made_flights c.args.game.now c.args.silos.now c.args.cargo.now c.requires.silos c.requires.cargo) (sym c.flight_beyond.ensures ∙ none_found c.flight_beyond.result c.in_default.not-Some)
