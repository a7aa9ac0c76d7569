use Rattle.std.proofs.Common.{◌/◌, length}
use Rattle.rocket_launches.proofs.FlightPlaces.{flight_past, flight_there, silo_there, silos_past, some_cargo}
use Rattle.rocket_launches.proofs.adding.flight_at.Goals as goal

pub returns-in-Some : goal.returns-in-Some
returns-in-Some c =
    flight_there c.args.silos.now c.args.cargo.now c.args.place (record { 0 = 0 }) c.in-Some.silo.now (some_cargo (length c.args.cargo.now) c.if-is_empty.ensures)
    (silo_there c.args.silos.now (c.args.place / length c.args.cargo.now) c.in-Some.silo.now c.in-Some.ensures.lookup.0 c.in-Some.ensures.lookup.1)

pub returns-in-None : goal.returns-in-None
returns-in-None c =
    flight_past c.args.silos.now c.args.cargo.now c.args.place (some_cargo (length c.args.cargo.now) c.if-is_empty.ensures)
    (silos_past c.args.silos.now (c.args.place / length c.args.cargo.now) c.in-None.ensures.lookup.0)
