use Rattle.std.proofs.Common.{◌∙◌, ◌<◌, List, length, subst, sym}
use Rattle.std.specs.Prelude.{All}
use Rattle.plan_base.specs.declared.ids.GoodId.{GoodId}
use Rattle.rocket_launches.specs.declared.silos.Silo.{Silo}
use Rattle.rocket_launches.proofs.Flights.{cargo_named, silos_named}
use Rattle.rocket_launches.proofs.TakenFlights.{taken_first_of_all}
use Rattle.rocket_launches.proofs.clashes.flight_taken.Goals as goal

pub known_middles-table-requires-clause-cargo : goal.known_middles-table-requires-clause-cargo
known_middles-table-requires-clause-cargo c = subst (λ (xs : List GoodId). All (λ (good : GoodId). good.0 < length c.args.game.now.item_names) xs) (sym c.requires.cargo) (cargo_named c.args.game.now c.requires.sound)

pub earliest_taken-requires-clause-cargo : goal.earliest_taken-requires-clause-cargo
earliest_taken-requires-clause-cargo c = subst (λ (xs : List GoodId). All (λ (good : GoodId). good.0 < length c.args.game.now.item_names) xs) (sym c.requires.cargo) (cargo_named c.args.game.now c.requires.sound)

pub earliest_taken-requires-clause-silos : goal.earliest_taken-requires-clause-silos
earliest_taken-requires-clause-silos c = subst (λ (xs : List Silo). All (λ (silo : Silo). silo.machine.0 < length c.args.game.now.machine_names) xs) (sym c.requires.silos) (silos_named c.args.game.now c.requires.sound)

pub returns : goal.returns
returns c =
    c.earliest_taken.ensures
    ∙ taken_first_of_all c.args.game.now c.args.silos.now c.args.cargo.now c.requires.sound c.names_differ.ensures.machines c.names_differ.ensures.items c.requires.silos c.requires.cargo
