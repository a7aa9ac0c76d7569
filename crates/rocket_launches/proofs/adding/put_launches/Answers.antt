use Rattle.rocket_launches.specs.declared.silos.Flight.{Flight}
use Rattle.rocket_launches.proofs.SoundLaunches.{flight_named, name_taken, names_launched}
use Rattle.rocket_launches.proofs.adding.put_launches.Goals as goal

abbrev nothing : Flight
nothing = record { silo = record { machine = record { 0 = 0 }; category = 0; part = record { 0 = 0 }; parts = 0 }; cargo = record { 0 = 0 } }

pub launch_fault-requires : goal.launch_fault-requires
launch_fault-requires c = flight_named c.args.game.now c.requires.sound c.args.all.now c.args.names.now c.in-Taken.place nothing c.requires.flights c.requires.names c.in-Taken.ensures.1

pub returns-in-Ok-clause-game : goal.returns-in-Ok-clause-game
returns-in-Ok-clause-game c = names_launched c.args.game.now c.args.all.now c.args.names.now c.add_names.new.names c.args.recipes.items c.put_recipes.new.game c.requires.sound c.requires.flights c.requires.room c.requires.names c.requires.recipes c.in-All.ensures.0 c.in-All.ensures.1 c.in-Ok.ensures

pub returns-in-Taken-clause-fault : goal.returns-in-Taken-clause-fault
returns-in-Taken-clause-fault c = λ memory.
    name_taken c.args.game.now c.args.all.now c.args.names.now c.add_names.new.names c.in-Taken.place nothing c.launch_fault.result c.requires.flights c.requires.names c.in-Taken.ensures.0 c.in-Taken.ensures.1 (c.launch_fault.ensures memory)
