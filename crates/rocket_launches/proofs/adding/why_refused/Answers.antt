use Rattle.std.proofs.Common.{◌∙◌, sym}
use Rattle.rocket_launches.proofs.SoundLaunches.{beyond_named, limit_first, taken_named, twice_first}
use Rattle.rocket_launches.proofs.adding.why_refused.Goals as goal

pub returns-in-Some-clause-refused : goal.returns-in-Some-clause-refused
returns-in-Some-clause-refused c = twice_first c.args.game.now c.in-Some.flight (sym c.in-Some.is ∙ c.flight_taken.ensures)

pub returns-in-Some-clause-named : goal.returns-in-Some-clause-named
returns-in-Some-clause-named c = taken_named c.args.game.now c.requires.sound c.in-Some.flight (sym c.in-Some.is ∙ c.flight_taken.ensures)

pub returns-in-None-clause-refused : goal.returns-in-None-clause-refused
returns-in-None-clause-refused c = limit_first c.args.game.now c.args.beyond.now (sym c.in-None.is ∙ c.flight_taken.ensures) c.requires.beyond

pub returns-in-None-clause-named : goal.returns-in-None-clause-named
returns-in-None-clause-named c = beyond_named c.args.game.now c.requires.sound c.args.beyond.now c.requires.beyond
