use Rattle.std.proofs.Common.{◌∙◌, ap}
use Rattle.std.specs.Prelude.{option_and_then}
use Rattle.rocket_launches.specs.Clashes.{later_with}
use Rattle.rocket_launches.proofs.ToldClashes.{told_between}
use Rattle.rocket_launches.proofs.clashes.clash_between.Goals as goal

pub returns-in-Some : goal.returns-in-Some
returns-in-Some c =
    c.later_with.ensures ∙ ap (option_and_then (later_with c.args.short.now c.args.long.now)) c.ends_of.ensures
    ∙ told_between c.args.game.now c.args.short.now c.args.long.now c.args.middle.now c.args.cargo.now c.args.table.now c.in-Some.middles c.in-Some.is c.requires.table c.requires.apart
