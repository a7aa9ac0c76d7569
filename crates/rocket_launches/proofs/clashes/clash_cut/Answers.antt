use Rattle.std.proofs.Common.{sym}
use Rattle.rocket_launches.proofs.ToldClashes.{other_silo, told_none, told_within}
use Rattle.rocket_launches.proofs.clashes.clash_cut.Goals as goal

pub has_none-requires : goal.has_none-requires
has_none-requires c = told_within c.args.game.now c.args.cargo.now c.args.table.now c.requires.table

pub clash_between-requires-clause-apart : goal.clash_between-requires-clause-apart
clash_between-requires-clause-apart c =
    other_silo c.args.game.now c.args.name.now c.in-Some.before.now c.args.place c.in-Some-silo_named.short c.args.long.now c.requires.name c.requires.within c.in-Some.ensures.1 (sym c.in-Some-silo_named.ensures)

pub returns-then-has_none : goal.returns-then-has_none
returns-then-has_none c =
    told_none c.args.game.now c.args.long.now c.args.place c.args.name.now c.in-Some.middle.now c.args.cargo.now c.args.table.now c.requires.table c.if-has_none.ensures c.requires.name c.requires.within c.in-Some.ensures.2
