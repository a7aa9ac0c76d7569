use Rattle.std.proofs.Common.{sym}
use Rattle.rocket_launches.specs.Clashes.{ends_at}
use Rattle.rocket_launches.proofs.MiddleEnds.{no_colon, no_rest, ok_both, some_rest}
use Rattle.rocket_launches.proofs.cargo_middles.put_cut.Goals as goal

pub returns-in-Some-cargo_named-clause-put : goal.returns-in-Some-cargo_named-clause-put
returns-in-Some-cargo_named-clause-put c =
    ok_both c.put.result c.put.ensures.put c.put.ensures.others
    (some_rest c.args.game.now c.args.cargo c.args.name.now c.requires.name c.args.place c.requires.place c.in-Some.ensures.0 c.in-Some.middle.now c.in-Some.behind.now c.in-Some.ensures.1 c.in-Some.ensures.2
    (ends_at c.args.table.now) (ends_at c.put.new.table) c.in-Some-cargo_named.rest (sym c.in-Some-cargo_named.ensures))

pub returns-in-None-cargo_named-clause-put : goal.returns-in-None-cargo_named-clause-put
returns-in-None-cargo_named-clause-put c =
    no_rest c.args.game.now c.args.cargo c.args.name.now c.requires.name c.args.place c.requires.place c.in-Some.ensures.0 c.in-Some.middle.now c.in-Some.behind.now c.in-Some.ensures.1 c.in-Some.ensures.2
    (ends_at c.args.table.now) (sym c.in-None-cargo_named.ensures)

pub returns-in-None-clause-put : goal.returns-in-None-clause-put
returns-in-None-clause-put c = λ middle. no_colon c.args.game.now c.args.cargo c.args.name.now c.requires.name c.args.place middle (ends_at c.args.table.now middle) c.in-None.ensures
