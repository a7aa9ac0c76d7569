use Rattle.std.proofs.Common.{◌∙◌, ◌≤◌, length, arith}
use Rattle.rocket_launches.specs.Clashes.{ends_at}
use Rattle.rocket_launches.proofs.MiddleEnds.{at_end}
use Rattle.rocket_launches.proofs.cargo_middles.put_cargo.Goals as goal

pub returns-clause-put : goal.returns-clause-put
returns-clause-put c = λ middle.
    let end : length c.name_at-name.result.now ≤ c.loop-place.place = omega (arith, c.loop-place-test.false) in
    c.loop-place.invariant.put middle ∙ at_end c.args.game.now c.args.cargo c.name_at-name.result.now c.name_at-name.ensures c.loop-place.place middle (ends_at c.args.table.now middle) end
