use Rattle.std.proofs.Common.{◌∙◌, None, Some, sym}
use Rattle.rocket_launches.proofs.Clashing.{ends_past, ends_rest}
use Rattle.rocket_launches.proofs.cargo_middles.ends_with.Goals as goal

pub returns-in-Some-cargo_named : goal.returns-in-Some-cargo_named
returns-in-Some-cargo_named c =
    sym (ends_rest c.args.game.now c.args.cargo c.args.middle.now c.in-Some.rest.now (Some c.in-Some-cargo_named.other) (sym c.name_at-name.ensures ∙ c.in-Some.ensures) (sym c.in-Some-cargo_named.ensures))

pub returns-in-None-cargo_named : goal.returns-in-None-cargo_named
returns-in-None-cargo_named c =
    sym (ends_rest c.args.game.now c.args.cargo c.args.middle.now c.in-Some.rest.now None (sym c.name_at-name.ensures ∙ c.in-Some.ensures) (sym c.in-None-cargo_named.ensures))

pub returns-in-None : goal.returns-in-None
returns-in-None c = sym (ends_past c.args.game.now c.args.cargo c.args.middle.now (λ rest same. c.in-None.ensures rest (c.name_at-name.ensures ∙ same)))
