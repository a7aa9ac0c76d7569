use Rattle.std.proofs.Common.{◌∙◌}
use Rattle.std.proofs.lemmas.Result.{err_from_is_err_and}
use Rattle.game_reader.proofs.Chain.{then_fails, then_is}
use Rattle.game_reader.specs.Lists.{linked_means}
use Rattle.game_reader.proofs.links.link_means.Goals as goal

pub returns-in_err-machines : goal.returns-in_err-machines
unfolding linked_means
returns-in_err-machines c =
    let p = err_from_is_err_and c.from_residual.result c.from_residual.ensures.1 in
    rw (p.1, p.2) (λ memory. then_fails _ _ c.in_err-machines.field-0.0 (c.in_err-machines.ensures memory))

pub returns-in_err-techs : goal.returns-in_err-techs
unfolding linked_means
returns-in_err-techs c =
    let p = err_from_is_err_and c.from_residual-in_err-techs.result c.from_residual-in_err-techs.ensures.1 in
    rw (p.1, p.2) (λ memory. then_is _ _ c.in_ok-machines.machines c.in_ok-machines.ensures ∙ then_fails _ _ c.in_err-techs.field-0.0 (c.in_err-techs.ensures memory))

pub returns : goal.returns
unfolding linked_means
returns c = then_is _ _ c.in_ok-machines.machines c.in_ok-machines.ensures ∙ then_is _ _ c.in_ok-techs.techs c.in_ok-techs.ensures
