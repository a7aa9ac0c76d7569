use Rattle.std.proofs.Common.{◌∙◌}
use Rattle.std.proofs.lemmas.Result.{err_from_is_err_and}
use Rattle.game_reader.proofs.Chain.{then_fails, then_is}
use Rattle.game_reader.specs.Lists.{linked_ways}
use Rattle.game_reader.proofs.links.link_ways.Goals as goal

pub returns-in_err-recipes : goal.returns-in_err-recipes
unfolding linked_ways
returns-in_err-recipes c =
    let p = err_from_is_err_and c.from_residual.result c.from_residual.ensures.1 in
    rw (p.1, p.2) (λ memory. then_fails _ _ c.in_err-recipes.field-0.0 (c.in_err-recipes.ensures memory))

pub returns-in_err-sources : goal.returns-in_err-sources
unfolding linked_ways
returns-in_err-sources c =
    let p = err_from_is_err_and c.from_residual-in_err-sources.result c.from_residual-in_err-sources.ensures.1 in
    rw (p.1, p.2) (λ memory. then_is _ _ c.in_ok-recipes.recipes c.in_ok-recipes.ensures ∙ then_fails _ _ c.in_err-sources.field-0.0 (c.in_err-sources.ensures memory))

pub returns : goal.returns
unfolding linked_ways
returns c = then_is _ _ c.in_ok-recipes.recipes c.in_ok-recipes.ensures ∙ then_is _ _ c.in_ok-sources.sources c.in_ok-sources.ensures
