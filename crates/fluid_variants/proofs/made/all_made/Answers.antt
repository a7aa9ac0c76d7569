use Rattle.std.proofs.Common.{◌∙◌, ◌++◌, ap}
use Rattle.std.specs.List.{filter_map, flat_map}
use Rattle.fluid_variants.specs.Temperatures.{all_made, machine_made, product_made}
use Rattle.fluid_variants.proofs.made.all_made.Goals as goal

pub returns : goal.returns
unfolding all_made
returns c =
    let game = c.args.game.now in
    c.in_ok-put_machines.ensures
    ∙ ap (λ xs. xs ++ filter_map (λ machine. machine_made game machine.kind) game.machines)
    (c.in_ok-put_sources.ensures
    ∙ ap (λ xs. xs ++ flat_map (λ source. filter_map (product_made game) source.products) game.sources)
    (c.in_ok-put_recipes.ensures ∙ ap (λ xs. xs ++ flat_map (λ recipe. filter_map (product_made game) recipe.products) game.recipes) c.new-list.ensures.items))
