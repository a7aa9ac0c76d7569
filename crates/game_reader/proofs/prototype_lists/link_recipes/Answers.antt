use Rattle.std.proofs.Common.{◌∙◌}
use Rattle.game_reader.proofs.Loops.{linked_first, linked_more, linked_fails}
use Rattle.game_reader.proofs.prototype_lists.link_recipes.Goals as goal

pub loop-recipe-init : goal.loop-recipe-init
loop-recipe-init c =
    let g = c.into_iter-recipe-iterator.ensures.into_iter_gives in linked_first g.0 (g.1 ∙ c.args.recipes.ok.0) c.new-linked.ensures.items c.requires

pub loop-recipe-preserved : goal.loop-recipe-preserved
loop-recipe-preserved c =
    let s = c.in-Some.ensures.steps in
    linked_more c.loop-recipe.invariant s.0 s.1 c.next_name-name.ensures c.in-Ok.ensures c.in_ok-put-in-Ok.ensures.list

pub returns-in-Err : goal.returns-in-Err
returns-in-Err c = λ out. linked_fails c.loop-recipe.invariant c.in-Some.ensures.steps.0 c.next_name-name.ensures (c.in-Err.ensures out)
