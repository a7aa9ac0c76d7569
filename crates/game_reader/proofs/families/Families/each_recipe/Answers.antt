use Rattle.game_reader.specs.Links.{recipe_named}
use Rattle.game_reader.proofs.Loops.{each_fails, each_first, each_more}
use Rattle.game_reader.proofs.families.Families.each_recipe.Goals as goal

pub loop-name-init : goal.loop-name-init
loop-name-init c = each_first (recipe_named c.args.self.now c.args.within c.args.key) c.as_slice-name-items.result.now c.new-recipes.result.items c.new-recipes.ensures.items

pub loop-name-preserved : goal.loop-name-preserved
loop-name-preserved c =
    each_more (recipe_named c.args.self.now c.args.within c.args.key) c.as_slice-name-items.result.now c.loop-name.name-index c.name-item.result c.as_str.result.now c.loop-name.recipes.items c.push.new.self.items c.in-Ok.recipe
    c.loop-name-test.true c.name-item.is c.as_str.ensures c.in-Ok.ensures c.in_ok-push-in-Ok.ensures.items c.loop-name.invariant

pub returns-in-Err : goal.returns-in-Err
returns-in-Err c = λ refused.
    each_fails (recipe_named c.args.self.now c.args.within c.args.key) c.as_slice-name-items.result.now c.args.names.now c.loop-name.name-index c.name-item.result c.as_str.result.now c.loop-name.recipes.items c.in-Err.fault
    c.loop-name-test.true c.name-item.is c.as_str.ensures c.in-Err.ensures c.as_slice-name-items.ensures c.loop-name.invariant
