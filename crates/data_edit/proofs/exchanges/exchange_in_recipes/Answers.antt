use Rattle.std.proofs.Common.{sym}
use Rattle.data_edit.specs.Edits.{with_recipe_part}
use Rattle.plan_base.proofs.Places.{put_at, put_back, with_at-past}
use Rattle.data_edit.proofs.exchanges.exchange_in_recipes.Goals as goal

pub returns-then-place-recipes-clause-after : goal.returns-then-place-recipes-clause-after
returns-then-place-recipes-clause-after c = put_at (with_recipe_part c.args.part) c.args.place c.args.recipes.now _ _ c.if-place-recipes.true c.exchange_in_recipe.ensures.after

pub returns-then-place-recipes-clause-back : goal.returns-then-place-recipes-clause-back
returns-then-place-recipes-clause-back c = put_back (with_recipe_part c.exchange_in_recipe.result) c.args.place c.args.recipes.now _ _ c.if-place-recipes.true c.exchange_in_recipe.ensures.back

pub returns-else-place-recipes-clause-after : goal.returns-else-place-recipes-clause-after
returns-else-place-recipes-clause-after c = sym (with_at-past (with_recipe_part c.args.part) c.args.place c.args.recipes.now c.if-place-recipes.false)

pub returns-else-place-recipes-clause-back : goal.returns-else-place-recipes-clause-back
returns-else-place-recipes-clause-back c = with_at-past (with_recipe_part c.args.part) c.args.place c.args.recipes.now c.if-place-recipes.false
