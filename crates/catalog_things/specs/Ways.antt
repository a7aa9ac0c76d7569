-- Recipes, sources and technologies, as members of objects of JSON.
use Rattle.std.specs.Prelude.{ℕ, false, List, [], ◌∷◌, Option, None, Some, codes, is_some, length, map, slice_index_or}
use Rattle.fractions.specs.Fraction.{Fraction, zero_fraction}
use Rattle.plan_base.specs.declared.ids.GoodId.{GoodId}
use Rattle.plan_base.specs.declared.ids.NodeId.{NodeId}
use Rattle.plan_base.specs.declared.ids.RecipeId.{RecipeId}
use Rattle.plan_base.specs.declared.ids.SourceId.{SourceId}
use Rattle.plan_base.specs.declared.ids.TechId.{TechId}
use Rattle.plan_base.specs.declared.shape.Kind.TheVariants.{Tech as TechNode}
use Rattle.game_types.specs.declared.games.Game.{Game}
use Rattle.game_types.specs.declared.recipes.Recipe.{Recipe}
use Rattle.game_types.specs.declared.recipes.Source.{Source}
use Rattle.game_types.specs.declared.research.Tech.{Tech}
use Rattle.game_types.specs.declared.setups.Activity.{Activity}
use Rattle.game_types.specs.declared.setups.Activity.TheVariants.{Craft, Mine, Research}
use Rattle.game_types.specs.Lookups.{recipe_at, source_at}
use Rattle.game_types.specs.Making.{character_crafts, character_mines}
use Rattle.depend_index.specs.declared.index.Index.{Index}
use Rattle.depend_index.specs.Goods.{unlockers}
use Rattle.serde_json.specs.Data.{Members}
use Rattle.catalog_members.specs.Members.{with_amount, with_amount_where, with_ids, with_true}
use Rattle.catalog_things.specs.Choices.{machines_for}
use Rattle.catalog_things.specs.Goods.{recipe_nodes}
use Rattle.catalog_things.specs.Nodes.{thing_node}
use Rattle.catalog_things.specs.Parts.{with_goods, with_parts, with_products, with_unless_one}

-- the machines that do an activity: just those for which no row of it is refused as K1 to K3
unfoldable pub with_by : Game → Activity → Members → Members
with_by g activity ms = with_ids (codes "by") g (machines_for g activity) ms

-- ---- recipes
unfoldable pub with_craft : Game → Index → Recipe → Members → Members
with_craft g index recipe ms =
    with_products (codes "out") g recipe.products
    (with_parts g index recipe.ingredients
    (with_unless_one (codes "emissions") recipe.emissions
    (with_amount (codes "time") recipe.time ms)))

unfoldable pub with_marks : Game → Recipe → Members → Members
with_marks g recipe ms =
    with_true (codes "launch") (is_some recipe.launch)
    (with_true (codes "hand") (character_crafts g.character (length g.items) recipe)
    (with_true (codes "enabled") recipe.enabled ms))

unfoldable pub with_recipe : Game → Index → RecipeId → Members → Members
with_recipe g index number ms =
    with_ids (codes "unlocked") g (unlockers g number.0)
    (with_by g (Craft number)
    (with_marks g (recipe_at g number)
    (with_craft g index (recipe_at g number) ms)))

-- ---- sources
-- the fluid that a source takes
unfoldable pub with_source_fluid : Game → Option (GoodId × Fraction) → Members → Members
with_source_fluid g None ms = ms
with_source_fluid g (Some fluid) ms = with_goods (codes "in") g (fluid ∷ []) ms

unfoldable pub with_mining : Game → Source → Members → Members
with_mining g source ms =
    with_source_fluid g source.fluid
    (with_products (codes "out") g source.products
    (with_true (codes "placed") source.placed
    (with_amount (codes "time") source.time ms)))

unfoldable pub with_source : Game → SourceId → Members → Members
with_source g number ms =
    with_true (codes "hand") (character_mines g.character (source_at g number))
    (with_by g (Mine number)
    (with_mining g (source_at g number) ms))

-- ---- technologies
unfoldable pub no_tech : Tech
no_tech = record { enabled = false; prerequisites = []; unlocks = []; ingredients = []; count = None; time = zero_fraction }

unfoldable pub tech_at : Game → TechId → Tech
tech_at g tech = slice_index_or g.techs tech.0 no_tech

unfoldable pub tech_nodes : Game → List TechId → List NodeId
tech_nodes g techs = map (λ t. thing_node g TechNode t.0) techs

unfoldable pub with_unit : Game → Tech → Members → Members
with_unit g tech ms =
    with_amount (codes "time") tech.time
    (with_amount_where (codes "count") tech.count
    (with_goods (codes "in") g tech.ingredients
    (with_true (codes "enabled") tech.enabled ms)))

unfoldable pub with_links : Game → Tech → Members → Members
with_links g tech ms =
    with_ids (codes "unlocks") g (recipe_nodes g tech.unlocks)
    (with_ids (codes "needs") g (tech_nodes g tech.prerequisites) ms)

unfoldable pub with_tech : Game → TechId → Members → Members
with_tech g number ms = with_by g (Research number) (with_links g (tech_at g number) (with_unit g (tech_at g number) ms))
