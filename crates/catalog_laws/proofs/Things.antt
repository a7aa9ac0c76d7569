-- Every thing is plain, and nests at most four deep.
use Rattle.std.proofs.Common.{◌+◌, ℕ, List, arith}
use Rattle.std.specs.Prelude.{Option, None, Some, is_some, length, nat_lt, slice_get}
use Rattle.fractions.specs.Fraction.{Fraction}
use Rattle.plan_base.specs.declared.ids.GoodId.{GoodId}
use Rattle.plan_base.specs.declared.ids.NodeId.{NodeId}
use Rattle.plan_base.specs.declared.ids.RecipeId.{RecipeId}
use Rattle.plan_base.specs.declared.ids.SourceId.{SourceId}
use Rattle.plan_base.specs.declared.ids.TechId.{TechId}
use Rattle.plan_base.specs.declared.shape.Kind.{Kind}
use Rattle.plan_base.specs.declared.shape.Kind.TheVariants.{Special, Item, Fluid, Recipe, Source, Machine, Tech}
use Rattle.game_types.specs.declared.games.Game.{Game}
use Rattle.game_types.specs.declared.goods.Item.{Item as ItemRecord}
use Rattle.game_types.specs.declared.goods.Fluid.{Fluid as FluidRecord}
use Rattle.game_types.specs.declared.recipes.Recipe.{Recipe as RecipeRecord}
use Rattle.game_types.specs.declared.recipes.Source.{Source as SourceRecord}
use Rattle.game_types.specs.declared.research.Tech.{Tech as TechRecord}
use Rattle.game_types.specs.declared.setups.Activity.{Activity}
use Rattle.game_types.specs.Lookups.{recipe_at, source_at}
use Rattle.game_types.specs.Making.{character_crafts, character_mines}
use Rattle.depend_index.specs.declared.index.Index.{Index}
use Rattle.serde_json.specs.Data.{Members, no_members}
use Rattle.catalog_things.specs.Ways.{tech_at, with_by, with_craft, with_links, with_marks, with_mining, with_recipe, with_source, with_source_fluid, with_tech, with_unit}
use Rattle.catalog_text.specs.declared.fields.Shown.{Shown}
use Rattle.catalog_text.specs.Things.{thing_value, with_fluid_where, with_head, with_item_where, with_kind, with_shown, with_shown_where}
use Rattle.catalog_laws.proofs.Plain.{Fits, Holds, nothing_held, object_fits}
use Rattle.catalog_laws.proofs.Members.{amount_holds, amount_where_holds, count_holds, either_holds, id_holds, ids_hold, places_hold, true_holds, words_hold}
use Rattle.catalog_laws.proofs.Parts.{fluid_holds, goods_hold, item_holds, machine_holds, parts_hold, products_hold, special_holds, unless_one_holds}

by_holds : (g : Game) (activity : Activity) {ms : Members} → Holds 3 ms → Holds 3 (with_by g activity ms)
unfolding with_by
by_holds g activity h = ids_hold _ _ _ (omega arith) h

-- ---- recipes
craft_holds : (g : Game) (index : Index) {ms : Members} (recipe : RecipeRecord) → Holds 3 ms → Holds 3 (with_craft g index recipe ms)
unfolding with_craft
craft_holds g index recipe h = products_hold _ _ _ (parts_hold _ _ _ (unless_one_holds _ recipe.emissions (amount_holds _ _ h)))

marks_hold : (g : Game) (recipe : RecipeRecord) {ms : Members} → Holds 3 ms → Holds 3 (with_marks g recipe ms)
unfolding with_marks
marks_hold g recipe h = true_holds _ (is_some recipe.launch) (true_holds _ (character_crafts g.character (length g.items) recipe) (true_holds _ recipe.enabled h))

recipe_holds : (g : Game) (index : Index) (number : RecipeId) {ms : Members} → Holds 3 ms → Holds 3 (with_recipe g index number ms)
unfolding with_recipe
recipe_holds g index number h = ids_hold _ _ _ (omega arith) (by_holds _ _ (marks_hold g (recipe_at g number) (craft_holds _ _ (recipe_at g number) h)))

-- ---- sources
source_fluid_holds : (g : Game) {ms : Members} (fluid : Option (GoodId × Fraction)) → Holds 3 ms → Holds 3 (with_source_fluid g fluid ms)
unfolding with_source_fluid
source_fluid_holds g None h = h
source_fluid_holds g (Some fluid) h = goods_hold _ _ _ h

mining_holds : (g : Game) {ms : Members} (source : SourceRecord) → Holds 3 ms → Holds 3 (with_mining g source ms)
unfolding with_mining
mining_holds g source h = source_fluid_holds _ source.fluid (products_hold _ _ _ (true_holds _ source.placed (amount_holds _ _ h)))

source_holds : (g : Game) (number : SourceId) {ms : Members} → Holds 3 ms → Holds 3 (with_source g number ms)
unfolding with_source
source_holds g number h = true_holds _ (character_mines g.character (source_at g number)) (by_holds _ _ (mining_holds _ (source_at g number) h))

-- ---- technologies
unit_holds : (g : Game) {ms : Members} (tech : TechRecord) → Holds 3 ms → Holds 3 (with_unit g tech ms)
unfolding with_unit
unit_holds g tech h = amount_holds _ _ (amount_where_holds _ tech.count (goods_hold _ _ _ (true_holds _ tech.enabled h)))

links_hold : (g : Game) (tech : TechRecord) {ms : Members} → Holds 3 ms → Holds 3 (with_links g tech ms)
unfolding with_links
links_hold g tech h = ids_hold _ _ _ (omega arith) (ids_hold _ _ _ (omega arith) h)

tech_holds : (g : Game) (number : TechId) {ms : Members} → Holds 3 ms → Holds 3 (with_tech g number ms)
unfolding with_tech
tech_holds g number h = by_holds _ _ (links_hold _ _ (unit_holds _ (tech_at g number) h))

-- ---- a thing
item_where_holds : (g : Game) (item : Option ItemRecord) {ms : Members} → Holds 3 ms → Holds 3 (with_item_where g item ms)
item_where_holds g None h = h
item_where_holds g (Some item) h = item_holds g item h

fluid_where_holds : (g : Game) (good : ℕ) (fluid : Option FluidRecord) {ms : Members} → Holds 3 ms → Holds 3 (with_fluid_where g good fluid ms)
fluid_where_holds g good None h = h
fluid_where_holds g good (Some fluid) h = fluid_holds g (record { 0 = good }) fluid h

kind_holds : (g : Game) (index : Index) (kind : Kind) (number : ℕ) {ms : Members} → Holds 3 ms → Holds 3 (with_kind g index kind number ms)
unfolding with_kind
kind_holds g index Special number h = special_holds _ _ h
kind_holds g index Item number h = item_where_holds g (slice_get g.items number) h
kind_holds g index Fluid number h = fluid_where_holds g (length g.items + number) (slice_get g.fluids number) h
kind_holds g index Recipe number h = either_holds (nat_lt number (length g.recipes)) (recipe_holds g index (record { 0 = number }) h) h
kind_holds g index Source number h = either_holds (nat_lt number (length g.sources)) (source_holds g (record { 0 = number }) h) h
kind_holds g index Machine number h = either_holds (nat_lt number (length g.machines)) (machine_holds g (record { 0 = number }) h) h
kind_holds g index Tech number h = either_holds (nat_lt number (length g.techs)) (tech_holds g (record { 0 = number }) h) h

head_holds : (g : Game) (node : NodeId) (rank : ℕ) (mask : List ℕ) {ms : Members} → Holds 3 ms → Holds 3 (with_head g node rank mask ms)
unfolding with_head
head_holds g node rank mask h = places_hold _ _ (omega arith) (count_holds _ _ (id_holds _ _ _ h))

shown_holds : {ms : Members} (shown : Shown) → Holds 3 ms → Holds 3 (with_shown shown ms)
unfolding with_shown
shown_holds shown h = amount_where_holds _ shown.belt (amount_where_holds _ shown.stack (true_holds _ shown.hidden (words_hold _ _ (omega arith) h)))

shown_where_holds : {ms : Members} (shown : Option Shown) → Holds 3 ms → Holds 3 (with_shown_where shown ms)
unfolding with_shown_where
shown_where_holds None h = h
shown_where_holds (Some shown) h = shown_holds shown h

pub thing_fits : (g : Game) (index : Index) (shown : Option Shown) (kind : Kind) (number : ℕ) (node : NodeId) (rank : ℕ) (mask : List ℕ) → Fits 4 (thing_value g index shown kind number node rank mask)
unfolding thing_value
thing_fits g index shown kind number node rank mask =
    object_fits 3 (with_shown_where shown (with_kind g index kind number (with_head g node rank mask no_members)))
    (shown_where_holds shown (kind_holds g index kind number (head_holds _ _ _ _ (nothing_held 3))))
