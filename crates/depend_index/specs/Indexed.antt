-- What an index of a game holds: the nodes that rows are put together from. The lists of what edits change, which recipes give a
-- good and which technologies unlock a recipe, may hold more than that.
use Rattle.std.specs.Prelude.{◌≡◌, ◌+◌, ◌==◌, false, true, length}
use Rattle.std.specs.List.{list_any}
use Rattle.game_types.specs.Making.{gives}
use Rattle.game_types.specs.declared.games.Game.{Game}
use Rattle.depend_index.specs.declared.index.Index.{Index}
use Rattle.graph_store.specs.Members.{those}
use Rattle.depend_index.specs.Goods.{first_machine, first_recipe, first_source, first_tech, good_count, leavers, putters, variants}
use Rattle.depend_index.specs.Machines.{burning_fluids, placers}
use Rattle.depend_index.specs.Kinds.{crafts_all_of, crafts_alone, is_drill_of, is_fuel_of, is_lab, takes}
use Rattle.depend_index.specs.Coolest.{AreSorted}
use Rattle.graph_store.specs.Lists.{AreAllLists, AreLists, HoldThose}
use Rattle.depend_index.specs.Marks.{AreMarks}
use Rattle.graph_store.specs.Words.{AreWords}

pub record IsIndex (g : Game) (index : Index) : Type 0 where
  pub leavers : AreLists (leavers g) (good_count g) index.leavers.items
  pub variants : AreLists (variants g) (good_count g) index.variants.items
  pub coolest_variants : AreSorted g.fluids (3 + length g.items) index.variants.items index.coolest_variants.items
  pub recipe_makers : HoldThose index.exact (λ recipe good. gives recipe.products good) (first_recipe g) g.recipes (good_count g) index.recipe_makers.items
  pub source_makers : AreLists (λ good. those (λ source. gives source.products good) (first_source g) g.sources) (good_count g) index.source_makers.items
  pub putters : AreLists (putters g) (good_count g) index.putters.items
  pub unlockers : HoldThose index.exact (λ tech number. list_any (λ r. r.0 == number) tech.unlocks) (first_tech g) g.techs (length g.recipes) index.unlockers.items
  pub placers : AreLists (placers g) (length g.machines) index.placers.items
  pub crafters : AreAllLists (λ category. those (λ machine. crafts_all_of machine.kind category) (first_machine g) g.machines) index.crafters.items
  pub fixed : AreLists (λ number. those (λ machine. crafts_alone g.recipes machine.kind number) (first_machine g) g.machines) (length g.recipes) index.fixed.items
  pub drills : AreAllLists (λ category. those (λ machine. is_drill_of false machine.kind category) (first_machine g) g.machines) index.drills.items
  pub boxed_drills : AreAllLists (λ category. those (λ machine. is_drill_of true machine.kind category) (first_machine g) g.machines) index.boxed_drills.items
  pub fuels : AreAllLists (λ category. those (λ item. is_fuel_of item.fuel category) 3 g.items) index.fuels.items
  pub burning : index.burning.items ≡ burning_fluids g
  pub labs : index.labs.items ≡ those (λ machine. is_lab machine.kind) (first_machine g) g.machines
  pub takers : AreLists (λ good. those (λ machine. takes machine.kind good) (first_machine g) g.machines) (length g.items) index.takers.items
  pub taker_words : AreWords (first_machine g) index.takers.items index.taker_words.items
  pub crafting : AreMarks g.character.crafting index.crafting.items
  pub mining : AreMarks g.character.mining index.mining.items
