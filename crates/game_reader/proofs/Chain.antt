-- The second pass in steps is the second pass.
use Rattle.std.proofs.Common.{◌≡◌, ◌∙◌, ℕ, List, Ok, Err, Result, refl, ap}
use Rattle.craft_reader.specs.declared.fault.DumpFault.{DumpFault}
use Rattle.dump_reader.specs.Dump.{◌▷◌}
use Rattle.dump_reader.specs.Draft.{RawGame}
use Rattle.machine_reader.specs.declared.sections.Section.TheVariants as section
use Rattle.game_types.specs.declared.games.Game.{Game}
use Rattle.game_types.specs.declared.goods.Fluid.{Fluid}
use Rattle.game_types.specs.declared.goods.Item.{Item}
use Rattle.game_types.specs.declared.machinery.Machine.{Machine}
use Rattle.game_types.specs.declared.recipes.Recipe.{Recipe}
use Rattle.game_types.specs.declared.recipes.Source.{Source}
use Rattle.game_types.specs.declared.research.Tech.{Tech}
use Rattle.game_reader.specs.declared.links.Lists.{Lists}
use Rattle.game_reader.specs.Links.{each_linked, families_of, linked, linked_item, linked_machine, linked_recipe, linked_source, linked_tech}
use Rattle.game_reader.specs.Lists.{linked_lists, linked_means, linked_ways}

-- what follows what was found
pub then_is : {A B : Type 0} (first : Result A DumpFault) (next : A → Result B DumpFault) (value : A) → first ≡ Ok value → (first ▷ next) ≡ next value
then_is first next value is = ap (λ r. r ▷ next) is

pub then_fails : {A B : Type 0} (first : Result A DumpFault) (next : A → Result B DumpFault) (fault : DumpFault) → first ≡ Err fault → (first ▷ next) ≡ Err fault
then_fails first next fault is = ap (λ r. r ▷ next) is

module _ (g : RawGame) where
  abbrev game_with : List Item → List Recipe → List Source → List Machine → List Tech → Game
  game_with items recipes sources machines techs = record {
    items = items;
    fluids = g.fluids;
    recipes = recipes;
    sources = sources;
    machines = machines;
    techs = techs;
    character = record { crafting = g.crafting; mining = g.mining };
    item_names = g.item_names;
    fluid_names = g.fluid_names;
    recipe_names = g.recipe_names;
    source_names = g.source_names;
    machine_names = g.machine_names;
    tech_names = g.tech_names;
    categories = g.categories;
  }

  abbrev game_of : Lists → Game
  game_of lists = game_with lists.items lists.recipes lists.sources lists.machines lists.techs

  abbrev ways : Result (List Recipe) DumpFault → Result (List Source) DumpFault → Result (List Recipe × List Source) DumpFault
  ways recipes sources = recipes ▷ λ rs. sources ▷ λ ss. Ok (rs, ss)

  abbrev means : Result (List Machine) DumpFault → Result (List Tech) DumpFault → Result (List Machine × List Tech) DumpFault
  means machines techs = machines ▷ λ ms. techs ▷ λ ts. Ok (ms, ts)

  in_steps : (items : Result (List Item) DumpFault) (recipes : Result (List Recipe) DumpFault) (sources : Result (List Source) DumpFault) (machines : Result (List Machine) DumpFault) (techs : Result (List Tech) DumpFault)
      → (items ▷ λ is. recipes ▷ λ rs. sources ▷ λ ss. machines ▷ λ ms. techs ▷ λ ts. Ok (game_with is rs ss ms ts))
      ≡ ((items ▷ λ is. ways recipes sources ▷ λ w. means machines techs ▷ λ m. Ok (record { items = is; recipes = w.0; sources = w.1; machines = m.0; techs = m.1 }))
      ▷ λ (lists : Lists). Ok (game_of lists))
  in_steps (Err fault) recipes sources machines techs = refl
  in_steps (Ok items) (Err fault) sources machines techs = refl
  in_steps (Ok items) (Ok recipes) (Err fault) machines techs = refl
  in_steps (Ok items) (Ok recipes) (Ok sources) (Err fault) techs = refl
  in_steps (Ok items) (Ok recipes) (Ok sources) (Ok machines) (Err fault) = refl
  in_steps (Ok items) (Ok recipes) (Ok sources) (Ok machines) (Ok techs) = refl

  abbrev lists_of : Result Lists DumpFault
  lists_of = linked_lists (families_of g) g.items g.recipes g.sources g.machines g.techs

  by_lists : linked g ≡ (lists_of ▷ λ (lists : Lists). Ok (game_of lists))
  unfolding linked linked_lists linked_ways linked_means
  by_lists = in_steps
      (each_linked (λ item. item.section) (linked_item (families_of g)) g.items g.item_names)
      (each_linked (λ _. section.Recipe) (linked_recipe (families_of g)) g.recipes g.recipe_names)
      (each_linked (λ source. source.section) (linked_source (families_of g)) g.sources g.source_names)
      (each_linked (λ machine. machine.section) (linked_machine (families_of g)) g.machines g.machine_names)
      (each_linked (λ _. section.Technology) (linked_tech (families_of g)) g.techs g.tech_names)

  lists_give : (lists : Lists) → lists_of ≡ Ok lists → linked g ≡ Ok (game_of lists)
  lists_give lists is = by_lists ∙ then_is lists_of (λ (lists : Lists). Ok (game_of lists)) lists is

  pub game_given : (lists : Lists) (fluids : List Fluid) (crafting mining : List ℕ) → lists_of ≡ Ok lists → fluids ≡ g.fluids → crafting ≡ g.crafting → mining ≡ g.mining
      → linked g ≡ Ok (record (game_of lists) { fluids = fluids; character = record { crafting = crafting; mining = mining } })
  game_given lists fluids crafting mining is f c m = rw (f, c, m) (lists_give lists is)

  pub lists_fail : (fault : DumpFault) → lists_of ≡ Err fault → linked g ≡ Err fault
  lists_fail fault is = by_lists ∙ then_fails lists_of (λ (lists : Lists). Ok (game_of lists)) fault is
