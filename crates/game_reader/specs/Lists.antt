-- The second pass in steps: two lists at a time, and all of them.
use Rattle.std.specs.Prelude.{List, Result, Ok}
use Rattle.craft_reader.specs.declared.fault.DumpFault.{DumpFault}
use Rattle.craft_reader.specs.declared.recipes.RawRecipe.{RawRecipe}
use Rattle.craft_reader.specs.declared.technologies.RawTech.{RawTech}
use Rattle.dump_reader.specs.Dump.{◌▷◌}
use Rattle.dump_reader.specs.declared.raw.RawItem.{RawItem}
use Rattle.machine_reader.specs.declared.raw.RawMachine.{RawMachine}
use Rattle.dump_reader.specs.declared.raw.RawSource.{RawSource}
use Rattle.machine_reader.specs.declared.sections.Section.TheVariants as section
use Rattle.game_types.specs.declared.machinery.Machine.{Machine}
use Rattle.game_types.specs.declared.recipes.Recipe.{Recipe}
use Rattle.game_types.specs.declared.recipes.Source.{Source}
use Rattle.game_types.specs.declared.research.Tech.{Tech}
use Rattle.game_reader.specs.declared.families.Families.{Families}
use Rattle.game_reader.specs.declared.links.Lists.{Lists}
use Rattle.game_reader.specs.Links.{each_linked, linked_item, linked_machine, linked_recipe, linked_source, linked_tech}

-- the recipes and then the sources with ids in place of names, or the first fault
unfoldable pub linked_ways : Families → List RawRecipe → List RawSource → Result (List Recipe × List Source) DumpFault
linked_ways names recipes sources =
    each_linked (λ _. section.Recipe) (linked_recipe names) recipes names.recipes ▷ λ recipes.
    each_linked (λ source. source.section) (linked_source names) sources names.sources ▷ λ sources.
    Ok (recipes, sources)

-- the machines and then the technologies with ids in place of names, or the first fault
unfoldable pub linked_means : Families → List RawMachine → List RawTech → Result (List Machine × List Tech) DumpFault
linked_means names machines techs =
    each_linked (λ machine. machine.section) (linked_machine names) machines names.machines ▷ λ machines.
    each_linked (λ _. section.Technology) (linked_tech names) techs names.techs ▷ λ techs.
    Ok (machines, techs)

-- all lists of a game in the order of the second pass: items, recipes, sources, machines, technologies; or the first fault
unfoldable pub linked_lists : Families → List RawItem → List RawRecipe → List RawSource → List RawMachine → List RawTech → Result Lists DumpFault
linked_lists names items recipes sources machines techs =
    each_linked (λ item. item.section) (linked_item names) items names.items ▷ λ items.
    linked_ways names recipes sources ▷ λ ways.
    linked_means names machines techs ▷ λ means.
    Ok (record { items = items; recipes = ways.0; sources = ways.1; machines = means.0; techs = means.1 })
