-- A game in which a fluid that is made at several temperatures is a base and a variant for each of them.
use Rattle.std.specs.Prelude.{map, length}
use Rattle.game_types.specs.declared.games.Game.{Game}
use Rattle.fluid_variants.specs.Temperatures.{temperature_lists}
use Rattle.fluid_variants.specs.Records.{Numbering, all_names, all_records, new_machine, new_recipe, new_source, numbering_of}

abbrev pub numbered_by : Game → Numbering → Game → Game
numbered_by g numbering new = record new {
  recipes = map (new_recipe g numbering) g.recipes;
  sources = map (new_source g numbering) g.sources;
  machines = map (new_machine g numbering) g.machines;
}

unfoldable pub split : Game → Game
split g = numbered_by g (numbering_of (length g.items) (temperature_lists g)) (record g {
  fluids = all_records (length g.items) g.fluids (temperature_lists g);
  fluid_names = all_names g.fluid_names (temperature_lists g);
})
