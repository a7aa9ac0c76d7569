use Rattle.std.proofs.Common.{codes}
use Rattle.json_text.specs.SpanSeen.{span_seen}
use Rattle.craft_reader.specs.Recipes.{recipe_of}
use Rattle.craft_reader.proofs.FaultsLemmas.{placed_fault}
use Rattle.craft_reader.proofs.recipes.read_recipe.Goals as goal

pub returns-in-Err-clause-gives : goal.returns-in-Err-clause-gives
returns-in-Err-clause-gives c = placed_fault (codes "recipe") c.args.name.now (recipe_of (span_seen c.args.tree.now) c.args.categories.now) c.in-Err.fault c.of_field.result c.in-Err.ensures.gives c.of_field.ensures.fault
