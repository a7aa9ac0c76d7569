use Rattle.game_reader.specs.Links.{linked_recipe}
use Rattle.game_reader.proofs.Loops.{LinkedSoFar}
use Rattle.machine_reader.specs.declared.sections.Section.TheVariants as section
use Rattle.std.specs.Vec.Iter.{into_iter_items, into_iter_len}
use Rattle.game_reader.proofs.prototype_lists.link_recipes.Given as goal

abbrev pub invariant-loop-recipe : goal.invariant-loop-recipe
invariant-loop-recipe l = LinkedSoFar (λ _. section.Recipe) (linked_recipe l.names) l.fn.recipes.items l.names.recipes (into_iter_items l.recipe-iterator) (into_iter_len l.recipe-iterator) l.linked.items
