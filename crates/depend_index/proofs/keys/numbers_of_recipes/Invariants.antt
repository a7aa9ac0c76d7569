use Rattle.std.proofs.Common.{[]}
use Rattle.graph_store.proofs.Walks.{Appended}
use Rattle.depend_index.proofs.keys.numbers_of_recipes.Given as goal

abbrev pub invariant-loop-recipe : goal.invariant-loop-recipe
invariant-loop-recipe l = Appended (λ r. r.0) [] l.recipes l.recipe-index l.numbers.items
