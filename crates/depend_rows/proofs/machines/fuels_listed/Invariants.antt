use Rattle.std.proofs.Common.{◌≡◌, ◌++◌, drop}
use Rattle.graph_store.specs.Lists.{numbers_at}
use Rattle.depend_rows.proofs.machines.fuels_listed.Given as goal

abbrev pub invariant-loop-category : goal.invariant-loop-category
invariant-loop-category l = l.numbers.items ++ numbers_at l.fuels (drop l.category-index l.categories) ≡ numbers_at l.fuels l.categories
