use Rattle.plan_base.specs.Shape.{first_of}
use Rattle.plan_base.specs.declared.shape.Kind.TheVariants.{Recipe as RecipeKind}
use Rattle.depend_index.specs.Alike.{is_of_product}
use Rattle.depend_index.proofs.NoteLemmas.{NotedSoFar}
use Rattle.depend_index.proofs.noting.note_products.Given as goal

abbrev pub invariant-loop-edit : goal.invariant-loop-edit
invariant-loop-edit l = NotedSoFar is_of_product (first_of l.shape RecipeKind) l.shape.recipes l.edits l.initial.lists l.edit-index l.lists
