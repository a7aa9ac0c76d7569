use Rattle.plan_base.specs.Shape.{first_of}
use Rattle.plan_base.specs.declared.shape.Kind.TheVariants.{Tech as TechKind}
use Rattle.depend_index.specs.Alike.{is_of_unlock}
use Rattle.depend_index.proofs.NoteLemmas.{NotedSoFar}
use Rattle.depend_index.proofs.noting.note_unlocks.Given as goal

abbrev pub invariant-loop-edit : goal.invariant-loop-edit
invariant-loop-edit l = NotedSoFar is_of_unlock (first_of l.shape TechKind) l.shape.techs l.edits l.initial.lists l.edit-index l.lists
