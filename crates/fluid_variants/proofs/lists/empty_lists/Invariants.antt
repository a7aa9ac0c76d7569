use Rattle.fluid_variants.specs.Contents.{AreEmpty, contents}
use Rattle.fluid_variants.proofs.lists.empty_lists.Given as goal

abbrev pub invariant-loop-number : goal.invariant-loop-number
invariant-loop-number l = AreEmpty l.number (contents l.lists.items)
