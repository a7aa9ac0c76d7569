use Rattle.std.proofs.Common.{drop}
use Rattle.std.specs.Prelude.{All}
use Rattle.fluid_variants.specs.Contents.{contents}
use Rattle.fluid_variants.specs.Temperatures.{IsRising}
use Rattle.fluid_variants.proofs.Contents.{PutSoFar}
use Rattle.fluid_variants.proofs.lists.put_all.Given as goal

abbrev pub invariant-loop-made : goal.invariant-loop-made
invariant-loop-made l = record {
  put : PutSoFar l.items l.all (drop l.made-index l.all) (contents l.initial.lists) (contents l.lists);
  rising : All IsRising (contents l.lists);
}
