use Rattle.std.proofs.Common.{◌≡◌, ◌<◌, ◌++◌, All, drop}
use Rattle.depend_rows.specs.Touched.{touched_numbers}
use Rattle.depend_rows.proofs.touching.touched_numbers.Given as goal

abbrev pub invariant-loop-edit : goal.invariant-loop-edit
invariant-loop-edit l = record {
  numbers : l.numbers.items ++ touched_numbers l.shape (drop l.edit-index l.edits) ≡ touched_numbers l.shape l.edits;
  below : All (λ k. k < l.count) l.numbers.items;
}
