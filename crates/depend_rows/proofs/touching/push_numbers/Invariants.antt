use Rattle.std.proofs.Common.{◌≡◌, ◌<◌, ◌++◌, All, drop}
use Rattle.depend_rows.specs.Touched.{numbers_below}
use Rattle.depend_rows.proofs.touching.push_numbers.Given as goal

abbrev pub invariant-loop-node : goal.invariant-loop-node
invariant-loop-node l = record {
  numbers : l.numbers.items ++ numbers_below l.count (drop l.node-index l.nodes) ≡ l.fn.numbers.items ++ numbers_below l.count l.nodes;
  below : All (λ k. k < l.count) l.numbers.items;
}
