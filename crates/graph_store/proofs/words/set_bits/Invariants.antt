use Rattle.std.proofs.Common.{◌≡◌, length}
use Rattle.graph_store.proofs.WordLemmas.{BitsSoFar}
use Rattle.graph_store.proofs.words.set_bits.Given as goal

abbrev pub invariant-loop-node : goal.invariant-loop-node
invariant-loop-node l = record {
  bits : BitsSoFar l.first l.nodes l.node-index l.words;
  as_long : length l.words ≡ length l.fn.words;
}
