use Rattle.std.proofs.Common.{◌≡◌, ◌<◌, ℕ, get_or, length}
use Rattle.std.specs.Int.Bits.{bit_and}
use Rattle.graph_store.proofs.words.common.Given as goal

abbrev pub invariant-loop-place : goal.invariant-loop-place
invariant-loop-place l = record {
  count : length l.kept.items ≡ l.place;
  each : (w : ℕ) → w < l.place → get_or l.kept.items w 0 ≡ bit_and (get_or l.words w 0) (get_or l.others w 0);
}
