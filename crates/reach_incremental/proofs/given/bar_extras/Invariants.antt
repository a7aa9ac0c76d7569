use Rattle.std.proofs.Common.{◌≡◌, ℕ, ◌<◌, ◌≤◌, None, cond, length, get_or}
use Rattle.reach_ranks.specs.Rounds.{is_node}
use Rattle.reach_incremental.proofs.given.bar_extras.Given as goal

abbrev pub invariant-loop-l : goal.invariant-loop-l
invariant-loop-l l = record {
  long : length l.lanes ≡ 16;
  done : (i : ℕ) → i < l.l → get_or l.lanes i 0 ≡ cond (is_node (get_or l.extras i None) l.node.0) 0 (get_or l.initial.lanes i 0);
  left : (i : ℕ) → l.l ≤ i → i < 16 → get_or l.lanes i 0 ≡ get_or l.initial.lanes i 0;
}
