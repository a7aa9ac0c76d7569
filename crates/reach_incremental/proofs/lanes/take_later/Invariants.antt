use Rattle.std.proofs.Common.{◌≡◌, ℕ, ◌<◌, ◌≤◌, ◌&&◌, length, get_or}
use Rattle.reach_ranks.specs.Ranks.{is_one_to}
use Rattle.reach_incremental.proofs.lanes.take_later.Given as goal

abbrev pub invariant-loop-l : goal.invariant-loop-l
invariant-loop-l l = record {
  long : length l.to ≡ 16;
  done : (i k : ℕ) → i < l.l → is_one_to k (get_or l.to i 0) ≡ (is_one_to k (get_or l.initial.to i 0) && is_one_to k (get_or l.from i 0));
  left : (i : ℕ) → l.l ≤ i → i < 16 → get_or l.to i 0 ≡ get_or l.initial.to i 0;
}
