use Rattle.std.proofs.Common.{◌≡◌, ℕ, ◌<◌, ◌≤◌, false, eqb, get_or}
use Rattle.reach_incremental.proofs.user_keys.first_lost.Given as goal

abbrev pub invariant-loop-l : goal.invariant-loop-l
invariant-loop-l l = (i : ℕ) → i < l.l → eqb (get_or l.was i 0) (get_or l.is i 0) ≡ false → eqb (get_or l.is i 0) l.key ≡ false → l.key < get_or l.ranks i 0 → (0 < l.first) × (l.first ≤ get_or l.ranks i 0)
