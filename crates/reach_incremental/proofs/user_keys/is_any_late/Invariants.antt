use Rattle.std.proofs.Common.{◌≡◌, ℕ, ◌<◌, true, false, eqb, get_or}
use Rattle.reach_ranks.specs.Ranks.{is_one_to}
use Rattle.reach_incremental.proofs.user_keys.is_any_late.Given as goal

abbrev pub invariant-loop-l : goal.invariant-loop-l
invariant-loop-l l = (i : ℕ) → i < l.l → eqb (get_or l.was i 0) (get_or l.is i 0) ≡ false → eqb (get_or l.is i 0) l.key ≡ true → is_one_to l.next (get_or l.ranks i 0) ≡ false → l.any ≡ true
