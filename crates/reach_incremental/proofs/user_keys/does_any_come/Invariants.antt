use Rattle.std.proofs.Common.{◌≡◌, ℕ, ◌<◌, true, false, eqb, get_or}
use Rattle.reach_incremental.proofs.user_keys.does_any_come.Given as goal

abbrev pub invariant-loop-l : goal.invariant-loop-l
invariant-loop-l l = (i : ℕ) → i < l.l → eqb (get_or l.was i 0) (get_or l.is i 0) ≡ false → eqb (get_or l.is i 0) l.key ≡ true → l.any ≡ true
