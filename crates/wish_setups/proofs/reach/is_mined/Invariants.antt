use Rattle.std.proofs.Common.{◌≡◌}
use Rattle.wish_setups.specs.Reach.{is_mined_below}
use Rattle.wish_setups.proofs.reach.is_mined.Given as goal

abbrev pub invariant-loop-place : goal.invariant-loop-place
invariant-loop-place l = l.mined ≡ is_mined_below l.game l.reached l.good l.place
