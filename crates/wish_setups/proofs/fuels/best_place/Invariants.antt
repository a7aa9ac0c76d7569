use Rattle.std.proofs.Common.{◌≡◌}
use Rattle.wish_setups.specs.Choice.{best_below, rank_at}
use Rattle.wish_setups.proofs.fuels.best_place.Given as goal

abbrev pub invariant-loop-place : goal.invariant-loop-place
invariant-loop-place l = l.best ≡ best_below (rank_at l.game l.wish l.mined l.energy l.fuels) l.place
