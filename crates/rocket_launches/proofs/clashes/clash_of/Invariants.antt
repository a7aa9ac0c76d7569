use Rattle.std.proofs.Common.{◌≡◌}
use Rattle.rocket_launches.specs.Clashes.{clash_cut, least_below}
use Rattle.rocket_launches.proofs.clashes.clash_of.Given as goal

abbrev pub invariant-loop-place : goal.invariant-loop-place
invariant-loop-place l = l.least ≡ least_below (clash_cut l.game l.cargo l.long) l.place
