use Rattle.std.proofs.Common.{◌≡◌}
use Rattle.std.specs.Prelude.{option_and_then, slice_get}
use Rattle.rocket_launches.specs.Clashes.{clash_of, least_below}
use Rattle.rocket_launches.proofs.clashes.earliest_clash.Given as goal

abbrev pub invariant-loop-silo : goal.invariant-loop-silo
invariant-loop-silo l = l.least ≡ least_below (λ k. option_and_then (clash_of l.game l.cargo) (slice_get l.silos k)) l.silo-index
