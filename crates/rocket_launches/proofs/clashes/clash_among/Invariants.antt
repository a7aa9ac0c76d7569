use Rattle.std.proofs.Common.{◌≡◌}
use Rattle.std.specs.Prelude.{option_and_then, slice_get}
use Rattle.rocket_launches.specs.Clashes.{clash_with, least_below}
use Rattle.rocket_launches.proofs.clashes.clash_among.Given as goal

abbrev pub invariant-loop-good : goal.invariant-loop-good
invariant-loop-good l = l.least ≡ least_below (λ k. option_and_then (clash_with l.game l.short l.long l.middle) (slice_get l.cargo k)) l.good-index
