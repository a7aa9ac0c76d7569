use Rattle.std.proofs.Common.{◌∙◌, ap, sym}
use Rattle.std.specs.Prelude.{option_and_then, slice_get}
use Rattle.rocket_launches.specs.declared.silos.Silo.{Silo}
use Rattle.rocket_launches.specs.Clashes.{clash_of, least_below, sooner}
use Rattle.rocket_launches.proofs.Earliest.{one_at}
use Rattle.rocket_launches.proofs.clashes.earliest_clash.Goals as goal

abbrev nothing : Silo
nothing = record { machine = record { 0 = 0 }; category = 0; part = record { 0 = 0 }; parts = 0 }

pub loop-silo-preserved : goal.loop-silo-preserved
loop-silo-preserved c =
    c.sooner-least.ensures
    ∙ ap (λ a. sooner a c.clash_of.result) c.loop-silo.invariant
    ∙ ap (sooner (least_below (λ k. option_and_then (clash_of c.args.game.now c.args.cargo.now) (slice_get c.args.silos.now k)) c.loop-silo.silo-index)) c.clash_of.ensures
    ∙ sym (one_at (clash_of c.args.game.now c.args.cargo.now) c.args.silos.now c.loop-silo.silo-index nothing c.loop-silo-test.true)
