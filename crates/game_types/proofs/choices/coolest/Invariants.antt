use Rattle.std.proofs.Common.{◌≡◌, ◌+◌, drop}
use Rattle.std.specs.Prelude.{None}
use Rattle.game_types.specs.Temperatures.{coolest, is_fit_variant}
use Rattle.game_types.proofs.choices.coolest.Given as goal

abbrev pub invariant-loop-fluid : goal.invariant-loop-fluid
invariant-loop-fluid l = record {
  best : coolest (is_fit_variant l.base.0 l.low l.high) None l.first l.fluids ≡ coolest (is_fit_variant l.base.0 l.low l.high) l.best l.number (drop l.fluid-index l.fluids);
  number : l.number ≡ l.first + l.fluid-index;
}
