use Rattle.std.proofs.Common.{◌≡◌}
use Rattle.script_outputs.specs.Costs.{goods_of, reached_below}
use Rattle.script_outputs.proofs.estimates.costs_of.Given as goal

abbrev pub invariant-loop-place : goal.invariant-loop-place
invariant-loop-place l = goods_of l.costs.items ≡ reached_below l.game l.reached l.place
