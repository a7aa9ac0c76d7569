use Rattle.std.proofs.Common.{◌≡◌, map}
use Rattle.serde_json.specs.View.{view}
use Rattle.report_json.specs.Replies.{price_value}
use Rattle.report_json.proofs.plans.price_values.Given as goal

abbrev pub invariant-loop-good : goal.invariant-loop-good
invariant-loop-good l = map view l.list.items ≡ map (price_value l.game) (map (λ p. (p.0.now, p.1.now)) l.yielded)
