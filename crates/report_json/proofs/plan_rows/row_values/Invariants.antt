use Rattle.std.proofs.Common.{◌≡◌, map}
use Rattle.serde_json.specs.View.{view}
use Rattle.report_json.specs.Replies.{row_value}
use Rattle.report_json.proofs.plan_rows.row_values.Given as goal

abbrev pub invariant-loop-label : goal.invariant-loop-label
invariant-loop-label l = map view l.list.items ≡ map row_value (map (λ p. (p.0.now, (p.1.0.now, p.1.1.now))) l.yielded)
