use Rattle.plan_report.proofs.Texts.{TextSoFar}
use Rattle.plan_records.specs.Texts.{record_text}
use Rattle.script_outputs.specs.Costs.{cost_fields}
use Rattle.script_outputs.proofs.texts.records_text.Given as goal

abbrev pub invariant-loop-cost : goal.invariant-loop-cost
invariant-loop-cost l = TextSoFar record_text (cost_fields l.game) l.costs l.cost-index l.text.items
