use Rattle.std.proofs.Common.{ap, map, ◌∙◌}
use Rattle.std.proofs.lemmas.Iterator.{YieldsList-from_slice, YieldsList-from_zip}
use Rattle.std.proofs.lemmas.Iterator.Consumers.{YieldsList-end}
use Rattle.report_json.specs.Replies.{row_value}
use Rattle.report_json.proofs.plan_rows.row_values.Goals as goal

pub returns : goal.returns
returns c =
    let end = YieldsList-end (YieldsList-from_zip (YieldsList-from_slice c.args.labels.now cc) (YieldsList-from_zip (YieldsList-from_slice c.args.rates.now cc) (YieldsList-from_slice c.args.rows.now cc))) c.loop-label.yielded c.loop-label.label-iterator c.loop-label.yielded_by c.next.result c.next.new.self c.in-None.is c.next.ensures.steps in
    c.loop-label.invariant ∙ ap (λ pairs. map row_value pairs) end.0
