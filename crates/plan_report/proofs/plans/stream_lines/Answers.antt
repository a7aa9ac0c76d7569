use Rattle.std.proofs.Common.{ap, map, ◌∙◌}
use Rattle.std.specs.List.{flat_map}
use Rattle.std.proofs.lemmas.Iterator.{YieldsList-from_slice, YieldsList-from_zip}
use Rattle.std.proofs.lemmas.Iterator.Consumers.{YieldsList-end}
use Rattle.plan_report.specs.Layout.{further_text}
use Rattle.plan_report.specs.Plans.{stream_lines}
use Rattle.plan_report.proofs.plans.stream_lines.Goals as goal

pub returns : goal.returns
returns c =
    let end = YieldsList-end (YieldsList-from_zip (YieldsList-from_slice c.args.columns.now cc) (YieldsList-from_slice c.args.rates.now cc)) c.loop-column.yielded c.loop-column.column-iterator c.loop-column.yielded_by c.next.result c.next.new.self c.in-None.is c.next.ensures.steps in
    c.loop-column.invariant ∙ ap (λ pairs. flat_map further_text (map (stream_lines c.args.game.now) pairs)) end.0
