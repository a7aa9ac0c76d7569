use Rattle.std.proofs.Common.{ap, map, ◌∙◌}
use Rattle.std.specs.List.{flat_map}
use Rattle.std.proofs.lemmas.Iterator.{YieldsList-from_slice, YieldsList-from_zip}
use Rattle.std.proofs.lemmas.Iterator.Consumers.{YieldsList-end}
use Rattle.plan_records.specs.Records.{row_of}
use Rattle.plan_records.specs.Texts.{record_text}
use Rattle.plan_records.proofs.texts.rows_text.Goals as goal

pub returns : goal.returns
returns c =
    let end = YieldsList-end (YieldsList-from_zip (YieldsList-from_slice c.args.table.now cc) (YieldsList-from_zip (YieldsList-from_slice c.args.rates.now cc) (YieldsList-from_slice c.args.rows.now cc))) c.loop-row.yielded c.loop-row.row-iterator c.loop-row.yielded_by c.next.result c.next.new.self c.in-None.is c.next.ensures.steps in
    c.loop-row.invariant ∙ ap (λ pairs. flat_map record_text (map (row_of c.args.game.now) pairs)) end.0
