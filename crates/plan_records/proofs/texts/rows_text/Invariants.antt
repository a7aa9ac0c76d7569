use Rattle.std.proofs.Common.{◌≡◌, map}
use Rattle.std.specs.List.{flat_map}
use Rattle.plan_records.specs.Records.{row_of}
use Rattle.plan_records.specs.Texts.{record_text}
use Rattle.plan_records.proofs.texts.rows_text.Given as goal

abbrev pub invariant-loop-row : goal.invariant-loop-row
invariant-loop-row l = l.text.items ≡ flat_map record_text (map (row_of l.game) (map (λ p. (p.0.now, (p.1.0.now, p.1.1.now))) l.yielded))
