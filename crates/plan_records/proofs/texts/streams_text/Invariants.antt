use Rattle.std.proofs.Common.{◌≡◌, map}
use Rattle.std.specs.List.{flat_map}
use Rattle.plan_records.specs.Records.{streams_of}
use Rattle.plan_records.specs.Texts.{records_text}
use Rattle.plan_records.proofs.texts.streams_text.Given as goal

abbrev pub invariant-loop-column : goal.invariant-loop-column
invariant-loop-column l = l.text.items ≡ flat_map records_text (map (streams_of l.game) (map (λ p. (p.0.now, p.1.now)) l.yielded))
