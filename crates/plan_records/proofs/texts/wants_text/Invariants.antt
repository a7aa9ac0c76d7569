use Rattle.plan_report.proofs.Texts.{TextSoFar}
use Rattle.plan_records.specs.Records.{want_of}
use Rattle.plan_records.specs.Texts.{record_text}
use Rattle.plan_records.proofs.texts.wants_text.Given as goal

abbrev pub invariant-loop-want : goal.invariant-loop-want
invariant-loop-want l = TextSoFar record_text (want_of l.game) l.wants l.want-index l.text.items
