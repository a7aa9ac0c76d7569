use Rattle.std.proofs.Common.{string_bytes}
use Rattle.plan_report.proofs.Texts.{TextSoFar}
use Rattle.page_rows.specs.Setups.{beacon_text}
use Rattle.page_rows.proofs.setups.beacons_text.Given as goal

abbrev pub invariant-loop-group : goal.invariant-loop-group
invariant-loop-group l = TextSoFar (λ text. text) (beacon_text l.game) l.groups l.group-index (string_bytes l.text)
