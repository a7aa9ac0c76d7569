use Rattle.std.proofs.Common.{string_bytes}
use Rattle.plan_report.specs.Layout.{further_line}
use Rattle.plan_report.specs.Plans.{exchange_line}
use Rattle.plan_report.proofs.Texts.{TextSoFar}
use Rattle.plan_report.proofs.plans.exchange_lines.Given as goal

abbrev pub invariant-loop-exchange : goal.invariant-loop-exchange
invariant-loop-exchange l = TextSoFar further_line (exchange_line l.game l.labels) l.trail l.exchange-index (string_bytes l.text)
