use Rattle.std.proofs.Common.{◌≡◌, map, string_bytes}
use Rattle.std.specs.List.{flat_map}
use Rattle.plan_report.specs.Layout.{further_text}
use Rattle.plan_report.specs.Plans.{stream_lines}
use Rattle.plan_report.proofs.plans.stream_lines.Given as goal

abbrev pub invariant-loop-column : goal.invariant-loop-column
invariant-loop-column l = string_bytes l.text ≡ flat_map further_text (map (stream_lines l.game) (map (λ p. (p.0.now, p.1.now)) l.yielded))
