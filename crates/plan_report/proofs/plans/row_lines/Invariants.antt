use Rattle.std.proofs.Common.{◌≡◌, map, string_bytes}
use Rattle.std.specs.List.{flat_map}
use Rattle.plan_report.specs.Layout.{further_line}
use Rattle.plan_report.specs.Plans.{row_line}
use Rattle.plan_report.proofs.plans.row_lines.Given as goal

abbrev pub invariant-loop-label : goal.invariant-loop-label
invariant-loop-label l = string_bytes l.text ≡ flat_map further_line (map row_line (map (λ p. (p.0.now, (p.1.0.now, p.1.1.now))) l.yielded))
