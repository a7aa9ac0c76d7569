use Rattle.std.proofs.Common.{◌≡◌, map, string_bytes}
use Rattle.std.specs.List.{flat_map}
use Rattle.plan_report.specs.Layout.{further_line}
use Rattle.plan_report.specs.Plans.{price_line}
use Rattle.plan_report.proofs.plans.price_lines.Given as goal

abbrev pub invariant-loop-good : goal.invariant-loop-good
invariant-loop-good l = string_bytes l.text ≡ flat_map further_line (map (price_line l.game) (map (λ p. (p.0.now, p.1.now)) l.yielded))
