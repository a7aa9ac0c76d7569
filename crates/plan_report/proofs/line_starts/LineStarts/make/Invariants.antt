use Rattle.std.proofs.Common.{◌≡◌, map, string_bytes}
use Rattle.std.specs.List.{range_with_len}
use Rattle.plan_report.specs.LineStarts.{line_start}
use Rattle.plan_report.proofs.line_starts.LineStarts.make.Given as goal

abbrev pub invariant-loop-number : goal.invariant-loop-number
invariant-loop-number l = map string_bytes l.starts.items ≡ map (line_start l.game) (range_with_len 0 l.number)
