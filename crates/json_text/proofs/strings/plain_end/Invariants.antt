use Rattle.std.proofs.Common.{length, ◌-◌, ◌≡◌, ◌≤◌, true}
use Rattle.std.specs.Prelude.{slice_range}
use Rattle.std.specs.List.{list_all}
use Rattle.json_text.specs.Lexing.{is_plain}
use Rattle.json_text.proofs.strings.plain_end.Given as goal

abbrev pub invariant-lanes : goal.invariant-lanes
invariant-lanes l = record {
  behind : l.at ≤ l.i;
  within : l.i ≤ length l.bytes;
  plain : list_all is_plain (slice_range l.bytes l.at l.i) ≡ true;
}

abbrev pub decreases-lanes : goal.decreases-lanes
decreases-lanes l = length l.bytes - l.i

abbrev pub invariant-loop-i : goal.invariant-loop-i
invariant-loop-i l = record {
  behind : l.at ≤ l.i;
  within : l.i ≤ length l.bytes;
  plain : list_all is_plain (slice_range l.bytes l.at l.i) ≡ true;
}

abbrev pub decreases-loop-i : goal.decreases-loop-i
decreases-loop-i l = length l.bytes - l.i
