use Rattle.std.specs.Prelude.{◌≡◌, ◌≤◌, ◌++◌, ◌-◌, length, take, drop}
use Rattle.script_reader.specs.Words.{is_plain}
use Rattle.script_reader.specs.Scan.{front_by, behind_by}
use Rattle.script_reader.proofs.split.plain_count.Given as goal

abbrev pub invariant-loop-count : goal.invariant-loop-count
invariant-loop-count l = record {
  within : l.count ≤ length l.text;
  front : front_by is_plain l.text ≡ take l.count l.text ++ front_by is_plain (drop l.count l.text);
  behind : behind_by is_plain l.text ≡ behind_by is_plain (drop l.count l.text);
}

abbrev pub decreases-loop-count : goal.decreases-loop-count
decreases-loop-count l = length l.text - l.count
