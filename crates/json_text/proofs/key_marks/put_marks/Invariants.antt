use Rattle.std.proofs.Common.{take}
use Rattle.json_text.specs.Marking.{HasMarks}
use Rattle.json_text.proofs.key_marks.put_marks.Given as goal

abbrev pub invariant-loop-place : goal.invariant-loop-place
invariant-loop-place l = HasMarks (take l.place l.keys) l.marks
