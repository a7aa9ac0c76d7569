use Rattle.std.specs.Prelude.{List, [], drop, Result}
use Rattle.plan_lines.specs.declared.change.RowPart.{RowPart}
use Rattle.script_reader.specs.declared.fault.ScriptFault.{ScriptFault}
use Rattle.script_reader.specs.Reading.{Answers}
use Rattle.script_reader.specs.Arguments.{add_parts}
use Rattle.script_reader.proofs.row_words.read_parts.Given as goal

-- what the parts that are left say is what all say
abbrev pub invariant-loop-part : goal.invariant-loop-part
invariant-loop-part l = (result : Result (List RowPart) ScriptFault) → Answers (add_parts l.parts.items (drop l.part-index l.words)) result → Answers (add_parts [] l.words) result
