-- A line that is told.
use Rattle.std.proofs.Common.{◌≡◌, ℕ, List, Option, refl}
use Rattle.planner_core.specs.Lines.{Planned}
use Rattle.plan_lines.specs.declared.reply.Reply.{Reply}
use Rattle.plan_lines.specs.declared.reply.Reply.TheVariants as replies
use Rattle.report_json.specs.Lines.{IsJsonLine, line_value}
use Rattle.script_outputs.specs.Told.{IsToldAs}

-- a reply that says something is told as its object
pub told_as : (after : Planned) (number : ℕ) (reply : Reply) (words : Option (List ℕ)) (text : List ℕ) → (reply ≡ replies.Nothing → ⊥)
    → IsJsonLine (line_value after.state.book.game number words reply) text → IsToldAs after number reply text
told_as after number replies.Ok words text some is = (words, is)
told_as after number replies.Nothing words text some is = absurd (some refl)
told_as after number replies.Held words text some is = (words, is)
told_as after number (replies.Reach node rank) words text some is = (words, is)
told_as after number (replies.List kind nodes) words text some is = (words, is)
told_as after number (replies.Why node nodes) words text some is = (words, is)
told_as after number (replies.Missing node reached forbidden groups) words text some is = (words, is)
told_as after number (replies.Mask node reached milestones) words text some is = (words, is)
told_as after number (replies.Milestones nodes) words text some is = (words, is)
told_as after number (replies.Summary reached nodes milestones bits tables done undone) words text some is = (words, is)
told_as after number (replies.Rate table label effects rates beacons) words text some is = (words, is)
told_as after number (replies.Solved table labels goods columns rows total answer) words text some is = (words, is)
told_as after number (replies.Refused code detail at) words text some is = (words, is)
