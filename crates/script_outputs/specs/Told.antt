-- What a line of a script is told as, in JSON.
use Rattle.std.specs.Prelude.{◌≡◌, ℕ, Bool, List, [], Option}
use Rattle.planner_core.specs.Lines.{Planned}
use Rattle.plan_lines.specs.declared.reply.Reply.{Reply}
use Rattle.plan_lines.specs.declared.reply.Reply.TheVariants as replies
use Rattle.script_reader.specs.Lines.{command_of_line}
use Rattle.script_runner.specs.Answers.{is_refusal_reply, IsReply, Reading}
use Rattle.report_json.specs.Lines.{IsJsonLine, line_value}

-- Blank lines and comments, to which nothing is replied, have no text. To every other line the reply is written, as an object of JSON.
abbrev pub IsToldAs : Planned → ℕ → Reply → List ℕ → Type 0
IsToldAs after number replies.Nothing text = text ≡ []
IsToldAs after number reply text = (words : Option (List ℕ)) × IsJsonLine (line_value after.state.book.game number words reply) text

-- The reply is the one that a run gives: that of the planner before to what the line is read as.
pub record TellsLine (number : ℕ) (line : List ℕ) (before after : Planned) (text : List ℕ) (refused : Bool) : Type 0 where
  pub reading : Reading
  pub reply : Reply
  pub read : command_of_line line reading
  pub replied : IsReply number before reading after reply
  pub told : IsToldAs after number reply text
  pub refuses : refused ≡ is_refusal_reply reply
