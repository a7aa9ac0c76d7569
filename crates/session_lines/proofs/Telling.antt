-- A line that is told.
use Rattle.std.proofs.Common.{◌≡◌, ℕ, Bool, List, refl, sym}
use Rattle.plan_lines.specs.declared.reply.Reply.{Reply}
use Rattle.plan_report.specs.Replies.{printed_reply}
use Rattle.script_reader.specs.Lines.{command_of_line}
use Rattle.state_changes.specs.States.{State}
use Rattle.planner_core.specs.Lines.{IsSessionOf, Planned}
use Rattle.script_runner.specs.Answers.{IsReply, Reading, is_refusal_reply}
use Rattle.session_lines.specs.Told.{IsToldAs}

pub told : (number : ℕ) (line : List ℕ) (reading : Reading) (answer : Reply) (before after : Planned) (text : List ℕ) (refused : Bool)
    → command_of_line line reading → IsReply number before reading after answer → ((base : State) → IsSessionOf base before → IsSessionOf base after)
    → text ≡ printed_reply after.state.book.game number answer → refused ≡ is_refusal_reply answer → IsToldAs number line before after text refused
told number line reading answer before after text refused read replied history text_is refuses = record {
  answer = record { number = number; line = line; reading = reading; reply = answer; before = before; after = after };
  is_answered = record { read = read; replied = replied; history = history };
  of_number = refl;
  of_line = refl;
  from = refl;
  to = refl;
  told = text_is;
  refuses = refuses;
}
