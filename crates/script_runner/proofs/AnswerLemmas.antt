-- What is known of one line that is answered.
use Rattle.std.proofs.Common.{◌≡◌, ◌≤◌, ◌+◌, ℕ, List, Bool, refl}
use Rattle.std.specs.Prelude.{Option}
use Rattle.linear_table.specs.declared.SolveAnswer.{SolveAnswer}
use Rattle.plan_lines.specs.declared.Reply.{Reply}
use Rattle.plan_report.specs.Replies.{printed_reply}
use Rattle.state_changes.specs.States.{State}
use Rattle.planner_core.specs.Lines.{IsSessionOf, Planned}
use Rattle.script_reader.specs.Lines.{command_of_line}
use Rattle.script_runner.specs.Answers.{AnswersLine, IsReply, Reading, is_refusal_reply, reading_work, solved_in}

pub answers_line : (number : ℕ) (line : List ℕ) (reading : Reading) (answer : Reply) (before after : Planned) (text : List ℕ) (refused : Bool) (solved : Option SolveAnswer) (old new : ℕ)
    → command_of_line line reading → IsReply number before reading after answer → ((base : State) → IsSessionOf base before → IsSessionOf base after)
    → text ≡ printed_reply after.state.book.game number answer → refused ≡ is_refusal_reply answer → solved ≡ solved_in answer → new ≤ old + reading_work reading before after answer
    → AnswersLine number line before after text refused solved old new
answers_line number line reading answer before after text refused solved old new read replied history told refuses solves steps = record {
  answer = record { number = number; line = line; reading = reading; reply = answer; before = before; after = after };
  is_answered = record { read = read; replied = replied; history = history };
  of_number = refl;
  of_line = refl;
  from = refl;
  to = refl;
  told = told;
  refuses = refuses;
  solves = solves;
  steps = steps;
}
