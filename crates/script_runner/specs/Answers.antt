-- What a line of a script is answered.
use Rattle.std.specs.Prelude.{◌≡◌, ◌≤◌, ◌+◌, ℕ, Bool, true, false, List, Option, Some, None, Result, Ok, Err}
use Rattle.plan_lines.specs.declared.command.Command.{Command}
use Rattle.script_reader.specs.declared.fault.ScriptFault.{ScriptFault}
use Rattle.script_reader.specs.declared.fault.ScriptFault.TheVariants.{UnknownCommand, WrongWords, BadNumber, BadQuoting, BadObject, NoMemory}
use Rattle.script_reader.specs.Lines.{command_of_line}
use Rattle.plan_lines.specs.declared.RefusalCode.{RefusalCode}
use Rattle.plan_lines.specs.declared.RefusalCode.TheVariants.{Q1, Q2, Q3, Q4, Q5}
use Rattle.plan_lines.specs.declared.Reply.{Reply}
use Rattle.plan_lines.specs.declared.Reply.TheVariants as reply
use Rattle.plan_report.specs.Replies.{printed_reply}
use Rattle.linear_table.specs.declared.SolveAnswer.{SolveAnswer}
use Rattle.linear_table.specs.declared.SolveAnswer.TheVariants.{TooWide, OutOfBudget}
use Rattle.state_changes.specs.States.{State}
use Rattle.planner_core.specs.Lines.{Planned, IsSessionOf, IsStep, line_work}
use Rattle.planner_core.specs.Replies.{refused_as}

-- what a line is read as: a command, none where it is blank or a comment, or why it has none
abbrev pub Reading : Type 0
Reading = Result (Option Command) ScriptFault

-- no line is read as want of memory, and its code here is never told
abbrev pub fault_code : ScriptFault → RefusalCode
fault_code UnknownCommand = Q1
fault_code WrongWords = Q2
fault_code BadNumber = Q3
fault_code BadQuoting = Q4
fault_code BadObject = Q5
fault_code NoMemory = Q1

abbrev pub is_no_memory : ScriptFault → Bool
is_no_memory NoMemory = true
is_no_memory fault = false

-- the planner after a line of this number that is read so, and its reply: no word for a blank line, a refusal for a line
-- that can't be read, and what the planner's step is for a command
abbrev pub IsReply : ℕ → Planned → Reading → Planned → Reply → Type 0
IsReply number before (Ok None) after answer = (after ≡ before) × (answer ≡ reply.Nothing)
IsReply number before (Ok (Some command)) after answer = IsStep number before command after answer
IsReply number before (Err fault) after answer = (after ≡ before) × (answer ≡ refused_as (fault_code fault))

-- the work of a line that is read so
abbrev pub reading_work : Reading → Planned → Planned → Reply → ℕ
reading_work (Ok None) before after answer = 0
reading_work (Ok (Some command)) before after answer = line_work command before after answer
reading_work (Err fault) before after answer = 0

-- a line of a script with its number, what it is read as, its reply, and the planner before and after it
pub record Answered : Type 0 where
  pub number : ℕ
  pub line : List ℕ
  pub reading : Reading
  pub reply : Reply
  pub before : Planned
  pub after : Planned

-- The line says what it is read as, and the reply and the planner after it are those of the planner before. That has grown
-- from whatever the planner before has grown from.
pub record IsAnswered (a : Answered) : Type 0 where
  pub read : command_of_line a.line a.reading
  pub replied : IsReply a.number a.before a.reading a.after a.reply
  pub history : (base : State) → IsSessionOf base a.before → IsSessionOf base a.after

-- what is printed for the line; the names of the game are those behind it, and no line changes them
abbrev pub text_of : Answered → List ℕ
text_of a = printed_reply a.after.state.book.game a.number a.reply

-- whether the solver came to no answer
abbrev pub gives_up : SolveAnswer → Bool
gives_up (TooWide trail next place) = true
gives_up (OutOfBudget trail) = true
gives_up other = false

-- whether the reply is printed as a refusal
abbrev pub is_refusal_reply : Reply → Bool
is_refusal_reply (reply.Refused code detail at) = true
is_refusal_reply (reply.Solved table labels goods columns rows total answer) = gives_up answer
is_refusal_reply other = false

abbrev pub is_refusal : Answered → Bool
is_refusal a = is_refusal_reply a.reply

-- what the solver answered, where the reply tells it
abbrev pub solved_in : Reply → Option SolveAnswer
solved_in (reply.Solved table labels goods columns rows total answer) = Some answer
solved_in other = None

abbrev pub work_of : Answered → ℕ
work_of a = reading_work a.reading a.before a.after a.reply

-- A line of this number is answered by this text, refused or not, with what the solver answered, from one planner to another
-- and within so many steps.
pub record AnswersLine (number : ℕ) (line : List ℕ) (before after : Planned) (text : List ℕ) (refused : Bool) (solved : Option SolveAnswer) (old new : ℕ) : Type 0 where
  pub answer : Answered
  pub is_answered : IsAnswered answer
  pub of_number : answer.number ≡ number
  pub of_line : answer.line ≡ line
  pub from : answer.before ≡ before
  pub to : answer.after ≡ after
  pub told : text ≡ text_of answer
  pub refuses : refused ≡ is_refusal answer
  pub solves : solved ≡ solved_in answer.reply
  pub steps : new ≤ old + work_of answer
