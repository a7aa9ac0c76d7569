-- What a line of a script is answered in a session: just what a run of the script answers.
use Rattle.std.specs.Prelude.{◌≡◌, ℕ, Bool, List, [], ◌∷◌, ◌++◌, All, map, length}
use Rattle.planner_core.specs.Lines.{Planned}
use Rattle.script_runner.specs.Answers.{Answered, IsAnswered, is_refusal, text_of}
use Rattle.script_runner.specs.Sessions.{IsSession, report}

-- A line of this number is answered by this text, refused or not, from one planner to another.
pub record IsToldAs (number : ℕ) (line : List ℕ) (before after : Planned) (text : List ℕ) (refused : Bool) : Type 0 where
  pub answer : Answered
  pub is_answered : IsAnswered answer
  pub of_number : answer.number ≡ number
  pub of_line : answer.line ≡ line
  pub from : answer.before ≡ before
  pub to : answer.after ≡ after
  pub told : text ≡ text_of answer
  pub refuses : refused ≡ is_refusal answer

-- So far these lines of a script came, and behind them stands this planner: they are answered as a run answers them, and the replies
-- make this text.
pub record HasAnswered (first : Planned) (lines : List (List ℕ)) (replies : List ℕ) (now : Planned) : Type 0 where
  pub answers : List Answered
  pub session : IsSession first lines answers now
  pub told : replies ≡ report answers
