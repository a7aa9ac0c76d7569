-- Lines that a planner carries out, with a plan at their end.
use Rattle.std.specs.Prelude.{◌≡◌, ◌≤◌, ℕ, Bool, true, false, List, [], ◌∷◌, ◌++◌, Option, Some, None, length, not, ◌==◌, if◌then◌else◌}
use Rattle.linear_table.specs.declared.SolveAnswer.{SolveAnswer}
use Rattle.linear_table.specs.declared.SolveAnswer.TheVariants.{Planned as Plan}
use Rattle.plan_lines.specs.declared.reply.Reply.{Reply}
use Rattle.planner_core.specs.Lines.{Planned}
use Rattle.plan_io.specs.Lines.{lines_of}
use Rattle.script_runner.specs.Answers.{Answered, IsAnswered, is_refusal, solved_in}
use Rattle.script_runner.specs.Sessions.{IsSession, some_refused}
use Rattle.script_runner.specs.declared.stepping.Progress.{Progress}

-- whether the solver's answer is a plan
abbrev pub is_plan : Option SolveAnswer → Bool
is_plan (Some (Plan plan)) = true
is_plan other = false

-- whether the last of these replies tells a plan
abbrev pub ends_planned : List Answered → Bool
ends_planned [] = false
ends_planned (answer ∷ []) = is_plan (solved_in answer.reply)
ends_planned (answer ∷ next ∷ rest) = ends_planned (next ∷ rest)

-- a line of this number is answered by this reply, from one planner to another
pub record TellsReply (number : ℕ) (line : List ℕ) (before after : Planned) (reply : Reply) : Type 0 where
  pub answer : Answered
  pub is_answered : IsAnswered answer
  pub of_number : answer.number ≡ number
  pub of_line : answer.line ≡ line
  pub from : answer.before ≡ before
  pub to : answer.after ≡ after
  pub tells : answer.reply ≡ reply

-- a line of this number is answered, refused or not, by a plan or not, from one planner to another
pub record AnswersSo (number : ℕ) (line : List ℕ) (before after : Planned) (refused planned : Bool) : Type 0 where
  pub reply : Reply
  pub told : TellsReply number line before after reply
  pub refuses : refused ≡ is_refusal told.answer
  pub plans : planned ≡ is_plan (solved_in told.answer.reply)

-- From a first planner to a last, these lines are answered one after another, so many, and none is refused; and the last of them is
-- answered by a plan or not.
pub record Accepted (first : Planned) (lines : List (List ℕ)) (done : Progress) (last : Planned) : Type 0 where
  pub answers : List Answered
  pub session : IsSession first lines answers last
  pub accepted : some_refused answers ≡ false
  pub counted : done.count ≡ length answers
  pub ends : done.planned ≡ ends_planned answers

-- behind whatever lines led to the one planner, those of this script lead to the other
abbrev pub Continues : Planned → List ℕ → Progress → Planned → Progress → Type 0
Continues old script from new done = (first : Planned) (before : List (List ℕ)) → Accepted first before from old → Accepted first (before ++ lines_of script) done new

-- A script that the planner of a dump carries out from its first line on to its last: none is refused, and the last is answered by a plan.
pub record LeadsToPlan (first : Planned) (script : List ℕ) (last : Planned) : Type 0 where
  pub few : length (lines_of script) ≤ 100_000
  pub done : Progress
  pub accepted : Accepted first (lines_of script) done last
  pub planned : done.planned ≡ true

-- whether a text ends within a line
abbrev pub ends_within : List ℕ → Bool
ends_within [] = false
ends_within (byte ∷ []) = not (byte == 10)
ends_within (byte ∷ next ∷ rest) = ends_within (next ∷ rest)

-- a script with lines behind it, on lines of their own
abbrev pub joined : List ℕ → List ℕ → List ℕ
joined script lines = (if ends_within script then script ++ 10 ∷ [] else script) ++ lines
