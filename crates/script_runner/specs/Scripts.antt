-- How a script ends, the text that this leaves, and within how many steps.
use Rattle.std.specs.Prelude.{◌≡◌, ◌⊎◌, ◌<◌, ◌≤◌, ℕ, Bool, true, false, List, [], codes, length, take}
use Rattle.linear_table.specs.declared.SolveAnswer.{SolveAnswer}
use Rattle.planner_core.specs.Lines.{Planned}
use Rattle.plan_io.specs.declared.ends.ScriptEnd.{ScriptEnd}
use Rattle.plan_io.specs.declared.ends.ScriptEnd.TheVariants.{Done, SomeRefused, TooManyLines, WriteFault, NoMemory}
use Rattle.script_runner.specs.Answers.{Answered}
use Rattle.plan_io.specs.Lines.{lines_of}
use Rattle.script_runner.specs.Sessions.{IsSession, report, solutions, some_refused, work}

-- the text is the report of a session of these lines, what the solver answered is what its replies tell, and the steps are those
-- of its lines
pub record Tells (first : Planned) (lines : List (List ℕ)) (solved : List SolveAnswer) (text : List ℕ) (steps : ℕ) : Type 0 where
  pub answers : List Answered
  pub last : Planned
  pub session : IsSession first lines answers last
  pub told : text ≡ report answers
  pub solves : solved ≡ solutions answers
  pub takes : steps ≡ work answers

-- the script has at most 100,000 lines, all are answered, and some reply is a refusal or none is
pub record TellsAll (refused : Bool) (first : Planned) (script : List ℕ) (solved : List SolveAnswer) (text : List ℕ) (steps : ℕ) : Type 0 where
  pub few : length (lines_of script) ≤ 100_000
  pub tells : Tells first (lines_of script) solved text steps
  pub refuses : some_refused tells.answers ≡ refused

-- the script has at most 100,000 lines, and so many of the first are answered
pub record TellsSome (first : Planned) (script : List ℕ) (solved : List SolveAnswer) (text : List ℕ) (steps : ℕ) : Type 0 where
  pub few : length (lines_of script) ≤ 100_000
  pub count : ℕ
  pub tells : Tells first (take count (lines_of script)) solved text steps

pub record IsTooLong (script : List ℕ) (solved : List SolveAnswer) (text : List ℕ) (steps : ℕ) : Type 0 where
  pub many : 100_000 < length (lines_of script)
  pub none : solved ≡ []
  pub told : text ≡ codes "too long script lines\n"
  pub takes : steps ≡ 0

-- the text of which a front is written where writing is cut off; what the solver answered is that of all replies of the text
abbrev pub IsMeant : Planned → List ℕ → List SolveAnswer → List ℕ → ℕ → Type 0
IsMeant first script solved text steps = TellsSome first script solved text steps ⊎ IsTooLong script solved text steps

-- From this planner the script ends so, the solver having answered this, with this text and within so many steps. Where memory is
-- wanted for a line, the steps of the lines before it are known, and those of that line are not.
unfoldable pub EndsScript : Planned → List ℕ → List SolveAnswer → ScriptEnd → List ℕ → ℕ → Type 0
EndsScript first script solved Done text steps = TellsAll false first script solved text steps
EndsScript first script solved SomeRefused text steps = TellsAll true first script solved text steps
EndsScript first script solved TooManyLines text steps = IsTooLong script solved text steps
EndsScript first script solved NoMemory text steps = (those : ℕ) × TellsSome first script solved text those
EndsScript first script solved WriteFault text steps = IsMeant first script solved text steps

-- whether writing was cut off
abbrev pub is_cut : ScriptEnd → Bool
is_cut WriteFault = true
is_cut other = false
