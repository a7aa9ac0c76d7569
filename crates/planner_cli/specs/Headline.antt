-- The headline: what a run tells a player of a game is so.
use Rattle.std.specs.Prelude.{◌≡◌, ◌⊎◌, ◌++◌, ℕ, List, Option, Some, take}
use Rattle.plan_io.specs.Store.{Shelf}
use Rattle.game_types.specs.declared.games.Game.{Game}
use Rattle.linear_table.specs.declared.SolveAnswer.{SolveAnswer}
use Rattle.certificate_file.specs.declared.CertEntry.{CertEntry}
use Rattle.state_changes.specs.States.{first_state}
use Rattle.planner_core.specs.Lines.{Planned, first_planned}
use Rattle.plan_io.specs.Lines.{lines_of}
use Rattle.script_runner.specs.Answers.{Answered}
use Rattle.script_runner.specs.Certificates.{certificate_line, entries_of}
use Rattle.script_runner.specs.Sessions.{IsSession, report, solutions}
use Rattle.script_runner.specs.Trials.{IsTrial, Judged, form_count, proved_count, tally_line, trial_text}
use Rattle.run_inputs.specs.Words.{Asked, Check, Files, Prove, Sample}
use Rattle.run_inputs.specs.Early.{line_of}
use Rattle.run_inputs.specs.Inputs.{IsBase, IsCert, IsScript}
use Rattle.run_inputs.specs.Told.{steps_line}
use Rattle.run_inputs.specs.declared.status.Status.{Status}
use Rattle.run_inputs.specs.declared.status.Status.TheVariants.{Done, SomeRefused}
use Rattle.planner_cli.specs.Ending.{EndsRun}
use Rattle.planner_cli.specs.Facts.{CheckHeadline, Headline}

-- the lines that were told of: all of the script, or so many of the first where the run was cut off
abbrev pub AreToldLines : Status → List ℕ → List (List ℕ) → Type 0
AreToldLines Done script lines = lines ≡ lines_of script
AreToldLines SomeRefused script lines = lines ≡ lines_of script
AreToldLines other script lines = (count : ℕ) × (lines ≡ take count (lines_of script))

-- what is written of answers: their replies in order, behind those of a sample the steps where these are told, and under `prove` their certificate
abbrev pub IsTold : Option Asked → ℕ → List Answered → List ℕ → Type 0
IsTold (Some (Files Prove names)) taken answers text = text ≡ certificate_line (entries_of answers)
IsTold (Some (Sample number size)) taken answers text = (text ≡ report answers) ⊎ (text ≡ report answers ++ steps_line taken)
IsTold other taken answers text = text ≡ report answers

-- The dump has a game. From its planner on, these are the answers to the lines that were told of, each to what the lines before it left;
-- they are what is written; and what they tell a player of the game with the active edits applied afresh is so.
pub record TellsOfGame (shelf : Shelf) (asked : Option Asked) (taken : ℕ) (solved : List SolveAnswer) (status : Status) (text : List ℕ) : Type 0 where
  pub game : Game
  pub base : IsBase shelf asked game
  pub script : List ℕ
  pub script_is : IsScript shelf asked script
  pub lines : List (List ℕ)
  pub of_script : AreToldLines status script lines
  pub answers : List Answered
  pub last : Planned
  pub session : IsSession (first_planned game) lines answers last
  pub told : IsTold asked taken answers text
  pub solves : solved ≡ solutions answers
  pub headline : Headline (first_state game) answers

-- the verdicts of lines, and behind those of all lines how many forms are proved
abbrev pub AreVerdictsTold : List Judged → List ℕ → Type 0
AreVerdictsTold judged text = (text ≡ trial_text judged) ⊎ (text ≡ trial_text judged ++ tally_line (proved_count judged) (form_count judged))

-- The same of the lines that are checked by a certificate.
pub record ChecksOfGame (shelf : Shelf) (asked : Option Asked) (cert : List ℕ) (status : Status) (text : List ℕ) : Type 0 where
  pub game : Game
  pub base : IsBase shelf asked game
  pub script : List ℕ
  pub script_is : IsScript shelf asked script
  pub entries : List CertEntry
  pub given : IsCert shelf cert entries
  pub lines : List (List ℕ)
  pub of_script : AreToldLines status script lines
  pub judged : List Judged
  pub last : Planned
  pub trial : IsTrial entries 1 (first_planned game) lines judged last
  pub told : AreVerdictsTold judged text
  pub headline : CheckHeadline (first_state game) judged

abbrev pub TellsTruly : Shelf → Option Asked → ℕ → List SolveAnswer → Status → List ℕ → Type 0
TellsTruly shelf (Some (Files (Check cert) names)) taken solved status text = ChecksOfGame shelf (Some (Files (Check cert) names)) cert status text
TellsTruly shelf asked taken solved status text = TellsOfGame shelf asked taken solved status text

-- nothing is told of a game: the text is the line of a run that ended before its script was answered, or none
abbrev pub TellsNothing : List ℕ → Type 0
TellsNothing text = (early : Status) × (text ≡ line_of early)

-- what is told is so, by the status: of all lines where all were answered
abbrev pub IsHeadline : Shelf → Option Asked → ℕ → List SolveAnswer → Status → List ℕ → Type 0
IsHeadline shelf asked taken solved Done text = TellsTruly shelf asked taken solved Done text
IsHeadline shelf asked taken solved SomeRefused text = TellsTruly shelf asked taken solved SomeRefused text
IsHeadline shelf asked taken solved status text = TellsNothing text ⊎ TellsTruly shelf asked taken solved status text

-- How a run ends: what it tells a player is so, the status comes by its cause, and the text is its own.
pub record TellsOfRun (shelf : Shelf) (asked : Option Asked) (taken : ℕ) (solved : List SolveAnswer) (status : Status) (text : List ℕ) (work : ℕ) : Type 0 where
  pub headline : IsHeadline shelf asked taken solved status text
  pub ends : EndsRun shelf asked taken solved status text work
