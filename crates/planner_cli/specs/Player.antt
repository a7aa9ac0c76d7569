-- What a run whose lines were all answered tells a player: the headline, fact by fact.
use Rattle.std.specs.Prelude.{◌≡◌, ◌≢◌, ◌⊎◌, ℕ, List, All, Option, Some}
use Rattle.std.specs.Io.KnownBytes.{Appends}
use Rattle.plan_io.specs.Store.{Shelf}
use Rattle.game_types.specs.declared.games.Game.{Game}
use Rattle.state_changes.specs.States.{first_state}
use Rattle.planner_core.specs.Lines.{Planned, first_planned}
use Rattle.plan_io.specs.Lines.{lines_of}
use Rattle.script_runner.specs.Answers.{Answered}
use Rattle.script_runner.specs.Sessions.{IsSession}
use Rattle.run_inputs.specs.Words.{Asked, Check, FileNames, Files}
use Rattle.run_inputs.specs.Inputs.{IsBase, IsScript}
use Rattle.run_inputs.specs.declared.status.Status.{Status}
use Rattle.run_inputs.specs.declared.status.Status.TheVariants.{Done, SomeRefused}
use Rattle.planner_cli.specs.Facts.{HasSameState, IsAfresh, LeavesAll, SolvesOrTellsWhy, TakesBack, TellsByRounds}
use Rattle.planner_cli.specs.Headline.{IsTold}

-- all lines were answered, and they were not checked against a certificate
pub record IsAnsweredRun (asked : Option Asked) (status : Status) : Type 0 where
  pub all : (status ≡ Done) ⊎ (status ≡ SomeRefused)
  pub no_check : (cert : List ℕ) (names : FileNames) → asked ≢ Some (Files (Check cert) names)

-- The dump has a game, and each line of the script has an answer, to what the lines before it left; these answers were written. Before
-- and behind each line the state is what the active edits, applied in order, give afresh on the game of the dump. What is reached, the ranks, the
-- masks, `why` and `missing` are those of the rounds over the rows of that state. Each plan balances every good of its table exactly at the
-- wanted rates, its prices are dual to its cost and no plan of the table costs less; a table is called infeasible only with prices that
-- show it; a refused `solve` has its cause. Undo takes back the last entry, and gives back every part. A refused line leaves each as it was.
pub record TellsPlayer (shelf : Shelf) (asked : Option Asked) (before after : Option (List ℕ)) : Type 0 where
  pub game : Game
  pub base : IsBase shelf asked game
  pub script : List ℕ
  pub script_is : IsScript shelf asked script
  pub answers : List Answered
  pub last : Planned
  pub session : IsSession (first_planned game) (lines_of script) answers last
  pub taken : ℕ
  pub text : List ℕ
  pub told : IsTold asked taken answers text
  pub written : Appends before after text
  pub afresh : All (λ a. IsAfresh (first_state game) a.before × IsAfresh (first_state game) a.after) answers
  pub by_rounds : All TellsByRounds answers
  pub plans : All SolvesOrTellsWhy answers
  pub undo : All TakesBack answers
  pub gives_back : All (λ a. All (HasSameState a) answers) answers
  pub refusals : All LeavesAll answers
