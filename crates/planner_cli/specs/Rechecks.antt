-- Two runs: the first tells the certificate of a script, and the second checks the same script by it.
use Rattle.std.specs.Prelude.{◌≡◌, ◌≤◌, ℕ, IsTrue, List, Some, length}
use Rattle.plan_io.specs.Store.{Shelf}
use Rattle.game_types.specs.declared.games.Game.{Game}
use Rattle.linear_table.specs.declared.SolveAnswer.{SolveAnswer}
use Rattle.certificate_file.specs.declared.CertEntry.{CertEntry}
use Rattle.planner_core.specs.Lines.{first_planned}
use Rattle.script_runner.specs.Rechecks.{IsNeverWide}
use Rattle.run_inputs.specs.declared.status.Status.TheVariants.{Done}
use Rattle.planner_cli.specs.Ending.{EndsRun}
use Rattle.run_inputs.specs.Inputs.{IsBase, IsCert, IsScript}
use Rattle.run_inputs.specs.Words.{Check, FileNames, Files, Prove}

-- what a run is asked for, and the files that it finds
pub record Side : Type 0 where
  pub shelf : Shelf
  pub names : FileNames

-- The first run ended as done and told this certificate: no line was refused, and each table was settled.
pub record IsProved (side : Side) (certificate : List ℕ) : Type 0 where
  pub taken : ℕ
  pub solved : List SolveAnswer
  pub work : ℕ
  pub ends : EndsRun side.shelf (Some (Files Prove side.names)) taken solved Done certificate work

-- Both stores tell their files. The second run finds the dump and the script of the first, and under this name its certificate, which is
-- within its limit.
pub record HasSameFiles (first second : Side) (cert certificate : List ℕ) : Type 0 where
  pub first_tells : IsTrue first.shelf.tells
  pub second_tells : IsTrue second.shelf.tells
  pub dump : first.shelf.file first.names.dump ≡ second.shelf.file second.names.dump
  pub script : first.shelf.file first.names.script ≡ second.shelf.file second.names.script
  pub given : second.shelf.file cert ≡ Some certificate
  pub fits : length certificate ≤ 268_435_456

-- no checker of the run meets a wide sum
abbrev pub ChecksNoWide : Side → List ℕ → Type 0
ChecksNoWide side cert = (game : Game) (script : List ℕ) (entries : List CertEntry) → IsBase side.shelf (Some (Files (Check cert) side.names)) game → IsScript side.shelf (Some (Files (Check cert) side.names)) script
    → IsCert side.shelf cert entries → IsNeverWide entries (first_planned game) script
