-- Which files a run begins.
use Rattle.std.specs.Prelude.{◌≡◌, ◌≤◌, ◌<◌, ◌+◌, ◌++◌, ◌∷◌, [], ℕ, List, Option, Some, IsSome, Result, Ok, Err, length, take}
use Rattle.plan_io.specs.Store.{Shelf, Begun, named_in}
use Rattle.game_types.specs.declared.games.Game.{Game}
use Rattle.run_inputs.specs.declared.status.Status.{Status}
use Rattle.run_inputs.specs.declared.status.Status.TheVariants.{Done, BadDump, ReadFault, WriteFault, NoMemory, TooLong}
use Rattle.run_inputs.specs.declared.status.Long.TheVariants.{DumpBytes, ScriptBytes, ScriptLines}
use Rattle.plan_io.specs.Lines.{lines_of}
use Rattle.run_inputs.specs.Inputs.{IsBase, IsInput}
use Rattle.run_inputs.specs.Words.{Asked, FileMode, FileNames, Files, Check}

-- one file was begun, that of this name
pub record BeginsOne (shelf : Shelf) (name : List ℕ) (old new : Begun) : Type 0 where
  pub names : new.names ≡ old.names ++ named_in shelf name ∷ []
  pub calls : new.calls ≡ old.calls + 1
  pub slots : old.slots ≤ new.slots
  pub named : IsSome (shelf.file name) → new.unnamed ≡ old.unnamed

-- the files that a mode reads, in order: each by its name, where the store tells that it has a file
abbrev pub files_of : Shelf → FileMode → FileNames → List (Option (List ℕ))
files_of shelf (Check cert) names = named_in shelf names.dump ∷ named_in shelf names.script ∷ named_in shelf cert ∷ []
files_of shelf mode names = named_in shelf names.dump ∷ named_in shelf names.script ∷ []

-- The first so many files of the mode were begun, each once, in order.
pub record BeginsFirst (shelf : Shelf) (mode : FileMode) (names : FileNames) (old new : Begun) : Type 0 where
  pub count : ℕ
  pub calls : new.calls ≡ old.calls + count
  pub names_are : new.names ≡ old.names ++ take count (files_of shelf mode names)

-- how many files a mode reads
abbrev pub file_count : FileMode → ℕ
file_count (Check cert) = 3
file_count other = 2

-- the count of calls by the status: one where the dump ended the run, two where the script did, all where every file was read, and no more
-- behind a fault
abbrev pub CallsUnder : ℕ → Status → ℕ → ℕ → Type 0
CallsUnder files (BadDump fault) old new = new ≡ old + 1
CallsUnder files (TooLong DumpBytes) old new = new ≡ old + 1
CallsUnder files (TooLong ScriptBytes) old new = new ≡ old + 2
CallsUnder files (TooLong ScriptLines) old new = new ≡ old + 2
CallsUnder files ReadFault old new = new ≤ old + files
CallsUnder files WriteFault old new = new ≤ old + files
CallsUnder files NoMemory old new = new ≤ old + files
CallsUnder files other old new = new ≡ old + files

-- the name of the certificate's file has a file, where there is one
abbrev pub HasCert : Shelf → FileMode → Type 0
HasCert shelf (Check cert) = IsSome (shelf.file cert)
HasCert shelf other = Unit {0}

-- the script of that name is within its limit, and has at most 100,000 lines
pub record HasScript (shelf : Shelf) (name : List ℕ) : Type 0 where
  pub script : List ℕ
  pub given : IsInput shelf name 16_777_216 script
  pub few : length (lines_of script) ≤ 100_000

-- The dump is begun first, then the script, and then the certificate, each once at most. The script is begun only where the dump has a
-- base, and the certificate only where the script is within its limits besides. Where all names have a file, no call is without one.
pub record BeginsAll (shelf : Shelf) (mode : FileMode) (names : FileNames) (old new : Begun) (status : Status) : Type 0 where
  pub calls : CallsUnder (file_count mode) status old.calls new.calls
  pub first : BeginsFirst shelf mode names old new
  pub slots : old.slots ≤ new.slots
  pub behind : old.calls + 1 < new.calls → (game : Game) × IsBase shelf (Some (Files mode names)) game
  pub third : old.calls + 2 < new.calls → HasScript shelf names.script
  pub named : IsSome (shelf.file names.dump) → IsSome (shelf.file names.script) → HasCert shelf mode → new.unnamed ≡ old.unnamed

-- without names of files there is no call
abbrev pub BeginsFiles : Shelf → Option Asked → Begun → Begun → Status → Type 0
BeginsFiles shelf (Some (Files mode names)) old new status = BeginsAll shelf mode names old new status
BeginsFiles shelf other old new status = new ≡ old

-- all names have a file, or there are no names
abbrev pub HasFiles : Shelf → Option Asked → Type 0
HasFiles shelf (Some (Files mode names)) = IsSome (shelf.file names.dump) × IsSome (shelf.file names.script) × HasCert shelf mode
HasFiles shelf other = Unit {0}

-- the status of a run that has come so far: done, if nothing else ends it
abbrev pub status_so_far : {T : Type 0} → Result T Status → Status
status_so_far (Ok ready) = Done
status_so_far (Err status) = status
