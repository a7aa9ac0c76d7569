-- How a run ends before its script is answered.
use Rattle.std.specs.Prelude.{◌≡◌, ◌≢◌, ◌⊎◌, ◌≤◌, ℕ, Bool, true, false, IsTrue, ⊤, List, [], Option, None, Some, codes, length}
use Rattle.plan_io.specs.Store.{Shelf}
use Rattle.game_types.specs.declared.games.Game.{Game}
use Rattle.craft_reader.specs.declared.fault.DumpFault.{DumpFault}
use Rattle.craft_reader.specs.declared.fault.DumpCode.TheVariants as of_dump
use Rattle.game_reader.specs.Games.{HasFault}
use Rattle.certificate_file.specs.declared.CertFault.{CertFault}
use Rattle.certificate_file.specs.declared.CertFault.TheVariants as of_cert
use Rattle.plan_io.specs.Lines.{lines_of}
use Rattle.plan_io.specs.Writing.{Adds}
use Rattle.run_inputs.specs.declared.status.Status.{Status}
use Rattle.run_inputs.specs.declared.status.Status.TheVariants.{BadWords, BadDump, ReadFault, WriteFault, NoMemory, TooLong, BadCert}
use Rattle.run_inputs.specs.declared.status.Long.{Long}
use Rattle.run_inputs.specs.declared.status.Long.TheVariants.{DumpBytes, ScriptBytes, ScriptLines, CertBytes}
use Rattle.run_inputs.specs.BadDump.{fault_line}
use Rattle.run_inputs.specs.Base.{HasManyMembers, load_work, members_fault}
use Rattle.run_inputs.specs.Inputs.{IsBadCert, IsBase, IsDump, IsLong, IsLongCert, IsLongDump, IsLongScript, IsScript}
use Rattle.run_inputs.specs.Words.{Asked, Files}

-- Why a dump has no base: the first fault of reading it, or its members. How many steps are taken where those are too many is
-- not said.
abbrev pub HasBaseFault : List ℕ → DumpFault → ℕ → Type 0
HasBaseFault dump fault work = (HasFault dump fault × (work ≡ 0)) ⊎ (HasManyMembers dump × (fault ≡ members_fault))

-- how a run ends that finds no base in a dump; want of memory is no fault of it
abbrev pub EndsLoading : List ℕ → Status → ℕ → Type 0
EndsLoading dump (BadDump fault) work = HasBaseFault dump fault work × (fault.code ≢ of_dump.NoMemory)
EndsLoading dump NoMemory work = ⊤
EndsLoading dump other work = ⊥

-- how a run ends that finds no file within its limit
abbrev pub EndsReading : Shelf → List ℕ → ℕ → Long → Status → Type 0
EndsReading shelf name limit long (TooLong told) = (told ≡ long) × IsLong shelf name limit
EndsReading shelf name limit long ReadFault = ⊤
EndsReading shelf name limit long NoMemory = ⊤
EndsReading shelf name limit long other = ⊥

-- the dump is refused for this fault, which is never want of memory
pub record IsRefused (shelf : Shelf) (asked : Option Asked) (fault : DumpFault) (work : ℕ) : Type 0 where
  pub dump : List ℕ
  pub given : IsDump shelf asked dump
  pub fault_is : HasBaseFault dump fault work
  pub no_memory : fault.code ≢ of_dump.NoMemory

-- the dump has a base, and the script is too long
pub record PassesScript (shelf : Shelf) (asked : Option Asked) (work : ℕ) : Type 0 where
  pub game : Game
  pub base : IsBase shelf asked game
  pub long : IsLongScript shelf asked
  pub takes : work ≤ load_work game

-- the dump has a base, the script has at most 100,000 lines, and the certificate is too long or is none
pub record ReachesCert (shelf : Shelf) (asked : Option Asked) (work : ℕ) (Ends : Type 0) : Type 0 where
  pub game : Game
  pub base : IsBase shelf asked game
  pub script : List ℕ
  pub script_is : IsScript shelf asked script
  pub few : length (lines_of script) ≤ 100_000
  pub takes : work ≤ load_work game
  pub ends : Ends

-- the statuses that a line tells, each with its cause
abbrev pub Stops : Shelf → Option Asked → Status → ℕ → Type 0
Stops shelf asked BadWords work = (asked ≡ None) × (work ≡ 0)
Stops shelf asked (TooLong DumpBytes) work = IsLongDump shelf asked × (work ≡ 0)
Stops shelf asked (TooLong ScriptBytes) work = PassesScript shelf asked work
Stops shelf asked (BadDump fault) work = IsRefused shelf asked fault work
Stops shelf asked (TooLong CertBytes) work = ReachesCert shelf asked work (IsLongCert shelf asked)
Stops shelf asked (BadCert fault) work = ReachesCert shelf asked work (IsBadCert shelf asked fault)
Stops shelf asked other work = ⊥

-- a file could not be read: the dump, or another behind a base
abbrev pub ReadsNot : Shelf → Option Asked → ℕ → Type 0
ReadsNot shelf (Some (Files mode names)) work = (work ≡ 0) ⊎ ((game : Game) × IsBase shelf (Some (Files mode names)) game × (work ≤ load_work game))
ReadsNot shelf other work = ⊥

-- how a run ends before its script is answered, and how many steps it has taken then
abbrev pub EndsEarly : Shelf → Option Asked → Status → ℕ → Type 0
EndsEarly shelf asked ReadFault work = ReadsNot shelf asked work
EndsEarly shelf asked NoMemory work = ⊤
EndsEarly shelf asked status work = Stops shelf asked status work

-- the line that tells it
abbrev pub long_line : Long → List ℕ
long_line DumpBytes = codes "too long dump bytes\n"
long_line ScriptBytes = codes "too long script bytes\n"
long_line ScriptLines = codes "too long script lines\n"
long_line CertBytes = codes "too long cert bytes\n"

-- want of memory is never told so
abbrev pub cert_line : CertFault → List ℕ
cert_line of_cert.NoMemory = []
cert_line of_cert.NotJson = codes "bad cert C2\n"
cert_line of_cert.BadForm = codes "bad cert C3\n"

abbrev pub line_of : Status → List ℕ
line_of BadWords = codes "bad words\n"
line_of (BadDump fault) = fault_line fault
line_of (TooLong long) = long_line long
line_of (BadCert fault) = cert_line fault
line_of other = []

abbrev pub has_line : Status → Bool
has_line BadWords = true
has_line (BadDump fault) = true
has_line (TooLong long) = true
has_line (BadCert fault) = true
has_line other = false

-- whether writing was cut off
abbrev pub is_cut : Status → Bool
is_cut WriteFault = true
is_cut other = false

-- an early end where it was told: its line, or none where memory for it could not be had
abbrev pub IsTold : Status → Status → List ℕ → Type 0
IsTold early WriteFault text = IsTrue (has_line early) × (text ≡ line_of early)
IsTold early NoMemory text = text ≡ []
IsTold early status text = (status ≡ early) × (text ≡ line_of early)

-- the line was written, or a front of it where writing was cut off
pub record Tells (early : Status) (before after : Option (List ℕ)) (status : Status) : Type 0 where
  pub text : List ℕ
  pub told : IsTold early status text
  pub adds : Adds (is_cut status) before after text
