-- The dump and the script that the words of a run ask for.
use Rattle.std.specs.Prelude.{◌≡◌, ◌≢◌, ◌<◌, ◌≤◌, ℕ, List, length, Option, None, Some}
use Rattle.plan_io.specs.Store.{Shelf}
use Rattle.game_types.specs.declared.games.Game.{Game}
use Rattle.certificate_file.specs.Said.{IsCertificate, IsCertFault}
use Rattle.certificate_file.specs.declared.CertEntry.{CertEntry}
use Rattle.certificate_file.specs.declared.CertFault.{CertFault}
use Rattle.certificate_file.specs.declared.CertFault.TheVariants.{NoMemory}
use Rattle.sample_maker.specs.Texts.{sample_dump, sample_script}
use Rattle.run_inputs.specs.Base.{HasBase}
use Rattle.run_inputs.specs.Reading.{IsContent}
use Rattle.run_inputs.specs.Words.{Asked, Files, Sample, Check}

-- a file of that name that is within its limit, and one that is not
pub record IsInput (shelf : Shelf) (name : List ℕ) (limit : ℕ) (bytes : List ℕ) : Type 0 where
  pub content : IsContent shelf name bytes
  pub fits : length bytes ≤ limit

pub record IsLong (shelf : Shelf) (name : List ℕ) (limit : ℕ) : Type 0 where
  pub bytes : List ℕ
  pub content : IsContent shelf name bytes
  pub passes : limit < length bytes

-- the bytes of the dump: those of a file within its limit, or those of the sample
abbrev pub IsDump : Shelf → Option Asked → List ℕ → Type 0
IsDump shelf (Some (Files mode names)) dump = IsInput shelf names.dump 268_435_456 dump
IsDump shelf (Some (Sample number size)) dump = dump ≡ sample_dump number size
IsDump shelf None dump = ⊥

-- those of the script
abbrev pub IsScript : Shelf → Option Asked → List ℕ → Type 0
IsScript shelf (Some (Files mode names)) script = IsInput shelf names.script 16_777_216 script
IsScript shelf (Some (Sample number size)) script = script ≡ sample_script number size
IsScript shelf None script = ⊥

-- the dump is too long, and the script is
abbrev pub IsLongDump : Shelf → Option Asked → Type 0
IsLongDump shelf (Some (Files mode names)) = IsLong shelf names.dump 268_435_456
IsLongDump shelf other = ⊥

abbrev pub IsLongScript : Shelf → Option Asked → Type 0
IsLongScript shelf (Some (Files mode names)) = IsLong shelf names.script 16_777_216
IsLongScript shelf other = ⊥

-- the dump has this base
pub record IsBase (shelf : Shelf) (asked : Option Asked) (game : Game) : Type 0 where
  pub dump : List ℕ
  pub given : IsDump shelf asked dump
  pub has : HasBase dump game

-- the certificate of a file within its limit, and one that is too long
pub record IsCert (shelf : Shelf) (name : List ℕ) (entries : List CertEntry) : Type 0 where
  pub bytes : List ℕ
  pub given : IsInput shelf name 268_435_456 bytes
  pub says : IsCertificate bytes entries

abbrev pub IsLongCert : Shelf → Option Asked → Type 0
IsLongCert shelf (Some (Files (Check cert) names)) = IsLong shelf cert 268_435_456
IsLongCert shelf other = ⊥

-- the bytes of the certificate's file, within its limit, are no certificate for this fault, which is never want of memory
pub record IsBadCertOf (shelf : Shelf) (name : List ℕ) (fault : CertFault) : Type 0 where
  pub bytes : List ℕ
  pub given : IsInput shelf name 268_435_456 bytes
  pub fault_is : IsCertFault bytes fault
  pub no_memory : fault ≢ NoMemory

abbrev pub IsBadCert : Shelf → Option Asked → CertFault → Type 0
IsBadCert shelf (Some (Files (Check cert) names)) fault = IsBadCertOf shelf cert fault
IsBadCert shelf other fault = ⊥
