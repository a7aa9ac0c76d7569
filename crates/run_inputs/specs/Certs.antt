-- How the reading of a certificate ends that gives no entries.
use Rattle.std.specs.Prelude.{◌≢◌, List, ℕ, ⊤}
use Rattle.plan_io.specs.Store.{Shelf}
use Rattle.certificate_file.specs.Said.{IsCertFault}
use Rattle.certificate_file.specs.declared.CertFault.TheVariants as of_cert
use Rattle.run_inputs.specs.Inputs.{IsBadCertOf, IsLong}
use Rattle.run_inputs.specs.declared.status.Status.{Status}
use Rattle.run_inputs.specs.declared.status.Status.TheVariants.{ReadFault, NoMemory, TooLong, BadCert}
use Rattle.run_inputs.specs.declared.status.Long.TheVariants.{CertBytes}

-- the bytes are no certificate
abbrev pub EndsEntries : List ℕ → Status → Type 0
EndsEntries bytes NoMemory = ⊤
EndsEntries bytes (BadCert fault) = IsCertFault bytes fault × (fault ≢ of_cert.NoMemory)
EndsEntries bytes other = ⊥

-- no file of that name has a certificate within its limit
abbrev pub EndsReadingCert : Shelf → List ℕ → Status → Type 0
EndsReadingCert shelf name (BadCert fault) = IsBadCertOf shelf name fault
EndsReadingCert shelf name (TooLong CertBytes) = IsLong shelf name 268_435_456
EndsReadingCert shelf name ReadFault = ⊤
EndsReadingCert shelf name NoMemory = ⊤
EndsReadingCert shelf name other = ⊥
