-- What is read of the file of a certificate.
use Rattle.std.proofs.Common.{◌≡◌, ℕ, List, subst}
use Rattle.std.specs.Prelude.{MatchResult, Result, Ok, Err}
use Rattle.plan_io.specs.Store.{Shelf}
use Rattle.certificate_file.specs.Said.{IsCertificate}
use Rattle.certificate_file.specs.declared.CertEntry.{CertEntry}
use Rattle.run_inputs.specs.Certs.{EndsEntries, EndsReadingCert}
use Rattle.run_inputs.specs.Inputs.{IsCert, IsInput}
use Rattle.run_inputs.specs.declared.status.Status.{Status}
use Rattle.run_inputs.specs.declared.status.Status.TheVariants.{Done, SomeRefused, BadWords, BadDump, ReadFault, WriteFault, NoMemory, TooLong, BadCert}

ends : (shelf : Shelf) (name bytes : List ℕ) (r : Result (List CertEntry) Status) → IsInput shelf name 268_435_456 bytes → MatchResult r (IsCertificate bytes) (EndsEntries bytes)
    → MatchResult r (IsCert shelf name) (EndsReadingCert shelf name)
ends shelf name bytes (Ok entries) given says = record { bytes = bytes; given = given; says = says }
ends shelf name bytes (Err (BadCert fault)) given (is, some) = record { bytes = bytes; given = given; fault_is = is; no_memory = some }
ends shelf name bytes (Err NoMemory) given said = tt
ends shelf name bytes (Err Done) given said = absurd said
ends shelf name bytes (Err SomeRefused) given said = absurd said
ends shelf name bytes (Err BadWords) given said = absurd said
ends shelf name bytes (Err (BadDump fault)) given said = absurd said
ends shelf name bytes (Err ReadFault) given said = absurd said
ends shelf name bytes (Err WriteFault) given said = absurd said
ends shelf name bytes (Err (TooLong long)) given said = absurd said

-- the bytes are looked at as a slice
pub cert_of : (shelf : Shelf) (name bytes seen : List ℕ) (r : Result (List CertEntry) Status) → IsInput shelf name 268_435_456 bytes → seen ≡ bytes → MatchResult r (IsCertificate seen) (EndsEntries seen)
    → MatchResult r (IsCert shelf name) (EndsReadingCert shelf name)
cert_of shelf name bytes seen r given same said = ends shelf name bytes r given (subst (λ (b : List ℕ). MatchResult r (IsCertificate b) (EndsEntries b)) same said)
