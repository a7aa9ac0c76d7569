-- What a part of a certificate is read as.
use Rattle.std.specs.Prelude.{◌≡◌, ◌≢◌, Result, Ok, Err}
use Rattle.certificate_file.specs.declared.CertFault.{CertFault}
use Rattle.certificate_file.specs.declared.CertFault.TheVariants.{NotJson, BadForm}

-- what is said, or that nothing is
abbrev pub ReadsBy : {A : Type 0} → (A → Type 0) → Result A CertFault → Type 0
ReadsBy Says (Ok x) = Says x
ReadsBy {A} Says (Err fault) = (fault ≡ BadForm → (x : A) → ¬ Says x) × (fault ≢ NotJson)
