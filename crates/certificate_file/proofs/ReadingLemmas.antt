-- What a member says is what its object says of it.
use Rattle.std.proofs.Common.{◌≡◌, ◌∙◌, ℕ, List, refl, sym, subst, codes}
use Rattle.std.specs.Prelude.{Result, Ok, Err, IsErr, IsErrAnd, MatchResult, Some}
use Rattle.serde_json.specs.Data.{Data, number, unsigned}
use Rattle.serde_json.specs.Find.{get}
use Rattle.certificate_file.specs.Reading.{ReadsBy}
use Rattle.certificate_file.specs.Said.{Has, IsCertificate, IsCertFault, IsJson, SaysCertificate, SaysEntry, SaysList}
use Rattle.certificate_file.specs.declared.CertEntry.{CertEntry}
use Rattle.certificate_file.specs.declared.CertFault.{CertFault}
use Rattle.certificate_file.specs.declared.CertFault.TheVariants.{NoMemory, NotJson, BadForm}

of_member : {A : Type 0} (Says : Data → A → Type 0) (key : List ℕ) (d m : Data) (x : A) → get key d ≡ Some m → Has key d (λ n. Says n x) → Says m x
of_member Says key d m x is (n, is_too, says) =
    let same : n ≡ m = let both = sym is_too ∙ is in cc in
    subst (λ (e : Data). Says e x) same says

pub member_gives : {A : Type 0} (Says : Data → A → Type 0) (key : List ℕ) (d m : Data) (r : Result A CertFault) → get key d ≡ Some m → ReadsBy (Says m) r → ReadsBy (λ x. Has key d (λ n. Says n x)) r
member_gives Says key d m (Ok x) is given = (m, is, given)
member_gives Says key d m (Err fault) is given = (λ bad x has. given.0 bad x (of_member Says key d m x is has), given.1)

-- what a fault says is what the answer says that `?` makes of it
pub fault_gives : {A : Type 0} (Says : A → Type 0) (r : Result A CertFault) (fault : CertFault) → IsErr r × IsErrAnd r (λ e. e ≡ fault) → ReadsBy Says (Err fault) → ReadsBy Says r
fault_gives Says (Ok x) fault h given = absurd h.1
fault_gives Says (Err e) fault h given = subst (λ (f : CertFault). ReadsBy Says (Err f)) (sym h.1) given

pub certificate_gives : (d m : Data) (r : Result (List CertEntry) CertFault) → get (codes "version") d ≡ Some (number (unsigned 1)) → get (codes "answers") d ≡ Some m → ReadsBy (SaysList SaysEntry m) r → ReadsBy (SaysCertificate d) r
certificate_gives d m (Ok es) version is given = record { version = version; answers = (m, is, given) }
certificate_gives d m (Err fault) version is given = (λ bad es says. given.0 bad es (of_member (SaysList SaysEntry) (codes "answers") d m es is says.answers), given.1)

of_json : (bytes : List ℕ) (d : Data) (es : List CertEntry) → IsJson bytes d → IsCertificate bytes es → SaysCertificate d es
of_json bytes d es json says =
    let same : says.data_ ≡ d = let both = sym says.json.value ∙ json.value in cc in
    subst (λ (e : Data). SaysCertificate e es) same says.says

fault_given : (bytes : List ℕ) (d : Data) (fault : CertFault) → IsJson bytes d → ReadsBy (SaysCertificate d) (Err fault) → IsCertFault bytes fault
fault_given bytes d NoMemory json given = tt
fault_given bytes d NotJson json given = absurd (given.1 refl)
fault_given bytes d BadForm json given = ((d, json), λ es says. given.0 refl es (of_json bytes d es json says))

pub certificate_read : (bytes : List ℕ) (d : Data) (r : Result (List CertEntry) CertFault) → IsJson bytes d → ReadsBy (SaysCertificate d) r → MatchResult r (IsCertificate bytes) (IsCertFault bytes)
certificate_read bytes d (Ok es) json given = record { data_ = d; json = json; says = given }
certificate_read bytes d (Err fault) json given = fault_given bytes d fault json given
