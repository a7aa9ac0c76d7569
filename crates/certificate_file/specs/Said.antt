-- The entries that a certificate says: JSON (RFC 8259) in UTF-8. Members of objects that are not named here are passed over.
use Rattle.std.specs.Prelude.{◌≡◌, ◌≤◌, ℕ, List, [], ◌∷◌, Option, Some, None, true, codes, ⊤}
use Rattle.std.specs.Str.{IsUtf8}
use Rattle.fractions.specs.Fraction.{Fraction}
use Rattle.fractions.specs.Limits.{IsNarrow}
use Rattle.fractions.specs.Print.{printed}
use Rattle.linear_table.specs.declared.Plan.{Plan}
use Rattle.serde_json.specs.Data.{Data, unsigned, boolean, number, string, array, Items, no_items, item}
use Rattle.serde_json.specs.Find.{get}
use Rattle.serde_json.specs.Read.{read}
use Rattle.certificate_file.specs.declared.Claim.{Claim}
use Rattle.certificate_file.specs.declared.Claim.TheVariants.{Planned, Infeasible, Unsettled}
use Rattle.certificate_file.specs.declared.CertEntry.{CertEntry}
use Rattle.certificate_file.specs.declared.CertFault.{CertFault}
use Rattle.certificate_file.specs.declared.CertFault.TheVariants.{NoMemory, NotJson, BadForm}

-- the object has this member, of which P holds
abbrev pub Has : List ℕ → Data → (Data → Type 0) → Type 0
Has key d P = (m : Data) × (get key d ≡ Some m) × P m

-- one value of the array says one item of the list, in order
abbrev pub EachSays : {A : Type 0} → (Data → A → Type 0) → Items → List A → Type 0
EachSays Says no_items [] = ⊤
EachSays Says no_items (x ∷ xs) = ⊥
EachSays Says (item d ds) [] = ⊥
EachSays Says (item d ds) (x ∷ xs) = Says d x × EachSays Says ds xs

abbrev pub SaysList : {A : Type 0} → (Data → A → Type 0) → Data → List A → Type 0
SaysList Says d xs = (ds : Items) × (d ≡ array ds) × EachSays Says ds xs

-- the text that is printed of a fraction within the limits
pub record SaysFraction (d : Data) (x : Fraction) : Type 0 where
  pub text : d ≡ string (printed x)
  pub narrow : IsNarrow x

pub record SaysPlan (d : Data) (p : Plan) : Type 0 where
  pub cost : Has (codes "cost") d (λ m. SaysFraction m p.cost)
  pub prices : Has (codes "prices") d (λ m. SaysList SaysFraction m p.prices)
  pub rates : Has (codes "rates") d (λ m. SaysList SaysFraction m p.rates)

-- exactly one of the three members `plan`, `infeasible` and `open` stands there
abbrev pub SaysClaim : Option Data → Option Data → Option Data → Claim → Type 0
SaysClaim (Some d) None None claim = (p : Plan) × (claim ≡ Planned p) × SaysPlan d p
SaysClaim None (Some d) None claim = (prices : List Fraction) × (claim ≡ Infeasible prices) × SaysList SaysFraction d prices
SaysClaim None None (Some d) claim = (claim ≡ Unsettled) × (d ≡ boolean true)
SaysClaim plan infeasible open_ claim = ⊥

-- a line that a script may have
pub record IsLine (n : ℕ) : Type 0 where
  pub first : 1 ≤ n
  pub last : n ≤ 100_000

abbrev pub IsLineOf : Data → ℕ → Type 0
IsLineOf d n = (get (codes "line") d ≡ Some (number (unsigned n))) × IsLine n

pub record SaysEntry (d : Data) (e : CertEntry) : Type 0 where
  pub line : IsLineOf d e.line
  pub claim : SaysClaim (get (codes "plan") d) (get (codes "infeasible") d) (get (codes "open") d) e.claim

pub record SaysCertificate (d : Data) (es : List CertEntry) : Type 0 where
  pub version : get (codes "version") d ≡ Some (number (unsigned 1))
  pub answers : Has (codes "answers") d (λ m. SaysList SaysEntry m es)

-- the bytes are UTF-8 and the text of a JSON value of at most 127 levels
pub record IsJson (bytes : List ℕ) (d : Data) : Type 0 where
  pub utf8 : IsUtf8 bytes
  pub value : read bytes ≡ Some d

-- The bytes are a certificate of these entries.
pub record IsCertificate (bytes : List ℕ) (es : List CertEntry) : Type 0 where
  pub data_ : Data
  pub json : IsJson bytes data_
  pub says : SaysCertificate data_ es

-- why bytes are no certificate
abbrev pub IsCertFault : List ℕ → CertFault → Type 0
IsCertFault bytes NoMemory = ⊤
IsCertFault bytes NotJson = (d : Data) → ¬ IsJson bytes d
IsCertFault bytes BadForm = ((d : Data) × IsJson bytes d) × ((es : List CertEntry) → ¬ IsCertificate bytes es)

-- each entry is about a line that a script may have
abbrev pub HaveLines : List CertEntry → Type 0
HaveLines [] = ⊤
HaveLines (e ∷ es) = IsLine e.line × HaveLines es
