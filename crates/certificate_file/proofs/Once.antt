-- A certificate says one list of entries.
use Rattle.std.proofs.Common.{◌≡◌, ◌∙◌, ℕ, List, [], ◌∷◌, refl, sym, ap, ap₂, codes}
use Rattle.std.specs.Prelude.{Option, Some, None}
use Rattle.fractions.specs.Fraction.{Fraction}
use Rattle.linear_table.specs.declared.Plan.{Plan}
use Rattle.serde_json.specs.Data.{Data, Items, no_items, item}
use Rattle.serde_json.specs.Find.{get}
use Rattle.certificate_file.specs.Said.{EachSays, Has, IsCertificate, SaysCertificate, SaysClaim, SaysEntry, SaysFraction, SaysList, SaysPlan}
use Rattle.certificate_file.specs.declared.Claim.{Claim}
use Rattle.certificate_file.specs.declared.Claim.TheVariants.{Planned, Infeasible}
use Rattle.certificate_file.specs.declared.CertEntry.{CertEntry}
use Rattle.fractions.proofs.Printed.{printed_once}

abbrev Once : {A : Type 0} → (Data → A → Type 0) → Type 0
Once {A} Says = (d : Data) (x y : A) → Says d x → Says d y → x ≡ y

fraction_once : Once SaysFraction
fraction_once d x y a b = printed_once x y a.narrow b.narrow (let same = sym a.text ∙ b.text in cc)

each_once : {A : Type 0} (Says : Data → A → Type 0) → Once Says → (ds : Items) (xs ys : List A) → EachSays Says ds xs → EachSays Says ds ys → xs ≡ ys
each_once Says once no_items [] [] a b = refl
each_once Says once no_items [] (y ∷ ys) a b = absurd b
each_once Says once no_items (x ∷ xs) ys a b = absurd a
each_once Says once (item d ds) [] ys a b = absurd a
each_once Says once (item d ds) (x ∷ xs) [] a b = absurd b
each_once {A} Says once (item d ds) (x ∷ xs) (y ∷ ys) a b = ap₂ (λ (h : A) (t : List A). h ∷ t) (once d x y a.0 b.0) (each_once Says once ds xs ys a.1 b.1)

list_once : {A : Type 0} (Says : Data → A → Type 0) → Once Says → Once (SaysList Says)
list_once Says once d xs ys (ds, is, a) (es, is_too, b) =
    let same : ds ≡ es = let both = sym is ∙ is_too in cc in
    each_once Says once ds xs ys a (rw same b)

has_once : {A : Type 0} (Says : Data → A → Type 0) → Once Says → (key : List ℕ) (d : Data) (x y : A) → Has key d (λ m. Says m x) → Has key d (λ m. Says m y) → x ≡ y
has_once Says once key d x y (m, is, a) (n, is_too, b) =
    let same : m ≡ n = let both = sym is ∙ is_too in cc in
    once m x y a (rw same b)

same_plan : (p q : Plan) → p.cost ≡ q.cost → p.prices ≡ q.prices → p.rates ≡ q.rates → p ≡ q
same_plan p q cost prices rates = ap₂ (λ (c : Fraction) (ys : List Fraction). record { rates = p.rates; cost = c; prices = ys }) cost prices ∙ ap (λ (xs : List Fraction). record { rates = xs; cost = q.cost; prices = q.prices }) rates

plan_once : Once SaysPlan
plan_once d p q a b =
    let cost = has_once SaysFraction fraction_once (codes "cost") d p.cost q.cost a.cost b.cost in
    let prices = has_once (SaysList SaysFraction) (list_once SaysFraction fraction_once) (codes "prices") d p.prices q.prices a.prices b.prices in
    let rates = has_once (SaysList SaysFraction) (list_once SaysFraction fraction_once) (codes "rates") d p.rates q.rates a.rates b.rates in
    same_plan p q cost prices rates

claim_once : (plan infeasible open_ : Option Data) (c k : Claim) → SaysClaim plan infeasible open_ c → SaysClaim plan infeasible open_ k → c ≡ k
claim_once (Some d) None None c k a b = a.1 ∙ ap Planned (plan_once d a.0 b.0 a.2 b.2) ∙ sym b.1
claim_once None (Some d) None c k a b = a.1 ∙ ap Infeasible (list_once SaysFraction fraction_once d a.0 b.0 a.2 b.2) ∙ sym b.1
claim_once None None (Some d) c k a b = a.0 ∙ sym b.0
claim_once None None None c k a b = absurd a
claim_once None (Some d) (Some e) c k a b = absurd a
claim_once (Some d) None (Some e) c k a b = absurd a
claim_once (Some d) (Some e) o c k a b = absurd a

entry_once : Once SaysEntry
entry_once d e f a b =
    let line : e.line ≡ f.line = let both = sym a.line.0 ∙ b.line.0 in cc in
    let claim = claim_once (get (codes "plan") d) (get (codes "infeasible") d) (get (codes "open") d) e.claim f.claim a.claim b.claim in
    ap₂ (λ (n : ℕ) (c : Claim). record { line = n; claim = c }) line claim

certificate_once : Once SaysCertificate
certificate_once d es fs a b = has_once (SaysList SaysEntry) (list_once SaysEntry entry_once) (codes "answers") d es fs a.answers b.answers

pub said_once : (bytes : List ℕ) (es fs : List CertEntry) → IsCertificate bytes es → IsCertificate bytes fs → es ≡ fs
said_once bytes es fs a b =
    let same : a.data_ ≡ b.data_ = let both = sym a.json.value ∙ b.json.value in cc in
    certificate_once a.data_ es fs a.says (rw same b.says)
