-- The object of a catalog: its ten members, its text, and what is read of it.
use Rattle.std.proofs.Common.{◌≡◌, ◌∙◌, ℕ, suc, true, List, [], ◌∷◌, ◌++◌, Some, option_map, refl, sym, ap, arith, append_assoc}
use Rattle.std.specs.Prelude.{codes}
use Rattle.std.specs.Fmt.{digits}
use Rattle.json.specs.Print.{escape_byte, quoted}
use Rattle.serde_json.specs.Data.{Data, Members, member, no_members, number, object, string, unsigned}
use Rattle.serde_json.specs.Read.{of_json}
use Rattle.serde_json.specs.Written.{compact_text, members_text, outline}
use Rattle.serde_json.proofs.Numbers.{number_of-decimal}
use Rattle.catalog_laws.proofs.Members.{number_fits, text_fits}
use Rattle.catalog_laws.proofs.Plain.{Fits, member_held, nothing_held, object_fits}
use Rattle.catalog_laws.proofs.Reading.{Good}
use Rattle.catalog_laws.proofs.Rising.{members_read}

-- ---- its members
-- the two that are the same in each catalog
abbrev pub format_ : Data
format_ = string (codes "factoplan-catalog")

abbrev pub version_ : Data
version_ = number (unsigned 1)

-- those behind the one with a key
abbrev after_tech : Members
after_tech = member (codes "version") version_ no_members

abbrev after_special : Data → Members
after_special techs = member (codes "tech") techs after_tech

abbrev after_source : Data → Data → Members
after_source specials techs = member (codes "special") specials (after_special techs)

abbrev after_recipe : Data → Data → Data → Members
after_recipe sources specials techs = member (codes "source") sources (after_source specials techs)

abbrev after_milestones : Data → Data → Data → Data → Members
after_milestones recipes sources specials techs = member (codes "recipe") recipes (after_recipe sources specials techs)

abbrev after_machine : Data → Data → Data → Data → Data → Members
after_machine named recipes sources specials techs = member (codes "milestones") named (after_milestones recipes sources specials techs)

abbrev after_item : Data → Data → Data → Data → Data → Data → Members
after_item machines named recipes sources specials techs = member (codes "machine") machines (after_machine named recipes sources specials techs)

abbrev after_format : Data → Data → Data → Data → Data → Data → Data → Members
after_format items machines named recipes sources specials techs = member (codes "item") items (after_item machines named recipes sources specials techs)

abbrev after_fluid : Data → Data → Data → Data → Data → Data → Data → Members
after_fluid items machines named recipes sources specials techs = member (codes "format") format_ (after_format items machines named recipes sources specials techs)

-- all of them
abbrev pub whole_object : Data → Data → Data → Data → Data → Data → Data → Data → Data
whole_object fluids items machines named recipes sources specials techs = object (member (codes "fluid") fluids (after_fluid items machines named recipes sources specials techs))

-- ---- how it nests, and what is read of it
pub object_is_shallow : (n : ℕ) (fluids items machines named recipes sources specials techs : Data)
    → Fits n fluids → Fits n items → Fits n machines → Fits n named → Fits n recipes → Fits n sources → Fits n specials → Fits n techs → Fits (suc n) (whole_object fluids items machines named recipes sources specials techs)
object_is_shallow n fluids items machines named recipes sources specials techs fluid item machine milestones recipe source special tech =
    object_fits n (member (codes "fluid") fluids (after_fluid items machines named recipes sources specials techs))
    (member_held n (codes "fluid") fluids (after_fluid items machines named recipes sources specials techs) fluid
    (member_held n (codes "format") format_ (after_format items machines named recipes sources specials techs) (text_fits n (codes "factoplan-catalog"))
    (member_held n (codes "item") items (after_item machines named recipes sources specials techs) item
    (member_held n (codes "machine") machines (after_machine named recipes sources specials techs) machine
    (member_held n (codes "milestones") named (after_milestones recipes sources specials techs) milestones
    (member_held n (codes "recipe") recipes (after_recipe sources specials techs) recipe
    (member_held n (codes "source") sources (after_source specials techs) source
    (member_held n (codes "special") specials (after_special techs) special
    (member_held n (codes "tech") techs after_tech tech
    (member_held n (codes "version") version_ no_members (number_fits n 1) (nothing_held n)))))))))))

version_reads : of_json (outline version_) ≡ Some version_
version_reads = ap (option_map number) (number_of-decimal 1 (omega arith))

pub object_good : (n : ℕ) (fluids items machines named recipes sources specials techs : Data)
    → Good n fluids → Good n items → Good n machines → Good n named → Good n recipes → Good n sources → Good n specials → Good n techs → Good (suc n) (whole_object fluids items machines named recipes sources specials techs)
object_good n fluids items machines named recipes sources specials techs fluid item machine milestones recipe source special tech = record {
  fits = object_is_shallow n fluids items machines named recipes sources specials techs fluid.fits item.fits machine.fits milestones.fits recipe.fits source.fits special.fits tech.fits;
  small = (fluid.small, (tt, (item.small, (machine.small, (milestones.small, (recipe.small, (source.small, (special.small, (tech.small, (omega arith, tt))))))))));
  reads = ap (option_map object)
      (members_read (member (codes "fluid") fluids (after_fluid items machines named recipes sources specials techs)) no_members refl
      (fluid.reads, (refl, (item.reads, (machine.reads, (milestones.reads, (recipe.reads, (source.reads, (special.reads, (tech.reads, (version_reads, tt)))))))))));
}

-- ---- its text
-- what was written behind a head, before the rest
behind : (old head list new rest text : List ℕ) → new ≡ (old ++ head) ++ list → text ≡ new ++ rest → text ≡ old ++ (head ++ (list ++ rest))
behind old head list new rest text written is = is ∙ (ap (λ l. l ++ rest) written ∙ (append_assoc (old ++ head) list rest ∙ append_assoc old head (list ++ rest)))

regroup : (q a b c : List ℕ) → (q ++ 58 ∷ []) ++ (a ++ (b ++ c)) ≡ (q ++ 58 ∷ (a ++ b)) ++ c
regroup q a b c = append_assoc q (58 ∷ []) (a ++ (b ++ c)) ∙ sym (append_assoc q (58 ∷ (a ++ b)) c ∙ ap (λ s. q ++ 58 ∷ s) (append_assoc a b c))

-- a member behind others
told : (k : List ℕ) (d : Data) (ms : Members) (head rest : List ℕ) → head ≡ 44 ∷ (quoted k ++ 58 ∷ []) → rest ≡ members_text true ms ++ 10 ∷ []
    → head ++ (compact_text d ++ rest) ≡ members_text true (member k d ms) ++ 10 ∷ []
told k d ms head rest is more =
    ap (λ l. l ++ (compact_text d ++ rest)) is ∙ (ap (λ l. (44 ∷ (quoted k ++ 58 ∷ [])) ++ (compact_text d ++ l)) more ∙ ap (λ l. 44 ∷ l) (regroup (quoted k) (compact_text d) (members_text true ms) (10 ∷ [])))

-- the first member
told_first : (k : List ℕ) (d : Data) (ms : Members) (head rest : List ℕ) → head ≡ 123 ∷ (quoted k ++ 58 ∷ []) → rest ≡ members_text true ms ++ 10 ∷ []
    → head ++ (compact_text d ++ rest) ≡ compact_text (object (member k d ms)) ++ 10 ∷ []
told_first k d ms head rest is more =
    ap (λ l. l ++ (compact_text d ++ rest)) is ∙ (ap (λ l. (123 ∷ (quoted k ++ 58 ∷ [])) ++ (compact_text d ++ l)) more ∙ ap (λ l. 123 ∷ l) (regroup (quoted k) (compact_text d) (members_text true ms) (10 ∷ [])))

-- a head that has a whole member in it
two_heads : (both first inner second more : List ℕ) → both ≡ first ++ (inner ++ second) → both ++ more ≡ first ++ (inner ++ (second ++ more))
two_heads both first inner second more is = ap (λ l. l ++ more) is ∙ (append_assoc first (inner ++ second) more ∙ ap (λ l. first ++ l) (append_assoc inner second more))

-- the heads of members, as they are written
record AreHeads : Type 0 where
  fluid : codes "{\"fluid\":" ≡ 123 ∷ (quoted (codes "fluid") ++ 58 ∷ [])
  format : codes ",\"format\":" ≡ 44 ∷ (quoted (codes "format") ++ 58 ∷ [])
  item : codes ",\"item\":" ≡ 44 ∷ (quoted (codes "item") ++ 58 ∷ [])
  machine : codes ",\"machine\":" ≡ 44 ∷ (quoted (codes "machine") ++ 58 ∷ [])
  milestones : codes ",\"milestones\":" ≡ 44 ∷ (quoted (codes "milestones") ++ 58 ∷ [])
  recipe : codes ",\"recipe\":" ≡ 44 ∷ (quoted (codes "recipe") ++ 58 ∷ [])
  source : codes ",\"source\":" ≡ 44 ∷ (quoted (codes "source") ++ 58 ∷ [])
  special : codes ",\"special\":" ≡ 44 ∷ (quoted (codes "special") ++ 58 ∷ [])
  tech : codes ",\"tech\":" ≡ 44 ∷ (quoted (codes "tech") ++ 58 ∷ [])
  format_and_item : codes ",\"format\":\"factoplan-catalog\",\"item\":" ≡ codes ",\"format\":" ++ (compact_text format_ ++ codes ",\"item\":")
  version : codes ",\"version\":1}\n" ≡ members_text true after_tech ++ 10 ∷ []

are_heads : AreHeads
unfolding escape_byte digits
are_heads = record {
  fluid = refl;
  format = refl;
  item = refl;
  machine = refl;
  milestones = refl;
  recipe = refl;
  source = refl;
  special = refl;
  tech = refl;
  format_and_item = refl;
  version = refl;
}

-- what is written member by member is the text of the object, with a line end
pub object_text : (fluids items machines named recipes sources specials techs : Data) (fluid item machine milestones recipe source special tech text : List ℕ)
    → fluid ≡ ([] ++ codes "{\"fluid\":") ++ compact_text fluids
    → item ≡ (fluid ++ codes ",\"format\":\"factoplan-catalog\",\"item\":") ++ compact_text items
    → machine ≡ (item ++ codes ",\"machine\":") ++ compact_text machines
    → milestones ≡ (machine ++ codes ",\"milestones\":") ++ compact_text named
    → recipe ≡ (milestones ++ codes ",\"recipe\":") ++ compact_text recipes
    → source ≡ (recipe ++ codes ",\"source\":") ++ compact_text sources
    → special ≡ (source ++ codes ",\"special\":") ++ compact_text specials
    → tech ≡ (special ++ codes ",\"tech\":") ++ compact_text techs
    → text ≡ tech ++ codes ",\"version\":1}\n"
    → text ≡ compact_text (whole_object fluids items machines named recipes sources specials techs) ++ 10 ∷ []
object_text fluids items machines named recipes sources specials techs fluid item machine milestones recipe source special tech text is_fluid is_item is_machine is_milestones is_recipe is_source is_special is_tech is_text =
    let rest_tech : List ℕ = codes ",\"version\":1}\n" in
    let rest_special : List ℕ = codes ",\"tech\":" ++ (compact_text techs ++ rest_tech) in
    let rest_source : List ℕ = codes ",\"special\":" ++ (compact_text specials ++ rest_special) in
    let rest_recipe : List ℕ = codes ",\"source\":" ++ (compact_text sources ++ rest_source) in
    let rest_milestones : List ℕ = codes ",\"recipe\":" ++ (compact_text recipes ++ rest_recipe) in
    let rest_machine : List ℕ = codes ",\"milestones\":" ++ (compact_text named ++ rest_milestones) in
    let rest_item : List ℕ = codes ",\"machine\":" ++ (compact_text machines ++ rest_machine) in
    let rest_fluid : List ℕ = codes ",\"format\":\"factoplan-catalog\",\"item\":" ++ (compact_text items ++ rest_item) in
    let from_tech : text ≡ tech ++ rest_tech = is_text in
    let from_special : text ≡ special ++ rest_special = behind special (codes ",\"tech\":") (compact_text techs) tech rest_tech text is_tech from_tech in
    let from_source : text ≡ source ++ rest_source = behind source (codes ",\"special\":") (compact_text specials) special rest_special text is_special from_special in
    let from_recipe : text ≡ recipe ++ rest_recipe = behind recipe (codes ",\"source\":") (compact_text sources) source rest_source text is_source from_source in
    let from_milestones : text ≡ milestones ++ rest_milestones = behind milestones (codes ",\"recipe\":") (compact_text recipes) recipe rest_recipe text is_recipe from_recipe in
    let from_machine : text ≡ machine ++ rest_machine = behind machine (codes ",\"milestones\":") (compact_text named) milestones rest_milestones text is_milestones from_milestones in
    let from_item : text ≡ item ++ rest_item = behind item (codes ",\"machine\":") (compact_text machines) machine rest_machine text is_machine from_machine in
    let from_fluid : text ≡ fluid ++ rest_fluid = behind fluid (codes ",\"format\":\"factoplan-catalog\",\"item\":") (compact_text items) item rest_item text is_item from_item in
    let all : text ≡ codes "{\"fluid\":" ++ (compact_text fluids ++ rest_fluid) = behind [] (codes "{\"fluid\":") (compact_text fluids) fluid rest_fluid text is_fluid from_fluid in
    let told_tech : rest_tech ≡ members_text true after_tech ++ 10 ∷ [] = are_heads.version in
    let told_special : rest_special ≡ members_text true (after_special techs) ++ 10 ∷ [] = told (codes "tech") techs after_tech (codes ",\"tech\":") rest_tech are_heads.tech told_tech in
    let told_source : rest_source ≡ members_text true (after_source specials techs) ++ 10 ∷ [] =
    told (codes "special") specials (after_special techs) (codes ",\"special\":") rest_special are_heads.special told_special in
    let told_recipe : rest_recipe ≡ members_text true (after_recipe sources specials techs) ++ 10 ∷ [] =
    told (codes "source") sources (after_source specials techs) (codes ",\"source\":") rest_source are_heads.source told_source in
    let told_milestones : rest_milestones ≡ members_text true (after_milestones recipes sources specials techs) ++ 10 ∷ [] =
    told (codes "recipe") recipes (after_recipe sources specials techs) (codes ",\"recipe\":") rest_recipe are_heads.recipe told_recipe in
    let told_machine : rest_machine ≡ members_text true (after_machine named recipes sources specials techs) ++ 10 ∷ [] =
    told (codes "milestones") named (after_milestones recipes sources specials techs) (codes ",\"milestones\":") rest_milestones are_heads.milestones told_milestones in
    let told_item : rest_item ≡ members_text true (after_item machines named recipes sources specials techs) ++ 10 ∷ [] =
    told (codes "machine") machines (after_machine named recipes sources specials techs) (codes ",\"machine\":") rest_machine are_heads.machine told_machine in
    let told_format : codes ",\"item\":" ++ (compact_text items ++ rest_item) ≡ members_text true (after_format items machines named recipes sources specials techs) ++ 10 ∷ [] =
    told (codes "item") items (after_item machines named recipes sources specials techs) (codes ",\"item\":") rest_item are_heads.item told_item in
    let told_fluid : rest_fluid ≡ members_text true (after_fluid items machines named recipes sources specials techs) ++ 10 ∷ [] =
    two_heads (codes ",\"format\":\"factoplan-catalog\",\"item\":") (codes ",\"format\":") (compact_text format_) (codes ",\"item\":") (compact_text items ++ rest_item) are_heads.format_and_item
    ∙ told (codes "format") format_ (after_format items machines named recipes sources specials techs) (codes ",\"format\":") (codes ",\"item\":" ++ (compact_text items ++ rest_item)) are_heads.format told_format in
    all ∙ told_first (codes "fluid") fluids (after_fluid items machines named recipes sources specials techs) (codes "{\"fluid\":") rest_fluid are_heads.fluid told_fluid
