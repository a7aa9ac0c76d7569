-- The tree of JSON (RFC 8259) that a list of entries is written as. The keys of each object stand in alphabetical order.
use Rattle.std.specs.Prelude.{ℕ, List, [], ◌∷◌, true, codes}
use Rattle.fractions.specs.Fraction.{Fraction}
use Rattle.fractions.specs.Print.{printed}
use Rattle.linear_table.specs.declared.Plan.{Plan}
use Rattle.serde_json.specs.Data.{Data, unsigned, boolean, number, string, array, object, Items, no_items, item, Members, no_members, member}
use Rattle.certificate_file.specs.declared.Claim.{Claim}
use Rattle.certificate_file.specs.declared.Claim.TheVariants.{Planned, Infeasible, Unsettled}
use Rattle.certificate_file.specs.declared.CertEntry.{CertEntry}

-- a list, where this is the tree of each item
abbrev pub items_tree : {A : Type 0} → (A → Data) → List A → Items
items_tree tree [] = no_items
items_tree tree (x ∷ xs) = item (tree x) (items_tree tree xs)

-- each fraction as its text
abbrev pub fraction_tree : Fraction → Data
fraction_tree x = string (printed x)

abbrev pub fractions_tree : List Fraction → Items
fractions_tree xs = items_tree fraction_tree xs

abbrev pub plan_tree : Plan → Data
plan_tree p = object (member (codes "cost") (string (printed p.cost)) (member (codes "prices") (array (fractions_tree p.prices)) (member (codes "rates") (array (fractions_tree p.rates)) no_members)))

-- the line, and the one claim about it
abbrev pub entry_members : ℕ → Claim → Members
entry_members line (Planned p) = member (codes "line") (number (unsigned line)) (member (codes "plan") (plan_tree p) no_members)
entry_members line (Infeasible prices) = member (codes "infeasible") (array (fractions_tree prices)) (member (codes "line") (number (unsigned line)) no_members)
entry_members line Unsettled = member (codes "line") (number (unsigned line)) (member (codes "open") (boolean true) no_members)

abbrev pub entry_tree : CertEntry → Data
entry_tree e = object (entry_members e.line e.claim)

abbrev pub entries_tree : List CertEntry → Items
entries_tree es = items_tree entry_tree es

-- the whole certificate
abbrev pub certificate_tree : List CertEntry → Data
certificate_tree es = object (member (codes "answers") (array (entries_tree es)) (member (codes "version") (number (unsigned 1)) no_members))
