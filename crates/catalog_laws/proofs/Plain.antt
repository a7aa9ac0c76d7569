-- Values whose numbers are whole and not negative, and which nest few levels: what is put into such members leaves them such.
use Rattle.std.proofs.Common.{◌≡◌, ◌≤◌, ℕ, suc, Bool, true, false, List, [], ◌∷◌, refl, arith, Ordering, Less, Equal, Greater}
use Rattle.std.specs.Prelude.{◌||◌, ⊤}
use Rattle.std.specs.Ordering.{match_ordering, nat_cmp}
use Rattle.std.specs.Cmp.Lexicographic.{slice_cmp}
use Rattle.serde_json.specs.Data.{Num, unsigned, negative, float, Data, null, boolean, number, string, array, object, Items, no_items, item, Members, no_members, member, put, depth, items_depth, members_depth}
use Rattle.serde_json.specs.Written.{has_float, items_have_float, members_have_float}
use Rattle.catalog_members.specs.Members.{items_tree}

abbrev pub IsCount : Num → Type 0
IsCount (unsigned n) = ⊤
IsCount (negative z) = ⊥
IsCount (float x) = ⊥

abbrev mutual
  pub IsPlain : Data → Type 0
  IsPlain null = ⊤
  IsPlain (boolean b) = ⊤
  IsPlain (number n) = IsCount n
  IsPlain (string s) = ⊤
  IsPlain (array ds) = ArePlain ds
  IsPlain (object ms) = HasPlain ms

  pub ArePlain : Items → Type 0
  ArePlain no_items = ⊤
  ArePlain (item d ds) = IsPlain d × ArePlain ds

  pub HasPlain : Members → Type 0
  HasPlain no_members = ⊤
  HasPlain (member k d ms) = IsPlain d × HasPlain ms

-- ---- no number is a float
count_is_no_float : (n : Num) → IsCount n → has_float (number n) ≡ false
count_is_no_float (unsigned n) h = refl
count_is_no_float (negative z) h = absurd h
count_is_no_float (float x) h = absurd h

neither : (a b : Bool) → a ≡ false → b ≡ false → (a || b) ≡ false
neither true b h k = absurd (cc)
neither false b h k = k

mutual
  pub no_float : (d : Data) → IsPlain d → has_float d ≡ false
  no_float null h = refl
  no_float (boolean b) h = refl
  no_float (number n) h = count_is_no_float n h
  no_float (string s) h = refl
  no_float (array ds) h = no_floats ds h
  no_float (object ms) h = no_float_in ms h

  no_floats : (ds : Items) → ArePlain ds → items_have_float ds ≡ false
  no_floats no_items h = refl
  no_floats (item d ds) h = neither (has_float d) (items_have_float ds) (no_float d h.0) (no_floats ds h.1)

  no_float_in : (ms : Members) → HasPlain ms → members_have_float ms ≡ false
  no_float_in no_members h = refl
  no_float_in (member k d ms) h = neither (has_float d) (members_have_float ms) (no_float d h.0) (no_float_in ms h.1)

-- ---- plain, and no deeper than so many levels
pub record Fits (n : ℕ) (d : Data) : Type 0 where
  pub plain : IsPlain d
  pub shallow : depth d ≤ n

pub record AllFit (n : ℕ) (ds : Items) : Type 0 where
  pub plain : ArePlain ds
  pub shallow : items_depth ds ≤ n

pub record Holds (n : ℕ) (ms : Members) : Type 0 where
  pub plain : HasPlain ms
  pub shallow : members_depth ms ≤ n

pub nothing_held : (n : ℕ) → Holds n no_members
nothing_held n = record { plain = tt; shallow = omega arith }

pub object_fits : (n : ℕ) (ms : Members) → Holds n ms → Fits (suc n) (object ms)
object_fits n ms h = record { plain = h.plain; shallow = omega (arith, h.shallow) }

pub array_fits : (n : ℕ) (ds : Items) → AllFit n ds → Fits (suc n) (array ds)
array_fits n ds h = record { plain = h.plain; shallow = omega (arith, h.shallow) }

pub deeper : (m n : ℕ) (d : Data) → m ≤ n → Fits m d → Fits n d
deeper m n d le h = record { plain = h.plain; shallow = omega (arith, le, h.shallow) }

pub member_held : (n : ℕ) (k : List ℕ) (d : Data) (ms : Members) → Fits n d → Holds n ms → Holds n (member k d ms)
member_held n k d ms one rest = record { plain = (one.plain, rest.plain); shallow = omega (arith, one.shallow, rest.shallow) }

item_fits : (n : ℕ) (d : Data) (ds : Items) → Fits n d → AllFit n ds → AllFit n (item d ds)
item_fits n d ds one rest = record { plain = (one.plain, rest.plain); shallow = omega (arith, one.shallow, rest.shallow) }

pub tree_fits : {A : Type 0} (n : ℕ) (tree : A → Data) → ((x : A) → Fits n (tree x)) → (xs : List A) → AllFit n (items_tree tree xs)
tree_fits n tree each [] = record { plain = tt; shallow = omega arith }
tree_fits n tree each (x ∷ xs) = item_fits n (tree x) (items_tree tree xs) (each x) (tree_fits n tree each xs)

-- ---- what is put among members
holds_match : (n : ℕ) (o : Ordering) (a b c : Members) → Holds n a → Holds n b → Holds n c → Holds n (match_ordering o a b c)
holds_match n Less a b c p q r = p
holds_match n Equal a b c p q r = q
holds_match n Greater a b c p q r = r

pub put_holds : (n : ℕ) (k : List ℕ) (d : Data) (ms : Members) → Fits n d → Holds n ms → Holds n (put k d ms)
put_holds n k d no_members one h = member_held n k d no_members one h
put_holds n k d (member l e ms) one h =
    let first : Fits n e = record { plain = h.plain.0; shallow = omega (arith, h.shallow) } in
    let rest : Holds n ms = record { plain = h.plain.1; shallow = omega (arith, h.shallow) } in
    holds_match n (slice_cmp nat_cmp k l) (member k d (member l e ms)) (member l d ms) (member l e (put k d ms))
    (member_held n k d (member l e ms) one h)
    (member_held n l d ms one rest)
    (member_held n l e (put k d ms) first (put_holds n k d ms one rest))
