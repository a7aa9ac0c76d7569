-- The text of a plain value with no blanks reads back where what it is made of does.
use Rattle.std.proofs.Common.{◌≡◌, ◌∙◌, ◌≤◌, ◌<◌, ◌+◌, ℕ, zero, suc, List, [], ◌∷◌, Option, Some, option_map, option_and_then, refl, sym, ap, ap₂, arith, append-nil, ◌++◌}
use Rattle.std.specs.Prelude.{max}
use Rattle.std.specs.List.{range_with_len}
use Rattle.json.specs.Token.{Token}
use Rattle.json.specs.Json as json
use Rattle.json.specs.Lex.{tokens}
use Rattle.json.specs.Tree as tree
use Rattle.json.proofs.Printed.Decimals.{IsNumber-decimal}
use Rattle.json.proofs.Printed.Tokens.{tokens-print}
use Rattle.json.proofs.Printed.Trees.{ArePrintable-json_tokens, value-json_tokens}
use Rattle.serde_json.specs.Data.{Num, unsigned, negative, float, Data, null, boolean, number, string, array, object, Items, no_items, item, Members, no_members, member, depth, items_depth, members_depth}
use Rattle.serde_json.specs.Read.{max_depth, of_items, of_json, read}
use Rattle.serde_json.specs.Written.{compact_text, items_outline, members_outline, outline}
use Rattle.serde_json.proofs.Texts.{print-outline}
use Rattle.catalog_members.specs.Members.{items_tree}
use Rattle.catalog_members.specs.Texts.{IsTextOf}
use Rattle.catalog_laws.proofs.Line.{same_tokens}
use Rattle.catalog_laws.proofs.Numbers.{AreSmall, HasSmall, IsSmall, read_small}
use Rattle.catalog_laws.proofs.Plain.{AllFit, ArePlain, Fits, HasPlain, IsCount, IsPlain, array_fits, no_float}

-- ---- the JSON of a value
count_is_number : (n : Num) → IsCount n → IsSmall (number n) → tree.HasNumbers (outline (number n))
count_is_number (unsigned n) plain small = IsNumber-decimal n small
count_is_number (negative z) plain small = absurd plain
count_is_number (float x) plain small = absurd plain

mutual
  has_numbers : (d : Data) → IsPlain d → IsSmall d → tree.HasNumbers (outline d)
  has_numbers null plain small = tt
  has_numbers (boolean b) plain small = tt
  has_numbers (number n) plain small = count_is_number n plain small
  has_numbers (string s) plain small = tt
  has_numbers (array ds) plain small = items_numbers ds plain small
  has_numbers (object ms) plain small = members_numbers ms plain small

  items_numbers : (ds : Items) → ArePlain ds → AreSmall ds → tree.ItemsHaveNumbers (items_outline ds)
  items_numbers no_items plain small = tt
  items_numbers (item d ds) plain small = (has_numbers d plain.0 small.0, items_numbers ds plain.1 small.1)

  members_numbers : (ms : Members) → HasPlain ms → HasSmall ms → tree.MembersHaveNumbers (members_outline ms)
  members_numbers no_members plain small = tt
  members_numbers (member k d ms) plain small = (has_numbers d plain.0 small.0, members_numbers ms plain.1 small.1)

mutual
  same_depth : (d : Data) → tree.depth (outline d) ≡ depth d
  same_depth null = refl
  same_depth (boolean b) = refl
  same_depth (number n) = refl
  same_depth (string s) = refl
  same_depth (array ds) = ap suc (same_items_depth ds)
  same_depth (object ms) = ap suc (same_members_depth ms)

  same_items_depth : (ds : Items) → tree.items_depth (items_outline ds) ≡ items_depth ds
  same_items_depth no_items = refl
  same_items_depth (item d ds) = ap₂ max (same_depth d) (same_items_depth ds)

  same_members_depth : (ms : Members) → tree.members_depth (members_outline ms) ≡ members_depth ms
  same_members_depth no_members = refl
  same_members_depth (member k d ms) = ap₂ max (same_depth d) (same_members_depth ms)

-- ---- reading
abbrev whole : Option (json.Json × List Token) → Option Data
whole o = option_and_then of_json (option_and_then (λ p. json.if_last p.0 p.1) o)

pub read_is : (d : Data) → IsPlain d → IsSmall d → depth d ≤ max_depth → read (compact_text d) ≡ of_json (outline d)
read_is d plain small shallow =
    let ts : List Token = tree.json_tokens (outline d) in
    let read_back : tokens (compact_text d) ≡ ts = ap tokens (sym (print-outline d)) ∙ tokens-print ts (ArePrintable-json_tokens (outline d) (has_numbers d plain small)) in
    ap whole (ap (json.value max_depth) (read_back ∙ sym (append-nil ts)) ∙ value-json_tokens (outline d) max_depth [] (omega (arith, shallow, same_depth d)))

-- ---- values that read back
-- a plain value that reads back, and nests no deeper than so many levels
pub record Good (n : ℕ) (d : Data) : Type 0 where
  pub fits : Fits n d
  pub small : IsSmall d
  pub reads : of_json (outline d) ≡ Some d

pub record AllGood (n : ℕ) (ds : Items) : Type 0 where
  pub fits : AllFit n ds
  pub small : AreSmall ds
  pub reads : of_items (items_outline ds) ≡ Some ds

-- the text of a good value reads back, with a line end and without
good_reads : (n : ℕ) (d : Data) → n ≤ max_depth → Good n d → read (compact_text d) ≡ Some d
good_reads n d few good = read_is d good.fits.plain good.small (omega (arith, few, good.fits.shallow)) ∙ good.reads

pub line_reads : (n : ℕ) (d : Data) → n ≤ max_depth → Good n d → read (compact_text d ++ 10 ∷ []) ≡ Some d
line_reads n d few good = ap whole (ap (json.value max_depth) (same_tokens d (has_numbers d good.fits.plain good.small))) ∙ good_reads n d few good

-- a value is good if one text of it reads back
pub text_is : (n : ℕ) (d : Data) (text : List ℕ) → Fits n d → IsTextOf d text → text ≡ compact_text d
text_is n d text fits is = is.compact (no_float d fits.plain)

pub text_reads : (n : ℕ) (d : Data) (text : List ℕ) → n ≤ max_depth → Fits n d → IsTextOf d text → read text ≡ Some d
text_reads n d text few fits is = is.reads_back (omega (arith, few, fits.shallow))

pub good_by : (n : ℕ) (d : Data) (text : List ℕ) → n ≤ max_depth → Fits n d → IsTextOf d text → Good n d
good_by n d text few fits is =
    let told : read text ≡ Some d = text_reads n d text few fits is in
    let small : IsSmall d = read_small text d told in
    record {
      fits = fits;
      small = small;
      reads = sym (read_is d fits.plain small (omega (arith, few, fits.shallow))) ∙ (ap read (sym (text_is n d text fits is)) ∙ told);
    }

-- ---- what good values make up
pub string_good : (n : ℕ) (s : List ℕ) → Good n (string s)
string_good n s = record { fits = record { plain = tt; shallow = omega arith }; small = tt; reads = refl }

pub array_good : (n : ℕ) (ds : Items) → AllGood n ds → Good (suc n) (array ds)
array_good n ds h = record { fits = array_fits n ds h.fits; small = h.small; reads = ap (option_map array) h.reads }

item_good : (n : ℕ) (d : Data) (ds : Items) → Good n d → AllGood n ds → AllGood n (item d ds)
item_good n d ds one rest = record {
  fits = record { plain = (one.fits.plain, rest.fits.plain); shallow = omega (arith, one.fits.shallow, rest.fits.shallow) };
  small = (one.small, rest.small);
  reads = ap (option_and_then (λ e. option_map (item e) (of_items (items_outline ds)))) one.reads ∙ ap (option_map (item d)) rest.reads;
}

none_good : (n : ℕ) → AllGood n no_items
none_good n = record { fits = record { plain = tt; shallow = omega arith }; small = tt; reads = refl }

pub range_good : (n : ℕ) (of : ℕ → Data) (from count : ℕ) → ((k : ℕ) → k < from + count → Good n (of k)) → AllGood n (items_tree of (range_with_len from count))
range_good n of from zero each = none_good n
range_good n of from (suc count) each =
    item_good n (of from) (items_tree of (range_with_len (from + 1) count)) (each from (omega arith)) (range_good n of (from + 1) count (λ k below. each k (omega (arith, below))))

pub names_good : {A : Type 0} (n : ℕ) (name : A → List ℕ) (xs : List A) → AllGood n (items_tree (λ x. string (name x)) xs)
names_good n name [] = none_good n
names_good n name (x ∷ xs) = item_good n (string (name x)) (items_tree (λ y. string (name y)) xs) (string_good n (name x)) (names_good n name xs)
