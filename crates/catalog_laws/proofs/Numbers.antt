-- A value that was read has no number past 64 bits.
use Rattle.std.proofs.Common.{◌≡◌, ◌<◌, ◌^◌, ℕ, Bool, true, false, List, Option, Some, None, option_map, option_and_then, Ordering, Less, Equal, Greater, refl, subst}
use Rattle.std.specs.Prelude.{◌&&◌, ◌==◌, drop, if◌then◌else◌, nat_le, nat_lt, slice_index, ⊤}
use Rattle.std.specs.Float.{binary64, float_is_finite}
use Rattle.std.specs.Ordering.{match_ordering, nat_cmp}
use Rattle.std.specs.Cmp.Lexicographic.{slice_cmp}
use Rattle.std.proofs.lemmas.Bool.{and_parts, ltb-true}
use Rattle.fast_float.specs.Text.{Parts, digits_of, minus, nearest, scan, with_sign}
use Rattle.json.specs.Json as json
use Rattle.json.specs.Lex.{tokens}
use Rattle.serde_json.specs.Data.{Num, unsigned, negative, float, Data, null, boolean, number, string, array, object, Items, no_items, item, Members, no_members, member, put}
use Rattle.serde_json.specs.Read.{float_of, is_integer, max_depth, number_from, number_of, of_items, of_json, of_members, read}

abbrev IsSmallNumber : Num → Type 0
IsSmallNumber (unsigned n) = n < 2 ^ 64
IsSmallNumber (negative z) = ⊤
IsSmallNumber (float x) = ⊤

abbrev mutual
  pub IsSmall : Data → Type 0
  IsSmall null = ⊤
  IsSmall (boolean b) = ⊤
  IsSmall (number n) = IsSmallNumber n
  IsSmall (string s) = ⊤
  IsSmall (array ds) = AreSmall ds
  IsSmall (object ms) = HasSmall ms

  pub AreSmall : Items → Type 0
  AreSmall no_items = ⊤
  AreSmall (item d ds) = IsSmall d × AreSmall ds

  pub HasSmall : Members → Type 0
  HasSmall no_members = ⊤
  HasSmall (member k d ms) = IsSmall d × HasSmall ms

-- ---- what holds of an answer, where there is one
abbrev OnSome : {A : Type 0} → (A → Type 0) → Option A → Type 0
OnSome P None = ⊤
OnSome P (Some a) = P a

on_map : {A B : Type 0} (P : A → Type 0) (Q : B → Type 0) (f : A → B) → ((a : A) → P a → Q (f a)) → (o : Option A) → OnSome P o → OnSome Q (option_map f o)
on_map P Q f each None h = tt
on_map P Q f each (Some a) h = each a h

on_then : {A B : Type 0} (P : A → Type 0) (Q : B → Type 0) (f : A → Option B) → ((a : A) → P a → OnSome Q (f a)) → (o : Option A) → OnSome P o → OnSome Q (option_and_then f o)
on_then P Q f each None h = tt
on_then P Q f each (Some a) h = each a h

on_either : {A : Type 0} (P : A → Type 0) (test : Bool) (x y : Option A) → (test ≡ true → OnSome P x) → OnSome P y → OnSome P (if test then x else y)
on_either P true x y h k = h refl
on_either P false x y h k = k

-- ---- numbers
float_small : (sign : Bool) (p : Parts) → OnSome IsSmallNumber (float_of sign p)
float_small sign p = on_either IsSmallNumber (float_is_finite (nearest binary64 sign p)) (Some (float (nearest binary64 sign p))) None (λ _. tt) tt

fits_in : (p : Parts) → (is_integer p && nat_lt (digits_of p) (2 ^ 64)) ≡ true → digits_of p < 2 ^ 64
fits_in p e = ltb-true (digits_of p) (2 ^ 64) ((and_parts (is_integer p) (nat_lt (digits_of p) (2 ^ 64)) e).1)

from_small : (sign : Bool) (p : Parts) → OnSome IsSmallNumber (number_from sign p)
from_small false p = on_either IsSmallNumber (is_integer p && nat_lt (digits_of p) (2 ^ 64)) (Some (unsigned (digits_of p))) (float_of false p) (fits_in p) (float_small false p)
from_small true p =
    on_either IsSmallNumber (is_integer p && nat_lt 0 (digits_of p) && nat_le (digits_of p) (2 ^ 63)) (Some (negative (with_sign true (digits_of p)))) (float_of true p) (λ _. tt) (float_small true p)

number_small : (s : List ℕ) → OnSome IsSmallNumber (number_of s)
unfolding number_of
number_small s = on_either IsSmallNumber (slice_index s 0 == minus) (number_from true (scan (drop 1 s))) (number_from false (scan s)) (λ _. from_small true (scan (drop 1 s))) (from_small false (scan s))

-- ---- values
match_small : (o : Ordering) (a b c : Members) → HasSmall a → HasSmall b → HasSmall c → HasSmall (match_ordering o a b c)
match_small Less a b c p q r = p
match_small Equal a b c p q r = q
match_small Greater a b c p q r = r

put_small : (k : List ℕ) (d : Data) (ms : Members) → IsSmall d → HasSmall ms → HasSmall (put k d ms)
put_small k d no_members one h = (one, h)
put_small k d (member l e ms) one h =
    match_small (slice_cmp nat_cmp k l) (member k d (member l e ms)) (member l d ms) (member l e (put k d ms)) (one, h) (one, h.1) (h.0, put_small k d ms one h.1)

mutual
  json_small : (j : json.Json) → OnSome IsSmall (of_json j)
  json_small json.null = tt
  json_small (json.boolean b) = tt
  json_small (json.number s) = on_map IsSmallNumber IsSmall number (λ n h. h) (number_of s) (number_small s)
  json_small (json.string s) = tt
  json_small (json.array js) = on_map AreSmall IsSmall array (λ ds h. h) (of_items js) (items_small js)
  json_small (json.object ms) = on_map HasSmall IsSmall object (λ found h. h) (of_members ms no_members) (members_small ms no_members tt)

  items_small : (js : json.Items) → OnSome AreSmall (of_items js)
  items_small json.no_items = tt
  items_small (json.item j js) =
      on_then IsSmall AreSmall (λ d. option_map (item d) (of_items js)) (λ d h. on_map AreSmall AreSmall (item d) (λ ds k. (h, k)) (of_items js) (items_small js)) (of_json j) (json_small j)

  members_small : (ms : json.Members) (found : Members) → HasSmall found → OnSome HasSmall (of_members ms found)
  members_small json.no_members found h = h
  members_small (json.member k j ms) found h =
      on_then IsSmall HasSmall (λ d. of_members ms (put k d found)) (λ d one. members_small ms (put k d found) (put_small k d found one h)) (of_json j) (json_small j)

any_small : (o : Option json.Json) → OnSome IsSmall (option_and_then of_json o)
any_small None = tt
any_small (Some j) = json_small j

pub read_small : (text : List ℕ) (d : Data) → read text ≡ Some d → IsSmall d
read_small text d e = subst (OnSome IsSmall) e (any_small (option_and_then (λ p. json.if_last p.0 p.1) (json.value max_depth (tokens text))))
