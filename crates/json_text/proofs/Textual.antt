-- The texts of an accepted text's tree are UTF-8.
use Rattle.std.proofs.Common.{◌≡◌, ℕ, suc, ◌+◌, ◌<◌, List, [], ◌∷◌, ◌++◌, length, sym, subst, true, false, Bool, inl, inr, arith}
use Rattle.std.specs.Prelude.{◌⊎◌, if◌then◌else◌, codes}
use Rattle.std.specs.List.{list_all, AllByRecursion}
use Rattle.std.specs.Char.{is_ascii_digit}
use Rattle.std.specs.Str.{IsUtf8}
use Rattle.std.proofs.lemmas.Bool.Decides.{nat_tests}
use Rattle.std.proofs.lemmas.Bool.{and_parts}
use Rattle.std.proofs.lemmas.Str.{is_utf8-from_IsUtf8, IsUtf8-append, IsUtf8-nil}
use Rattle.json_text.specs.Text.{IsNumber, IsWhole, IsFraction, IsSign, IsExponent, IsDigits, string_value}
use Rattle.json_text.specs.Json.{Json, Elements, Members, IsJson, AreElements, AreMembers, text}
use Rattle.json_text.specs.Json as json
use Rattle.json_text.specs.Kept.{Kept, Wishes, kept, kept_list, kept_object, kept_or_skipped, value_place, is_kept}
use Rattle.json_text.specs.Kept as k
use Rattle.json_text.specs.Accepted.{Bounds, Accepts}
use Rattle.json_text.specs.Textual.{IsTextual, AreTextual, MembersAreTextual}
use Rattle.json_text.proofs.Refusals.{ascii_utf8, one_utf8, string_utf8}

digits_ascii : (ds : List ℕ) → list_all is_ascii_digit ds ≡ true → AllByRecursion (λ b. b < 128) ds
digits_ascii [] h = tt
digits_ascii (d ∷ ds) h = let parts = and_parts (is_ascii_digit d) (list_all is_ascii_digit ds) h in (below d parts.0, digits_ascii ds parts.1)
  where
    below : (d : ℕ) → is_ascii_digit d ≡ true → d < 128
    below d h = grind (arith, nat_tests)

digits_utf8 : (ds : List ℕ) → IsDigits ds → IsUtf8 ds
digits_utf8 ds h = ascii_utf8 ds (digits_ascii ds h.1)

whole_utf8 : (ds : List ℕ) → IsWhole ds → IsUtf8 ds
whole_utf8 [] h = absurd h
whole_utf8 (d ∷ []) h = digits_utf8 (d ∷ []) h
whole_utf8 (d ∷ e ∷ ds) h = digits_utf8 (d ∷ e ∷ ds) h.1

one_or : (bytes : List ℕ) (b : ℕ) → b < 128 → bytes ≡ b ∷ [] → IsUtf8 bytes
one_or bytes b h e = subst IsUtf8 (sym e) (one_utf8 b h)

none_or : (bytes : List ℕ) → bytes ≡ [] → IsUtf8 bytes
none_or bytes e = subst IsUtf8 (sym e) IsUtf8-nil

sign_utf8 : (s : List ℕ) → IsSign s → IsUtf8 s
sign_utf8 s (inl e) = none_or s e
sign_utf8 s (inr (inl e)) = one_or s 43 (omega arith) e
sign_utf8 s (inr (inr e)) = one_or s 45 (omega arith) e

fraction_utf8 : (f : List ℕ) → IsFraction f → IsUtf8 f
fraction_utf8 f (inl e) = none_or f e
fraction_utf8 f (inr x) = subst IsUtf8 (sym x.2) (IsUtf8-append (codes ".") x.0 (one_utf8 46 (omega arith)) (digits_utf8 x.0 x.1))

mark_utf8 : (m : List ℕ) → (m ≡ codes "e") ⊎ (m ≡ codes "E") → IsUtf8 m
mark_utf8 m (inl e) = one_or m 101 (omega arith) e
mark_utf8 m (inr e) = one_or m 69 (omega arith) e

exponent_utf8 : (x : List ℕ) → IsExponent x → IsUtf8 x
exponent_utf8 x (inl e) = none_or x e
exponent_utf8 x (inr y) = subst IsUtf8 (sym y.6) (IsUtf8-append y.0 (y.1 ++ y.2) (mark_utf8 y.0 y.3) (IsUtf8-append y.1 y.2 (sign_utf8 y.1 y.4) (digits_utf8 y.2 y.5)))

minus_utf8 : (m : List ℕ) → (m ≡ []) ⊎ (m ≡ codes "-") → IsUtf8 m
minus_utf8 m (inl e) = none_or m e
minus_utf8 m (inr e) = one_or m 45 (omega arith) e

number_utf8 : (digits : List ℕ) → IsNumber digits → IsUtf8 digits
number_utf8 digits n = subst IsUtf8 (sym n.spelled) (IsUtf8-append n.minus (n.whole ++ (n.fraction ++ n.exponent)) (minus_utf8 n.minus n.minus_is)
    (IsUtf8-append n.whole (n.fraction ++ n.exponent) (whole_utf8 n.whole n.whole_is) (IsUtf8-append n.fraction n.exponent (fraction_utf8 n.fraction n.fraction_is) (exponent_utf8 n.exponent n.exponent_is))))

if_textual : (b : Bool) (v : Kept) (at : ℕ) → IsTextual v → IsTextual (if b then v else k.skipped at)
if_textual true v at h = h
if_textual false v at h = tt

mutual
  textual : (w : Wishes) (around at : ℕ) (j : Json) → IsJson j → IsTextual (kept w around at j)
  textual w around at json.null h = tt
  textual w around at (json.flag b) h = tt
  textual w around at (json.bare word) h = tt
  textual w around at (json.number digits) h = is_utf8-from_IsUtf8 digits (number_utf8 digits h)
  textual w around at (json.string chars) h = is_utf8-from_IsUtf8 (string_value chars) (string_utf8 chars h)
  textual w around at (json.empty_list space) h = tt
  textual w around at (json.list elements) h = all_textual w (suc around) (at + 1) elements h
  textual w around at (json.empty_object space) h = tt
  textual w around at (json.object members) h = members_textual w (suc around) (at + 1) members h

  all_textual : (w : Wishes) (around at : ℕ) (es : Elements) → AreElements es → AreTextual (kept_list w around at es)
  all_textual w around at (json.last_element s v t) h = (textual w around (at + length s) v h.1, tt)
  all_textual w around at (json.element s v t rest) h = (textual w around (at + length s) v h.1, all_textual w around (at + length s + length (text v) + length t + 1) rest h.3)

  members_textual : (w : Wishes) (around at : ℕ) (ms : Members) → AreMembers ms → MembersAreTextual (kept_object w around at ms)
  members_textual w around at (json.last_member s name t u v x) h =
      let place = value_place at s name t u in
      (is_utf8-from_IsUtf8 (string_value name) (string_utf8 name h.1), if_textual (is_kept w around (string_value name)) (kept w around place v) place (textual w around place v h.4), tt)
  members_textual w around at (json.member s name t u v x rest) h =
      let place = value_place at s name t u in
      (is_utf8-from_IsUtf8 (string_value name) (string_utf8 name h.1), if_textual (is_kept w around (string_value name)) (kept w around place v) place (textual w around place v h.4), members_textual w around (place + length (text v) + length x + 1) rest h.6)

pub accepted_textual : (l : Bounds) (w : Wishes) (bytes : List ℕ) (found : Kept) → Accepts l w bytes found → IsTextual found
accepted_textual l w bytes found a = subst IsTextual (sym a.tree) (textual w 0 (length a.before) a.value a.is_json)
