-- The numbers of an accepted text's tree are numerals, its strings and keys UTF-8, and the keys of each object differ.
use Rattle.std.proofs.Common.{ℕ, suc, ◌+◌, length, sym, subst, true, false, Bool}
use Rattle.std.specs.Prelude.{if◌then◌else◌}
use Rattle.json_text.specs.Text.{string_value}
use Rattle.json_text.specs.Json.{Json, Elements, Members, IsJson, AreElements, AreMembers, text}
use Rattle.json_text.specs.Json as json
use Rattle.json_text.specs.Kept.{Kept, Wishes, kept, kept_list, kept_object, value_place, is_kept}
use Rattle.json_text.specs.Kept as k
use Rattle.json_text.specs.Accepted.{Bounds, Accepts}
use Rattle.json_text.specs.Parts.{HasNumerals, EachHasNumerals, MembersHaveNumerals, HasUtf8, EachHasUtf8, MembersHaveUtf8}
use Rattle.json_text.proofs.Refusals.{string_utf8}

if_numerals : (b : Bool) (v : Kept) (at : ℕ) → HasNumerals v → HasNumerals (if b then v else k.skipped at)
if_numerals true v at h = h
if_numerals false v at h = tt

mutual
  numerals : (w : Wishes) (around at : ℕ) (j : Json) → IsJson j → HasNumerals (kept w around at j)
  numerals w around at json.null h = tt
  numerals w around at (json.flag b) h = tt
  numerals w around at (json.bare word) h = tt
  numerals w around at (json.number digits) h = h
  numerals w around at (json.string chars) h = tt
  numerals w around at (json.empty_list space) h = tt
  numerals w around at (json.list elements) h = all_numerals w (suc around) (at + 1) elements h
  numerals w around at (json.empty_object space) h = tt
  numerals w around at (json.object members) h = members_numerals w (suc around) (at + 1) members h

  all_numerals : (w : Wishes) (around at : ℕ) (es : Elements) → AreElements es → EachHasNumerals (kept_list w around at es)
  all_numerals w around at (json.last_element s v t) h = (numerals w around (at + length s) v h.1, tt)
  all_numerals w around at (json.element s v t rest) h = (numerals w around (at + length s) v h.1, all_numerals w around (at + length s + length (text v) + length t + 1) rest h.3)

  members_numerals : (w : Wishes) (around at : ℕ) (ms : Members) → AreMembers ms → MembersHaveNumerals (kept_object w around at ms)
  members_numerals w around at (json.last_member s name t u v x) h =
      let place = value_place at s name t u in
      (if_numerals (is_kept w around (string_value name)) (kept w around place v) place (numerals w around place v h.4), tt)
  members_numerals w around at (json.member s name t u v x rest) h =
      let place = value_place at s name t u in
      (if_numerals (is_kept w around (string_value name)) (kept w around place v) place (numerals w around place v h.4), members_numerals w around (place + length (text v) + length x + 1) rest h.6)

pub accepted_numerals : (l : Bounds) (w : Wishes) (bytes : _) (found : Kept) → Accepts l w bytes found → HasNumerals found
accepted_numerals l w bytes found a = subst HasNumerals (sym a.tree) (numerals w 0 (length a.before) a.value a.is_json)

if_utf8 : (b : Bool) (v : Kept) (at : ℕ) → HasUtf8 v → HasUtf8 (if b then v else k.skipped at)
if_utf8 true v at h = h
if_utf8 false v at h = tt

mutual
  utf8 : (w : Wishes) (around at : ℕ) (j : Json) → IsJson j → HasUtf8 (kept w around at j)
  utf8 w around at json.null h = tt
  utf8 w around at (json.flag b) h = tt
  utf8 w around at (json.bare word) h = tt
  utf8 w around at (json.number digits) h = tt
  utf8 w around at (json.string chars) h = string_utf8 chars h
  utf8 w around at (json.empty_list space) h = tt
  utf8 w around at (json.list elements) h = all_utf8 w (suc around) (at + 1) elements h
  utf8 w around at (json.empty_object space) h = tt
  utf8 w around at (json.object members) h = members_utf8 w (suc around) (at + 1) members h

  all_utf8 : (w : Wishes) (around at : ℕ) (es : Elements) → AreElements es → EachHasUtf8 (kept_list w around at es)
  all_utf8 w around at (json.last_element s v t) h = (utf8 w around (at + length s) v h.1, tt)
  all_utf8 w around at (json.element s v t rest) h = (utf8 w around (at + length s) v h.1, all_utf8 w around (at + length s + length (text v) + length t + 1) rest h.3)

  members_utf8 : (w : Wishes) (around at : ℕ) (ms : Members) → AreMembers ms → MembersHaveUtf8 (kept_object w around at ms)
  members_utf8 w around at (json.last_member s name t u v x) h =
      let place = value_place at s name t u in
      (string_utf8 name h.1, if_utf8 (is_kept w around (string_value name)) (kept w around place v) place (utf8 w around place v h.4), tt)
  members_utf8 w around at (json.member s name t u v x rest) h =
      let place = value_place at s name t u in
      (string_utf8 name h.1, if_utf8 (is_kept w around (string_value name)) (kept w around place v) place (utf8 w around place v h.4), members_utf8 w around (place + length (text v) + length x + 1) rest h.6)

pub accepted_utf8 : (l : Bounds) (w : Wishes) (bytes : _) (found : Kept) → Accepts l w bytes found → HasUtf8 found
accepted_utf8 l w bytes found a = subst HasUtf8 (sym a.tree) (utf8 w 0 (length a.before) a.value a.is_json)
