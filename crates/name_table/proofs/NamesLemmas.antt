-- Places of names in a list of strings.
use Rattle.std.proofs.Common.{option_map, ◌≡◌, ℕ, ◌+◌, ◌∙◌, sym, Bool, true, false, cond, List, [], ◌∷◌, ◌++◌, None, Some, String, length, ◌<◌, map, not, string_bytes, refl, ap, arith}
use Rattle.std.specs.List.{prefix_len, position, position_or_len, list_any, IsDistinct, AllByRecursion}
use Rattle.std.specs.Str.{bytes_eq}
use Rattle.std.specs.String.{string_eq}
use Rattle.indexmap.specs.IndexMap.{insert_entry}
use Rattle.std.specs.Map.{keys_of}
use Rattle.std.proofs.lemmas.Grind.{common_steps}
use Rattle.std.proofs.lemmas.List.{length-append, map-append}
use Rattle.std.proofs.lemmas.List.Folds.{prefix_len-append}
use Rattle.std.proofs.lemmas.List.Sums.{prefix_len-le-length}
use Rattle.std.proofs.lemmas.List.Quantifiers.{position-Some}
use Rattle.std.proofs.lemmas.List.Sums.{position_or_len_is}
use Rattle.std.proofs.lemmas.Slice.Eq.{bytes_eq-Decides}
use Rattle.std.proofs.lemmas.Option.{slice_get-map, slice_get-get_or, slice_get_within, get_or_from_slice_get}
use Rattle.std.specs.Prelude.{slice_get, get_or}
use Rattle.std.proofs.lemmas.Map.Keys.{apart_from_distinct, IsDistinct-head, IsDistinct-tail, IsDistinct-cons}
use Rattle.name_table.specs.Names.{place_of, AreDifferent}

-- how many pass from the front on, of what f gives
pub prefix_len-map : {X Y : Type 0} (f : X → Y) (p : Y → Bool) → (xs : List X) → prefix_len p (map f xs) ≡ prefix_len (λ x. p (f x)) xs
prefix_len-map f p [] = refl
prefix_len-map f p (x ∷ xs) = ap (λ n. cond (p (f x)) (1 + n) 0) (prefix_len-map f p xs)

pub position-map : {X Y : Type 0} (f : X → Y) (p : Y → Bool) (xs : List X) → position p (map f xs) ≡ position (λ x. p (f x)) xs
position-map f p xs = grind (arith, common_steps, prefix_len-map f (λ y. not (p y)) xs)

-- where no element passes, each fails
step_fails : {X : Type 0} (p : X → Bool) (x : X) (xs : List X) → position_or_len p (x ∷ xs) ≡ length (x ∷ xs) → (p x ≡ false) × (position_or_len p xs ≡ length xs)
step_fails p x xs all = by_head (p x) refl
  where
    by_head : (b : Bool) → p x ≡ b → (p x ≡ false) × (position_or_len p xs ≡ length xs)
    by_head true passes = grind (arith, common_steps, passes, all)
    by_head false fails = (fails, grind (arith, common_steps, fails, all))

pub none_passes : {X : Type 0} (p : X → Bool) → (xs : List X) → position_or_len p xs ≡ length xs → list_any p xs ≡ false
none_passes p [] all = refl
none_passes p (x ∷ xs) all = let s = step_fails p x xs all in let rest = none_passes p xs s.1 in let head = s.0 in grind (arith, common_steps, head, rest)

-- no place is there where the first that passes is the length
pub no_place : {X : Type 0} (p : X → Bool) (xs : List X) → position p xs ≡ None → position_or_len p xs ≡ length xs
no_place p xs none = grind (arith, common_steps, none, prefix_len-le-length (λ x. not (p x)) xs)

-- the place of a name that is put at the end
pub place_of-append : (names : List (List ℕ)) (name : List ℕ) → bytes_eq name name ≡ true → place_of names name ≡ None → place_of (names ++ name ∷ []) name ≡ Some (length names)
place_of-append names name same none =
    let all = no_place (bytes_eq name) names none in
    grind (arith, common_steps, same, all, prefix_len-append (λ x. not (bytes_eq name x)) names (name ∷ []))

-- strings differ where their bytes do
pub AreDifferent-map : {Z : Type 0} → (keys : List (String Z)) → IsDistinct string_eq keys → AreDifferent (map string_bytes keys)
unfolding IsDistinct
AreDifferent-map [] different = different
AreDifferent-map {Z = Z} (key ∷ keys) different = IsDistinct-cons bytes_eq (string_bytes key) (map string_bytes keys) (each keys (IsDistinct-head string_eq key keys different)) (AreDifferent-map keys (IsDistinct-tail string_eq key keys different))
  where
    each : (others : List (String Z)) → AllByRecursion (λ other. string_eq key other ≡ false) others → AllByRecursion (λ other. bytes_eq (string_bytes key) other ≡ false) (map string_bytes others)
    each [] all = all
    each (other ∷ others) all = (all.0, each others all.1)

-- a new string comes last
pub append-last : {Z : Type 0} (keys : List (String Z)) (key : String Z) → place_of (map string_bytes keys) (string_bytes key) ≡ None → position_or_len (string_eq key) keys ≡ length keys
append-last keys key none = no_place (string_eq key) keys (sym (position-map string_bytes (bytes_eq (string_bytes key)) keys) ∙ none)

-- an entry whose key is new comes last
entries_with : {K X : Type 0} (eq : K → K → Bool) (entries : List (K × X)) (key : K) (value : X) → position_or_len (eq key) (keys_of entries) ≡ length (keys_of entries)
    → insert_entry eq entries key value ≡ entries ++ (key, value) ∷ []
entries_with eq [] key value all = refl
entries_with eq (entry ∷ entries) key value all =
    let step = step_fails (eq key) entry.0 (keys_of entries) all in
    ap (λ same. cond same ((entry.0, value) ∷ entries) (entry ∷ insert_entry eq entries key value)) step.0 ∙ ap (λ rest. entry ∷ rest) (entries_with eq entries key value step.1)

-- the entries, and the names, after a new string was put in
pub append-entries : {Z X : Type 0} (old new : List (String Z × X)) (key : String Z) (value : X) → place_of (map string_bytes (keys_of old)) (string_bytes key) ≡ None
    → new ≡ insert_entry string_eq old key value → new ≡ old ++ (key, value) ∷ []
append-entries old new key value none is = is ∙ entries_with string_eq old key value (append-last (keys_of old) key none)

pub append-len : {Z X : Type 0} (old new : List (String Z × X)) (key : String Z) (value : X) → place_of (map string_bytes (keys_of old)) (string_bytes key) ≡ None
    → new ≡ insert_entry string_eq old key value → length new ≡ length old + 1
append-len old new key value none is =
    let all = append-entries old new key value none is in
    grind (arith, common_steps, all, length-append old ((key, value) ∷ []))

pub append-names : {Z X : Type 0} (old new : List (String Z × X)) (key : String Z) (value : X) → new ≡ old ++ (key, value) ∷ [] → map string_bytes (keys_of new) ≡ map string_bytes (keys_of old) ++ string_bytes key ∷ []
append-names old new key value is =
    ap (λ entries. map string_bytes (keys_of entries)) is ∙ ap (map string_bytes) (map-append (λ entry. entry.0) old ((key, value) ∷ [])) ∙ map-append string_bytes (keys_of old) (key ∷ [])

pub bytes_eq-same : (bytes : List ℕ) → bytes_eq bytes bytes ≡ true
bytes_eq-same [] = refl
bytes_eq-same (byte ∷ bytes) = grind (arith, common_steps, bytes_eq-same bytes)

-- what stands at the place of a name is that name
pub named_at : (names : List (List ℕ)) (name : List ℕ) (k : ℕ) → place_of names name ≡ Some k → slice_get names k ≡ Some name
named_at names name k found =
    let at = position-Some (bytes_eq name) names k [] found in
    let same : name ≡ get_or names k [] = (bytes_eq-Decides name (get_or names k [])).0 at.1 in
    slice_get-get_or names k [] at.0 ∙ ap Some (sym same)

differs_back : (a b : List ℕ) → bytes_eq a b ≡ false → bytes_eq b a ≡ false
differs_back a b differ = by_test (bytes_eq b a) refl
  where
    by_test : (t : Bool) → bytes_eq b a ≡ t → bytes_eq b a ≡ false
    by_test false is = is
    by_test true is = let same : b ≡ a = (bytes_eq-Decides b a).0 is in is ∙ sym (bytes_eq-same a) ∙ sym (ap (bytes_eq a) same) ∙ differ

-- among different names, the place of what stands at a place is that place
pub placed_at : (names : List (List ℕ)) (name : List ℕ) (k : ℕ) → AreDifferent names → slice_get names k ≡ Some name → place_of names name ≡ Some k
placed_at names name k different at =
    let within : k < length names = slice_get_within names k name at in
    let same : get_or names k [] ≡ name = get_or_from_slice_get names k name [] at in
    let is : position_or_len (bytes_eq name) names ≡ k = position_or_len_is (bytes_eq name) names k [] (omega (arith, within))
    (λ i before. ap (λ n. bytes_eq n (get_or names i [])) (sym same) ∙ differs_back (get_or names i []) (get_or names k []) (apart_from_distinct bytes_eq names i k [] different before within))
    (λ _. ap (bytes_eq name) same ∙ bytes_eq-same name) in
    grind (arith, common_steps, is, within)

-- the bytes of the string at a place
pub named_in : {Z : Type 0} (names : List (String Z)) (shown : List (List ℕ)) (place : ℕ) (name : String Z) → map string_bytes names ≡ shown → place < length shown → name ≡ get_or names place name
    → slice_get shown place ≡ Some (string_bytes name)
named_in names shown place name are within at =
    let same : slice_get (map string_bytes names) place ≡ slice_get shown place = ap (λ all. slice_get all place) are in
    let before : place < length names = grind (arith, common_steps, within, are) in
    sym same ∙ slice_get-map string_bytes names place ∙ ap (option_map string_bytes) (slice_get-get_or names place name before ∙ ap Some (sym at))
