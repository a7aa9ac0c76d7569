-- Names of records: how they are listed, and which of them clash.
use Rattle.std.proofs.Common.{◌≡◌, ◌∙◌, ◌<◌, ◌≤◌, ◌+◌, ℕ, suc, Bool, true, false, cond, List, [], ◌∷◌, ◌++◌, length, take, drop, get_or, refl, sym, ap, append_assoc, append-nil, arith}
use Rattle.std.specs.Prelude.{Option, Some, None, is_some, min, not, ◌||◌, if◌then◌else◌, nat_lt, position, slice_get}
use Rattle.std.specs.Prelude.{Vec}
use Rattle.std.specs.Global.{Global}
use Rattle.std.specs.List.{list_any, position_or_len}
use Rattle.std.specs.Str.{bytes_eq}
use Rattle.std.proofs.Math.Path.{fun_ext}
use Rattle.std.proofs.lemmas.Bool.Decides.{nat_tests}
use Rattle.std.proofs.lemmas.Grind.{common_steps}
use Rattle.std.proofs.lemmas.List.{get_or_read, drop_more}
use Rattle.std.proofs.lemmas.Option.{get_or_from_slice_get, slice_get_within}
use Rattle.std.proofs.lemmas.Slice.Eq.{bytes_eq-Decides}
use Rattle.plan_base.proofs.Walks.{next, drop_all, take_next}
use Rattle.fractions.specs.Fraction.{Fraction}
use Rattle.game_types.specs.Temperatures.{first_where}
use Rattle.name_table.specs.Names.{place_of, with_name}
use Rattle.fluid_variants.specs.Contents.{contents}
use Rattle.fluid_variants.proofs.Contents.{contents_at, length_contents}
use Rattle.fluid_variants.specs.Naming.{first_twice, lower_of, lowest_place}
use Rattle.fluid_variants.specs.Records.{all_names, all_variant_names, variant_names}

-- ---- the names of all variants, and of all records, one fluid after another
next_name : (names : List (List ℕ)) (k : ℕ) (name : List ℕ) → slice_get names k ≡ Some name → drop k names ≡ name ∷ drop (k + 1) names
next_name names k name is = next names k name (slice_get_within names k name is) (sym (get_or_from_slice_get names k name name is))

next_list : (lists : List (Vec Fraction Global)) (k : ℕ) (list : Vec Fraction Global) → k < length lists → list ≡ get_or lists k list → drop k (contents lists) ≡ list.items ∷ drop (k + 1) (contents lists)
next_list lists k list listed there =
    drop_more (contents lists) k [] (let long = length_contents lists in omega (arith, long, listed)) ∙ ap (λ l. l ∷ drop (k + 1) (contents lists)) (contents_at lists k list listed there)

pub variants_next : (found names : List (List ℕ)) (lists : List (Vec Fraction Global)) (k : ℕ) (name : List ℕ) (list : Vec Fraction Global) → slice_get names k ≡ Some name → k < length lists → list ≡ get_or lists k list
    → found ++ all_variant_names (drop k names) (drop k (contents lists)) ≡ (found ++ variant_names name list.items) ++ all_variant_names (drop (k + 1) names) (drop (k + 1) (contents lists))
unfolding all_variant_names
variants_next found names lists k name list is listed there =
    ap (λ xs. found ++ all_variant_names xs (drop k (contents lists))) (next_name names k name is)
    ∙ ap (λ xs. found ++ all_variant_names (name ∷ drop (k + 1) names) xs) (next_list lists k list listed there)
    ∙ sym (append_assoc found (variant_names name list.items) (all_variant_names (drop (k + 1) names) (drop (k + 1) (contents lists))))

pub variants_end : (found names : List (List ℕ)) (lists : List (List Fraction)) (k : ℕ) → length names ≤ k → found ++ all_variant_names (drop k names) (drop k lists) ≡ found
unfolding all_variant_names
variants_end found names lists k end = ap (λ xs. found ++ all_variant_names xs (drop k lists)) (drop_all names k end) ∙ append-nil found

pub names_next : (found names : List (List ℕ)) (lists : List (Vec Fraction Global)) (k : ℕ) (name : List ℕ) (list : Vec Fraction Global) → slice_get names k ≡ Some name → k < length lists → list ≡ get_or lists k list
    → found ++ all_names (drop k names) (drop k (contents lists)) ≡ ((found ++ name ∷ []) ++ variant_names name list.items) ++ all_names (drop (k + 1) names) (drop (k + 1) (contents lists))
unfolding all_names
names_next found names lists k name list is listed there =
    ap (λ xs. found ++ all_names xs (drop k (contents lists))) (next_name names k name is)
    ∙ ap (λ xs. found ++ all_names (name ∷ drop (k + 1) names) xs) (next_list lists k list listed there)
    ∙ sym (
    ap (λ xs. xs ++ all_names (drop (k + 1) names) (drop (k + 1) (contents lists))) (append_assoc found (name ∷ []) (variant_names name list.items))
    ∙ append_assoc found (name ∷ variant_names name list.items) (all_names (drop (k + 1) names) (drop (k + 1) (contents lists))))

pub names_end : (found names : List (List ℕ)) (lists : List (List Fraction)) (k : ℕ) → length names ≤ k → found ++ all_names (drop k names) (drop k lists) ≡ found
unfolding all_names
names_end found names lists k end = ap (λ xs. found ++ all_names xs (drop k lists)) (drop_all names k end) ∙ append-nil found

-- ---- the lowest place
lower_assoc : (a b c : Option ℕ) → lower_of (lower_of a b) c ≡ lower_of a (lower_of b c)
lower_assoc None b c = refl
lower_assoc (Some x) None c = refl
lower_assoc (Some x) (Some y) None = by_test (nat_lt y x)
  where
    by_test : (b : Bool) → lower_of (if b then Some y else Some x) None ≡ (if b then Some y else Some x)
    by_test true = refl
    by_test false = refl
lower_assoc (Some x) (Some y) (Some z) = by_tests (nat_lt y x) (nat_lt z y) refl refl
  where
    by_tests : (b c : Bool) → nat_lt y x ≡ b → nat_lt z y ≡ c → lower_of (if b then Some y else Some x) (Some z) ≡ lower_of (Some x) (if c then Some z else Some y)
    by_tests true true yx zy = let zx : nat_lt z x ≡ true = grind (arith, nat_tests, yx, zy) in rw (zy, zx) refl
    by_tests true false yx zy = rw (zy, yx) refl
    by_tests false true yx zy = refl
    by_tests false false yx zy = let zx : nat_lt z x ≡ false = grind (arith, nat_tests, yx, zy) in rw (zx, yx) refl

pub lower_next : (names others : List (List ℕ)) (best : Option ℕ) (k : ℕ) (x : List ℕ) → k < length others → x ≡ get_or others k x
    → lower_of best (lowest_place names (drop k others)) ≡ lower_of (lower_of best (place_of names x)) (lowest_place names (drop (k + 1) others))
lower_next names others best k x within is =
    ap (λ xs. lower_of best (lowest_place names xs)) (next others k x within is) ∙ sym (lower_assoc best (place_of names x) (lowest_place names (drop (k + 1) others)))

lower_none : (best : Option ℕ) → lower_of best None ≡ best
lower_none None = refl
lower_none (Some x) = refl

pub lower_end : (names others : List (List ℕ)) (best : Option ℕ) (k : ℕ) → length others ≤ k → lower_of best (lowest_place names (drop k others)) ≡ best
lower_end names others best k end = ap (λ xs. lower_of best (lowest_place names xs)) (drop_all others k end) ∙ lower_none best

-- ---- it is the first place whose name is among the others
either_first : {X : Type 0} (p q : X → Bool) (xs : List X) → position_or_len (λ x. p x || q x) xs ≡ min (position_or_len p xs) (position_or_len q xs)
either_first p q [] = refl
either_first {X = X} p q (x ∷ xs) = by_tests (p x) (q x) (either_first p q xs)
  where
    by_tests : (a b : Bool) → position_or_len (λ y. p y || q y) xs ≡ min (position_or_len p xs) (position_or_len q xs)
        → cond (not (a || b)) (1 + position_or_len (λ y. p y || q y) xs) 0 ≡ min (cond (not a) (1 + position_or_len p xs) 0) (cond (not b) (1 + position_or_len q xs) 0)
    by_tests true b rest = grind (arith, common_steps)
    by_tests false true rest = grind (arith, common_steps)
    by_tests false false rest = omega (arith, rest)

lower_min : (a b n : ℕ) → lower_of (cond (nat_lt a n) (Some a) None) (cond (nat_lt b n) (Some b) None) ≡ cond (nat_lt (min a b) n) (Some (min a b)) None
lower_min a b n = by_tests (nat_lt a n) (nat_lt b n) (nat_lt b a) refl refl refl
  where
    by_tests : (c d e : Bool) → nat_lt a n ≡ c → nat_lt b n ≡ d → nat_lt b a ≡ e → lower_of (cond c (Some a) None) (cond d (Some b) None) ≡ cond (nat_lt (min a b) n) (Some (min a b)) None
    by_tests true true true an bn ba = let m : min a b ≡ b = grind (arith, nat_tests, ba) in rw (m, bn, ba) refl
    by_tests true true false an bn ba = let m : min a b ≡ a = grind (arith, nat_tests, ba) in rw (m, an, ba) refl
    by_tests true false e an bn ba = let m : min a b ≡ a = grind (arith, nat_tests, an, bn) in rw (m, an) refl
    by_tests false true e an bn ba = let m : min a b ≡ b = grind (arith, nat_tests, an, bn) in rw (m, bn) refl
    by_tests false false e an bn ba = let m : nat_lt (min a b) n ≡ false = grind (arith, nat_tests, an, bn) in rw m refl

lower_either : {X : Type 0} (p q : X → Bool) (xs : List X) → lower_of (position p xs) (position q xs) ≡ position (λ x. p x || q x) xs
lower_either p q xs =
    lower_min (position_or_len p xs) (position_or_len q xs) (length xs)
    ∙ ap (λ n. cond (nat_lt n (length xs)) (Some n) None) (sym (either_first p q xs))

some_position : {X : Type 0} (p : X → Bool) (xs : List X) → is_some (position p xs) ≡ list_any p xs
some_position p [] = refl
some_position p (x ∷ xs) = let rest = some_position p xs in by_head (p x) refl rest
  where
    by_head : (b : Bool) → p x ≡ b → is_some (position p xs) ≡ list_any p xs → is_some (position p (x ∷ xs)) ≡ list_any p (x ∷ xs)
    by_head true passes rest = grind (arith, common_steps, passes, rest)
    by_head false fails rest = grind (arith, common_steps, fails, rest)

one_or_rest : (name other : List ℕ) (others : List (List ℕ)) → is_some (place_of (other ∷ others) name) ≡ (bytes_eq name other || is_some (place_of others name))
one_or_rest name other others = some_position (bytes_eq name) (other ∷ others) ∙ ap (λ b. bytes_eq name other || b) (sym (some_position (bytes_eq name) others))

eq_turned : (xs ys : List ℕ) → bytes_eq xs ys ≡ bytes_eq ys xs
eq_turned xs ys = by_tests (bytes_eq xs ys) (bytes_eq ys xs) refl refl
  where
    by_tests : (a b : Bool) → bytes_eq xs ys ≡ a → bytes_eq ys xs ≡ b → a ≡ b
    by_tests true true x y = refl
    by_tests true false x y = absurd (let same = (bytes_eq-Decides xs ys).0 x in let turned = (bytes_eq-Decides ys xs).1 (sym same) in cc)
    by_tests false true x y = absurd (let same = (bytes_eq-Decides ys xs).0 y in let turned = (bytes_eq-Decides xs ys).1 (sym same) in cc)
    by_tests false false x y = refl

none_position : {X : Type 0} (xs : List X) → position (λ x. false) xs ≡ None
none_position {X = X} xs = rw (all xs) (let past : nat_lt (length xs) (length xs) ≡ false = grind (arith, nat_tests) in rw past refl)
  where
    all : (ys : List X) → position_or_len (λ x. false) ys ≡ length ys
    all [] = refl
    all (y ∷ ys) = let rest = all ys in omega (arith, rest)

pub lowest_is : (names others : List (List ℕ)) → lowest_place names others ≡ position (λ name. is_some (place_of others name)) names
lowest_is names [] = sym (none_position names)
lowest_is names (other ∷ others) =
    ap (λ p. lower_of (position p names) (lowest_place names others)) (fun_ext (λ name. eq_turned other name))
    ∙ ap (lower_of (position (λ name. bytes_eq name other) names)) (lowest_is names others)
    ∙ lower_either (λ name. bytes_eq name other) (λ name. is_some (place_of others name)) names
    ∙ ap (λ p. position p names) (fun_ext (λ name. sym (one_or_rest name other others)))

-- ---- the first that passes, by its place
first_found : {X : Type 0} (p : X → Bool) (xs : List X) (d : X) → position_or_len p xs < length xs → first_where p xs ≡ Some (get_or xs (position_or_len p xs) d)
first_found p [] d within = absurd (omega (arith, within))
first_found {X = X} p (x ∷ xs) d within = by_head (p x) refl (λ below. first_found p xs d below)
  where
    by_head : (b : Bool) → p x ≡ b → (position_or_len p xs < length xs → first_where p xs ≡ Some (get_or xs (position_or_len p xs) d)) → first_where p (x ∷ xs) ≡ Some (get_or (x ∷ xs) (position_or_len p (x ∷ xs)) d)
    by_head true is later = rw is refl
    by_head false is later =
        let step : position_or_len p (x ∷ xs) ≡ suc (position_or_len p xs) = rw is (omega arith) in
        ap (λ b. if b then Some x else first_where p xs) is ∙ later (omega (arith, step, within)) ∙ ap (λ k. Some (get_or (x ∷ xs) k d)) (sym step)

first_none : {X : Type 0} (p : X → Bool) (xs : List X) → length xs ≤ position_or_len p xs → first_where p xs ≡ None
first_none p [] past = refl
first_none {X = X} p (x ∷ xs) past = by_head (p x) refl (λ end. first_none p xs end)
  where
    by_head : (b : Bool) → p x ≡ b → (length xs ≤ position_or_len p xs → first_where p xs ≡ None) → first_where p (x ∷ xs) ≡ None
    by_head true is later = absurd (let step : position_or_len p (x ∷ xs) ≡ 0 = rw is refl in omega (arith, step, past))
    by_head false is later =
        let step : position_or_len p (x ∷ xs) ≡ suc (position_or_len p xs) = rw is (omega arith) in
        ap (λ b. if b then Some x else first_where p xs) is ∙ later (omega (arith, step, past))

pub first_at : {X : Type 0} (p : X → Bool) (xs : List X) (k : ℕ) (x : X) → position p xs ≡ Some k → slice_get xs k ≡ Some x → first_where p xs ≡ Some x
first_at {X = X} p xs k x at is = by_test (nat_lt (position_or_len p xs) (length xs)) refl at
  where
    by_test : (b : Bool) → nat_lt (position_or_len p xs) (length xs) ≡ b → cond b (Some (position_or_len p xs)) None ≡ Some k → first_where p xs ≡ Some x
    by_test true test at =
        let within : position_or_len p xs < length xs = grind (arith, nat_tests, test) in
        let same : position_or_len p xs ≡ k = cc in
        first_found p xs x within ∙ ap Some (ap (λ j. get_or xs j x) same ∙ get_or_from_slice_get xs k x x is)
    by_test false test at = absurd (cc)

pub first_nowhere : {X : Type 0} (p : X → Bool) (xs : List X) → position p xs ≡ None → first_where p xs ≡ None
first_nowhere {X = X} p xs at = by_test (nat_lt (position_or_len p xs) (length xs)) refl at
  where
    by_test : (b : Bool) → nat_lt (position_or_len p xs) (length xs) ≡ b → cond b (Some (position_or_len p xs)) None ≡ None → first_where p xs ≡ None
    by_test true test at = absurd (cc)
    by_test false test at = first_none p xs (grind (arith, nat_tests, test))

-- ---- a table of names, one after another
pub twice_stop : (names : List (List ℕ)) (k : ℕ) (x : List ℕ) → k < length names → x ≡ get_or names k x → is_some (place_of (take k names) x) ≡ true → first_twice (take k names) (drop k names) ≡ Some (get_or names k [])
unfolding first_twice
twice_stop names k x within is there = rw (next names k x within is, there) (ap Some (get_or_read names k x within is []))

pub twice_pass : (names : List (List ℕ)) (k : ℕ) (x : List ℕ) → k < length names → x ≡ get_or names k x → is_some (place_of (take k names) x) ≡ false
    → first_twice (take k names) (drop k names) ≡ first_twice (take (k + 1) names) (drop (k + 1) names)
unfolding first_twice
twice_pass names k x within is free =
    rw (next names k x within is, free) (ap (λ seen. first_twice seen (drop (k + 1) names)) (sym (take_next names k x within is)))

pub twice_none : (names : List (List ℕ)) (k : ℕ) → length names ≤ k → first_twice (take k names) (drop k names) ≡ None
unfolding first_twice
twice_none names k end = rw (drop_all names k end) refl

pub one_more : (names now : List (List ℕ)) (k : ℕ) (x : List ℕ) → k < length names → x ≡ get_or names k x → now ≡ take k names → is_some (place_of now x) ≡ false → with_name now x ≡ take (k + 1) names
one_more names now k x within is same free = ap (λ b. if b then now else now ++ x ∷ []) free ∙ ap (λ xs. xs ++ x ∷ []) same ∙ sym (take_next names k x within is)

pub all_taken : (names now : List (List ℕ)) (k : ℕ) → length names ≤ k → now ≡ take k names → now ≡ names
all_taken names now k end same = same ∙ grind (arith, common_steps, end)
