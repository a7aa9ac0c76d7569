-- Places of records: one behind the other.
use Rattle.std.proofs.Common.{◌≡◌, ◌∙◌, ◌<◌, ◌≤◌, ◌+◌, ◌-◌, ◌++◌, ℕ, zero, suc, Bool, true, false, List, [], ◌∷◌, length, take, drop, get_or, refl, sym, ap, subst, append_assoc, arith}
use Rattle.std.specs.Prelude.{All, Some, None, Vec, if◌then◌else◌, nat_lt, slice_get, sum_by}
use Rattle.std.specs.List.{prefix_len}
use Rattle.std.specs.Global.{Global}
use Rattle.std.proofs.lemmas.Bool.Decides.{nat_tests}
use Rattle.std.proofs.lemmas.Grind.{common_steps}
use Rattle.std.proofs.lemmas.List.Sums.{prefix_len-le-length, sum_by_more, sum_by-take-le}
use Rattle.std.proofs.lemmas.Option.{get_or_from_slice_get, slice_get-get_or, slice_get_past, slice_get_within}
use Rattle.std.proofs.lemmas.List.{drop_more}
use Rattle.fractions.specs.Fraction.{Fraction}
use Rattle.plan_base.specs.declared.ids.GoodId.{GoodId}
use Rattle.plan_base.proofs.Walks.{next, drop_all}
use Rattle.game_types.specs.declared.goods.Fluid.{Fluid}
use Rattle.game_types.specs.Temperatures.{is_cooler}
use Rattle.fluid_variants.specs.declared.made.Made.{Made}
use Rattle.fluid_variants.specs.Contents.{contents}
use Rattle.fluid_variants.specs.Places.{ArePlaces, Listed, place_or}
use Rattle.fluid_variants.specs.Records.{all_records, list_at, plain_of, record_count, record_of, record_place, records, variant_offset}
use Rattle.fluid_variants.specs.Temperatures.{IsRising}
use Rattle.fluid_variants.proofs.Contents.{contents_at, length_contents}

take_whole : {A : Type 0} (xs : List A) (k : ℕ) → length xs ≤ k → take k xs ≡ xs
take_whole xs k past = grind (arith, common_steps, past)

pub place_first : (items : ℕ) (lists : List (List Fraction)) → record_place items lists 0 ≡ items
unfolding record_place
place_first items lists = omega arith

pub place_next : (items : ℕ) (lists : List (List Fraction)) (k : ℕ) → k < length lists → record_place items lists (k + 1) ≡ record_place items lists k + record_count (list_at lists k)
unfolding record_place
place_next items lists k within = let more = sum_by_more record_count lists k [] within in omega (arith, more)

pub place_past : (items : ℕ) (lists : List (List Fraction)) (k : ℕ) → length lists ≤ k → record_place items lists k ≡ record_place items lists (length lists)
unfolding record_place
place_past items lists k past = ap (λ xs. items + sum_by record_count xs) (take_whole lists k past ∙ sym (take_whole lists (length lists) (omega arith)))

pub place_below : (items : ℕ) (lists : List (List Fraction)) (k : ℕ) → record_place items lists k ≤ record_place items lists (length lists)
unfolding record_place
place_below items lists k =
    let part = sum_by-take-le record_count lists k in
    let whole = ap (sum_by record_count) (take_whole lists (length lists) (omega arith)) in
    omega (arith, part, whole)

pub place_from : (items : ℕ) (lists : List (List Fraction)) (k : ℕ) → record_place items lists k ≡ items + record_place 0 lists k
unfolding record_place
place_from items lists k = omega arith

-- ---- the loop that finds the places
pub record PlacesSoFar (items : ℕ) (lists : List (List Fraction)) (k : ℕ) (places : List ℕ) (place : ℕ) : Type 0 where
  pub as_long : length places ≡ k
  pub each : (j : ℕ) → j < k → get_or places j 0 ≡ record_place items lists j
  pub here : place ≡ record_place items lists k

places_begin : (items : ℕ) (lists : List (List Fraction)) → PlacesSoFar items lists 0 [] items
places_begin items lists = record { as_long = refl; each = λ j within. absurd (omega (arith, within)); here = sym (place_first items lists) }

places_step : (items : ℕ) (lists : List (List Fraction)) (k : ℕ) (places : List ℕ) (place : ℕ) → k < length lists → PlacesSoFar items lists k places place
    → PlacesSoFar items lists (k + 1) (places ++ place ∷ []) (place + record_count (list_at lists k))
places_step items lists k places place within so_far = record {
  as_long = let long = so_far.as_long in grind (arith, common_steps, long);
  each = λ j below. by_place j below (nat_lt j k) refl;
  here = let step = place_next items lists k within in let here = so_far.here in omega (arith, step, here);
}
  where
    by_place : (j : ℕ) → j < k + 1 → (b : Bool) → nat_lt j k ≡ b → get_or (places ++ place ∷ []) j 0 ≡ record_place items lists j
    by_place j below true is =
        let before : j < k = grind (arith, nat_tests, is) in
        let old = so_far.each j before in
        let long = so_far.as_long in
        grind (arith, common_steps, old, long, before)
    by_place j below false is =
        let here : j ≡ k = grind (arith, nat_tests, is, below) in
        let long = so_far.as_long in
        let new : get_or (places ++ place ∷ []) j 0 ≡ place = grind (arith, common_steps, here, long) in
        new ∙ so_far.here ∙ ap (record_place items lists) (sym here)

places_done : (items : ℕ) (lists : List (List Fraction)) (k : ℕ) (places : List ℕ) (place : ℕ) → All IsRising lists → k ≡ length lists → record_place items lists (length lists) ≤ 131_072 → PlacesSoFar items lists k places place → ArePlaces items lists places place
places_done items lists k places place rising end few so_far = record {
  rising = rising;
  as_long = so_far.as_long ∙ end;
  each = λ j within. so_far.each j (omega (arith, end, within));
  ends = so_far.here ∙ ap (record_place items lists) end;
  few = let here = so_far.here in let same = ap (record_place items lists) end in omega (arith, here, same, few);
}

-- the same of lists as they are kept
list_there : (lists : List (Vec Fraction Global)) (k : ℕ) (list : Vec Fraction Global) → k < length lists → list ≡ get_or lists k list → list_at (contents lists) k ≡ list.items
list_there lists k list within is = contents_at lists k list within is

pub within_contents : (lists : List (Vec Fraction Global)) (k : ℕ) → k < length lists → k < length (contents lists)
within_contents lists k within = let long = length_contents lists in omega (arith, long, within)

pub places_none : (items : ℕ) (lists : List (Vec Fraction Global)) (places : List ℕ) → places ≡ [] → PlacesSoFar items (contents lists) 0 places items
places_none items lists places is = subst (λ (xs : List ℕ). PlacesSoFar items (contents lists) 0 xs items) (sym is) (places_begin items (contents lists))

pub places_more : (items : ℕ) (lists : List (Vec Fraction Global)) (k : ℕ) (places : List ℕ) (place : ℕ) (list : Vec Fraction Global) (count : ℕ) → k < length lists → list ≡ get_or lists k list → count ≡ record_count list.items
    → PlacesSoFar items (contents lists) k places place → PlacesSoFar items (contents lists) (k + 1) (places ++ place ∷ []) (place + count)
places_more items lists k places place list count within is counted so_far =
    subst (λ (n : ℕ). PlacesSoFar items (contents lists) (k + 1) (places ++ place ∷ []) (place + n)) (ap record_count (list_there lists k list within is) ∙ sym counted)
    (places_step items (contents lists) k places place (within_contents lists k within) so_far)

pub places_few : (items : ℕ) (lists : List (Vec Fraction Global)) (k : ℕ) (places : List ℕ) (place : ℕ) (list : Vec Fraction Global) (count : ℕ) → k < length lists → list ≡ get_or lists k list → count ≡ record_count list.items
    → record_place items (contents lists) (length lists) ≤ 131_072 → PlacesSoFar items (contents lists) k places place → place + count ≤ 131_072
places_few items lists k places place list count within is counted few so_far =
    let same = counted ∙ ap record_count (sym (list_there lists k list within is)) in
    let here = so_far.here in
    let step = place_next items (contents lists) k (within_contents lists k within) in
    let end = place_below items (contents lists) (k + 1) in
    let long = ap (record_place items (contents lists)) (length_contents lists) in
    omega (arith, same, here, step, end, long, few)

pub places_all : (items : ℕ) (lists : List (Vec Fraction Global)) (k : ℕ) (places : List ℕ) (place : ℕ) → All IsRising (contents lists) → k ≤ length lists → length lists ≤ k → record_place items (contents lists) (length lists) ≤ 131_072
    → PlacesSoFar items (contents lists) k places place → ArePlaces items (contents lists) places place
places_all items lists k places place rising below end few so_far =
    let long = length_contents lists in
    places_done items (contents lists) k places place rising (omega (arith, below, end, long)) (let same = ap (record_place items (contents lists)) long in omega (arith, same, few)) so_far

-- ---- what is kept
pub kept_place : (items : ℕ) (lists : List (List Fraction)) (places : List ℕ) (last k : ℕ) → ArePlaces items lists places last → place_or last (slice_get places k) ≡ record_place items lists k
kept_place items lists places last k are = by_place (nat_lt k (length lists)) refl
  where
    by_place : (b : Bool) → nat_lt k (length lists) ≡ b → place_or last (slice_get places k) ≡ record_place items lists k
    by_place true is =
        let within : k < length lists = grind (arith, nat_tests, is) in
        let long = are.as_long in
        ap (place_or last) (slice_get-get_or places k 0 (omega (arith, within, long))) ∙ are.each k within
    by_place false is =
        let past : length lists ≤ k = grind (arith, nat_tests, is) in
        let long = are.as_long in
        ap (place_or last) (slice_get_past places k (omega (arith, past, long))) ∙ are.ends ∙ sym (place_past items lists k past)

pub taken_item : (items : ℕ) (lists : List (List Fraction)) (good : GoodId) → good.0 < items → good ≡ plain_of items lists good
unfolding plain_of
taken_item items lists good item =
    let test : nat_lt good.0 items ≡ true = grind (arith, nat_tests, item) in
    rw test refl

pub taken_fluid : (items : ℕ) (lists : List (List Fraction)) (places : List ℕ) (last : ℕ) (good : GoodId) → ArePlaces items lists places last → (good.0 < items → ⊥)
    → record { 0 = place_or last (slice_get places (good.0 - items)) } ≡ plain_of items lists good
unfolding plain_of
taken_fluid items lists places last good are fluid =
    let test : nat_lt good.0 items ≡ false = grind (arith, nat_tests, fluid) in
    rw test (ap (λ (n : ℕ). let id : GoodId = record { 0 = n } in id) (kept_place items lists places last (good.0 - items) are))

-- a record is among all of them
pub place_within : (items : ℕ) (lists : List (List Fraction)) (good : GoodId) (k : ℕ) → k ≡ good.0 - items → k < length lists → (plain_of items lists good).0 + record_count (list_at lists k) ≤ record_place items lists (length lists)
unfolding plain_of
place_within items lists good k is within = by_kind (nat_lt good.0 items) refl
  where
    by_kind : (b : Bool) → nat_lt good.0 items ≡ b → (if b then good.0 else record_place items lists (good.0 - items)) + record_count (list_at lists k) ≤ record_place items lists (length lists)
    by_kind true test =
        let below : good.0 < items = grind (arith, nat_tests, test) in
        let none : k ≡ 0 = omega (arith, is, below) in
        let first = place_first items lists in
        let here = ap (record_place items lists) none in
        let step = place_next items lists k within in
        let end = place_below items lists (k + 1) in
        omega (arith, below, first, here, step, end)
    by_kind false test =
        let here = ap (record_place items lists) is in
        let step = place_next items lists k within in
        let end = place_below items lists (k + 1) in
        omega (arith, here, step, end)

offset_few : (list : List Fraction) (at : Fraction) → variant_offset list at ≤ record_count list
offset_few [] at = omega arith
offset_few (one ∷ []) at = omega arith
offset_few (one ∷ other ∷ others) at = let some = front_few at (one ∷ other ∷ others) in omega (arith, some)
  where
    front_few : (at : Fraction) → (list : List Fraction) → prefix_len (λ lower. is_cooler lower at) list ≤ length list
    front_few at list = prefix_len-le-length (λ lower. is_cooler lower at) list

plain_below : (items : ℕ) (lists : List (List Fraction)) (good : GoodId) → (plain_of items lists good).0 ≤ record_place items lists (length lists)
unfolding plain_of
plain_below items lists good = by_kind (nat_lt good.0 items) refl
  where
    by_kind : (b : Bool) → nat_lt good.0 items ≡ b → (if b then good.0 else record_place items lists (good.0 - items)) ≤ record_place items lists (length lists)
    by_kind true test =
        let below : good.0 < items = grind (arith, nat_tests, test) in
        let from = place_from items lists (length lists) in
        omega (arith, below, from)
    by_kind false test = place_below items lists (good.0 - items)

pub record_few : (items : ℕ) (lists : List (List Fraction)) (m : Made) → record_place items lists (length lists) ≤ 131_072 → (record_of items lists m).0 ≤ 131_072
unfolding record_of
record_few items lists m few = by_place (nat_lt (m.good.0 - items) (length lists)) refl
  where
    by_place : (b : Bool) → nat_lt (m.good.0 - items) (length lists) ≡ b → (plain_of items lists m.good).0 + variant_offset (list_at lists (m.good.0 - items)) m.at ≤ 131_072
    by_place true test =
        let within : m.good.0 - items < length lists = grind (arith, nat_tests, test) in
        let own = offset_few (list_at lists (m.good.0 - items)) m.at in
        let all = place_within items lists m.good (m.good.0 - items) refl within in
        omega (arith, own, all, few)
    by_place false test =
        let past : length lists ≤ m.good.0 - items = grind (arith, nat_tests, test) in
        let none : list_at lists (m.good.0 - items) ≡ [] = grind (arith, common_steps, past) in
        let own = ap (λ list. variant_offset list m.at) none in
        let all = plain_below items lists m.good in
        omega (arith, own, all, few)

pub record_made : (items : ℕ) (lists : List (List Fraction)) (m : Made) (plain : GoodId) (number offset : ℕ) → plain ≡ plain_of items lists m.good → number ≡ m.good.0 - items → offset ≡ variant_offset (list_at lists number) m.at
    → record { 0 = plain.0 + offset } ≡ record_of items lists m
unfolding record_of
record_made items lists m plain number offset is at counted =
    ap (λ (n : ℕ). let id : GoodId = record { 0 = n } in id) (ap (λ (p : GoodId). p.0 + offset) is ∙ ap (λ o. (plain_of items lists m.good).0 + o) (counted ∙ ap (λ k. variant_offset (list_at lists k) m.at) at))

pub made_of : (items : ℕ) (lists : List (List Fraction)) (places : List ℕ) (last : ℕ) (now : Listed) (m : Made) (plain : GoodId) (number offset : ℕ) → ArePlaces items lists places last → record { items = items; lists = lists } ≡ now
    → plain ≡ plain_of now.items now.lists m.good → number ≡ m.good.0 - items → offset ≡ variant_offset (list_at lists number) m.at
    → (plain.0 + offset ≤ 131_072) × (record { 0 = plain.0 + offset } ≡ record_of now.items now.lists m)
made_of items lists places last now m plain number offset are same is at counted =
    let items_same : items ≡ now.items = ap (λ (l : Listed). l.items) same in
    let lists_same : lists ≡ now.lists = ap (λ (l : Listed). l.lists) same in
    let whole : record { 0 = plain.0 + offset } ≡ record_of now.items now.lists m =
    record_made now.items now.lists m plain number offset is (at ∙ ap (λ n. m.good.0 - n) items_same) (counted ∙ ap (λ ls. variant_offset (list_at ls number) m.at) lists_same) in
    let end : record_place now.items now.lists (length now.lists) ≤ 131_072 = subst (λ (l : Listed). record_place l.items l.lists (length l.lists) ≤ 131_072) same (let ends = are.ends in let few = are.few in omega (arith, ends, few)) in
    let few = record_few now.items now.lists m end in
    let number_same = ap (λ (id : GoodId). id.0) whole in
    (omega (arith, few, number_same), whole)

pub offset_there : (lists : List (Vec Fraction Global)) (k : ℕ) (list : Vec Fraction Global) (at : Fraction) (offset : ℕ) → slice_get lists k ≡ Some list → offset ≡ variant_offset list.items at → offset ≡ variant_offset (list_at (contents lists) k) at
offset_there lists k list at offset is counted =
    counted ∙ ap (λ l. variant_offset l at) (sym (contents_at lists k list (slice_get_within lists k list is) (sym (get_or_from_slice_get lists k list list is))))

no_list : (lists : List (Vec Fraction Global)) (k : ℕ) → slice_get lists k ≡ None → list_at (contents lists) k ≡ []
no_list [] k is = refl
no_list (list ∷ lists) zero is = absurd (cc)
no_list (list ∷ lists) (suc k) is = no_list lists k is

pub offset_none : (lists : List (Vec Fraction Global)) (k : ℕ) (at : Fraction) → slice_get lists k ≡ None → 0 ≡ variant_offset (list_at (contents lists) k) at
offset_none lists k at is = ap (λ l. variant_offset l at) (sym (no_list lists k is))

-- ---- the records of all fluids, one fluid after another
pub records_first : (items : ℕ) (found : List Fluid) (fluids : List Fluid) (lists : List (List Fraction)) → found ++ all_records (record_place items lists 0) (drop 0 fluids) (drop 0 lists) ≡ found ++ all_records items fluids lists
records_first items found fluids lists = ap (λ place. found ++ all_records place fluids lists) (place_first items lists)

pub records_next : (items : ℕ) (found : List Fluid) (fluids : List Fluid) (lists : List (Vec Fraction Global)) (places : List ℕ) (k : ℕ) (fluid : Fluid) (list : Vec Fraction Global)
    → k < length fluids → length fluids ≡ length lists → fluid ≡ get_or fluids k fluid → list ≡ get_or lists k list
    → ((j : ℕ) → j < length lists → get_or places j 0 ≡ record_place items (contents lists) j)
    → found ++ all_records (record_place items (contents lists) k) (drop k fluids) (drop k (contents lists))
    ≡ (found ++ records (record { 0 = get_or places k 0 }) fluid list.items) ++ all_records (record_place items (contents lists) (k + 1)) (drop (k + 1) fluids) (drop (k + 1) (contents lists))
unfolding all_records
records_next items found fluids lists places k fluid list within same is there are =
    let listed : k < length lists = omega (arith, within, same) in
    let inside : k < length (contents lists) = within_contents lists k listed in
    let here : get_or places k 0 ≡ record_place items (contents lists) k = are k listed in
    ap (λ xs. found ++ all_records (record_place items (contents lists) k) xs (drop k (contents lists))) (next fluids k fluid within is)
    ∙ ap (λ xs. found ++ all_records (record_place items (contents lists) k) (fluid ∷ drop (k + 1) fluids) xs) (drop_more (contents lists) k [] inside)
    ∙ ap (λ l. found ++ (records (record { 0 = record_place items (contents lists) k }) fluid l ++ all_records (record_place items (contents lists) k + record_count l) (drop (k + 1) fluids) (drop (k + 1) (contents lists)))) (list_there lists k list listed there)
    ∙ ap (λ n. found ++ (records (record { 0 = record_place items (contents lists) k }) fluid list.items ++ all_records n (drop (k + 1) fluids) (drop (k + 1) (contents lists)))) (ap (λ l. record_place items (contents lists) k + record_count l) (sym (list_there lists k list listed there)) ∙ sym (place_next items (contents lists) k inside))
    ∙ ap (λ n. found ++ (records (record { 0 = n }) fluid list.items ++ all_records (record_place items (contents lists) (k + 1)) (drop (k + 1) fluids) (drop (k + 1) (contents lists)))) (sym here)
    ∙ sym (append_assoc found (records (record { 0 = get_or places k 0 }) fluid list.items) (all_records (record_place items (contents lists) (k + 1)) (drop (k + 1) fluids) (drop (k + 1) (contents lists))))

pub records_end : (place : ℕ) (found fluids : List Fluid) (lists : List (List Fraction)) (k : ℕ) → length fluids ≤ k → found ++ all_records place (drop k fluids) (drop k lists) ≡ found
unfolding all_records
records_end place found fluids lists k end = rw (drop_all fluids k end) (grind (arith, common_steps))
