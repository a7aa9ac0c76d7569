-- A sound game of plain fluids is sound with the records of its fluids.
use Rattle.std.proofs.Common.{◌≡◌, ◌∙◌, ◌<◌, ◌≤◌, ◌+◌, ◌-◌, ◌++◌, ℕ, zero, suc, Bool, true, false, List, [], ◌∷◌, Option, Some, None, length, map, get_or, refl, sym, ap, subst, append_assoc, arith}
use Rattle.std.specs.Prelude.{All, IfSome, IsSomeAnd, nat_lt, option_map, slice_get}
use Rattle.std.proofs.lemmas.Bool.Decides.{nat_tests}
use Rattle.std.proofs.lemmas.Grind.{common_steps}
use Rattle.std.proofs.lemmas.List.{length-append, length-map}
use Rattle.std.proofs.lemmas.List.Elements.{All-nil, All-cons, All-append, All-head, All-map}
use Rattle.std.proofs.lemmas.Option.{slice_get-map, slice_get_within, get_or_from_slice_get}
use Rattle.fractions.specs.Fraction.{Fraction}
use Rattle.plan_base.specs.Shape.{node_count}
use Rattle.plan_base.specs.declared.ids.GoodId.{GoodId}
use Rattle.game_types.specs.Nodes.{node_limit, shape_of}
use Rattle.game_types.specs.Sound.{AreApart, IsFluid, IsGood, IsSound, IsSoundFluid}
use Rattle.game_types.specs.declared.games.Game.{Game}
use Rattle.game_types.specs.declared.goods.Fluid.{Fluid}
use Rattle.fluid_variants.specs.declared.made.Made.{Made}
use Rattle.fluid_variants.specs.Temperatures.{IsRising, all_made, temperature_lists, temperatures}
use Rattle.fluid_variants.specs.Records.{all_names, all_records, at_one, list_at, numbering_of, plain_of, record_count, record_of, record_place, records, variant, variant_names, variant_offset}
use Rattle.fluid_variants.specs.Split.{split}
use Rattle.fluid_variants.proofs.MadeFluids.{made_fluids}
use Rattle.fluid_variants.proofs.PlaceLemmas.{place_below, place_first, place_from, place_next}
use Rattle.fluid_variants.proofs.Renumbered.{IsNumbering, renumbered_sound}
use Rattle.fluid_variants.proofs.Rising.{IsAmong, all_rise, length_lists, list_of, made_among, one_place}

-- ---- how many records there are
records_long : (first : GoodId) (fluid : Fluid) (list : List Fraction) → length (records first fluid list) ≡ record_count list
records_long first fluid [] = refl
records_long first fluid (at ∷ []) = refl
records_long first fluid (at ∷ other ∷ others) = let more = length-map (at ∷ other ∷ others) (variant first fluid) in omega (arith, more)

-- one list more at the front
front_place : (place : ℕ) (list : List Fraction) (lists : List (List Fraction)) → record_place place (list ∷ lists) (length (list ∷ lists)) ≡ record_place (place + record_count list) lists (length lists)
unfolding record_place
front_place place list lists = grind (arith, common_steps)

pub all_long : (place : ℕ) → (fluids : List Fluid) (lists : List (List Fraction)) → length fluids ≡ length lists → place + length (all_records place fluids lists) ≡ record_place place lists (length lists)
unfolding all_records
all_long place [] [] same = let first = place_first place [] in omega (arith, first)
all_long place [] (list ∷ lists) same = absurd (omega (arith, same))
all_long place (fluid ∷ fluids) [] same = absurd (omega (arith, same))
all_long place (fluid ∷ fluids) (list ∷ lists) same =
    let rest = all_long (place + record_count list) fluids lists (omega (arith, same)) in
    let one = records_long (record { 0 = place }) fluid list in
    let both = length-append (records (record { 0 = place }) fluid list) (all_records (place + record_count list) fluids lists) in
    let step = front_place place list lists in
    omega (arith, rest, one, both, step)

names_long : (place : ℕ) (name : List ℕ) (fluid : Fluid) (list : List Fraction) → length (name ∷ variant_names name list) ≡ record_count list
names_long place name fluid [] = refl
names_long place name fluid (at ∷ []) = refl
names_long place name fluid (at ∷ other ∷ others) = grind (arith, common_steps)

pub as_many_names : (place : ℕ) → (names : List (List ℕ)) (fluids : List Fluid) (lists : List (List Fraction)) → length names ≡ length lists → length fluids ≡ length lists → length (all_names names lists) ≡ length (all_records place fluids lists)
unfolding all_names all_records
as_many_names place [] [] [] named same = refl
as_many_names place [] (fluid ∷ fluids) [] named same = absurd (omega (arith, same))
as_many_names place [] fluids (list ∷ lists) named same = absurd (omega (arith, named))
as_many_names place (name ∷ names) fluids [] named same = absurd (omega (arith, named))
as_many_names place (name ∷ names) [] (list ∷ lists) named same = absurd (omega (arith, same))
as_many_names place (name ∷ names) (fluid ∷ fluids) (list ∷ lists) named same =
    let rest = as_many_names (place + record_count list) names fluids lists (omega (arith, named)) (omega (arith, same)) in
    let one = names_long place name fluid list in
    let other = records_long (record { 0 = place }) fluid list in
    let left = length-append (name ∷ variant_names name list) (all_names names lists) in
    let right = length-append (records (record { 0 = place }) fluid list) (all_records (place + record_count list) fluids lists) in
    omega (arith, rest, one, other, left, right)

-- ---- each variant names a base
abbrev IsBaseIn : ℕ → List Fluid → GoodId → Type 0
IsBaseIn items whole base = (items ≤ base.0) × IsSomeAnd (slice_get whole (base.0 - items)) (λ fluid. fluid.of ≡ None)

first_at : (before : List Fluid) (one : Fluid) (after : List Fluid) (k : ℕ) → k ≡ length before → slice_get (before ++ one ∷ after) k ≡ Some one
first_at [] one after k is = rw is refl
first_at (x ∷ before) one after zero is = absurd (omega (arith, is))
first_at (x ∷ before) one after (suc k) is = first_at before one after k (omega (arith, is))

one_of : (P : GoodId → Type 0) (plain : Fluid) → plain.of ≡ None → All (λ (f : Fluid). IfSome f.of P) (plain ∷ [])
one_of P plain none = All-cons (λ (f : Fluid). IfSome f.of P) plain [] (subst (λ (o : Option GoodId). IfSome o P) (sym none) tt) (All-nil (λ (f : Fluid). IfSome f.of P))

one_based : (items : ℕ) (whole : List Fluid) (plain : Fluid) → plain.of ≡ None → All (λ (f : Fluid). IfSome f.of (IsBaseIn items whole)) (plain ∷ [])
one_based items whole plain none = one_of (IsBaseIn items whole) plain none

records_based : (items : ℕ) (before after : List Fluid) (first : GoodId) (fluid : Fluid) (list : List Fraction) → first.0 ≡ items + length before
    → All (λ f. IfSome f.of (IsBaseIn items (before ++ (records first fluid list ++ after)))) (records first fluid list)
records_based items before after first fluid [] is = one_based items (before ++ (records first fluid [] ++ after)) (at_one fluid fluid.default_temperature) refl
records_based items before after first fluid (at ∷ []) is = one_based items (before ++ (records first fluid (at ∷ []) ++ after)) (at_one fluid at) refl
records_based items before after first fluid (at ∷ other ∷ others) is =
    let base : Fluid = at_one fluid fluid.default_temperature in
    let variants : List Fluid = map (variant first fluid) (at ∷ other ∷ others) in
    let whole : List Fluid = before ++ ((base ∷ variants) ++ after) in
    let there : slice_get whole (first.0 - items) ≡ Some base = first_at before base (variants ++ after) (first.0 - items) (omega (arith, is)) in
    let based : IsBaseIn items whole first = (omega (arith, is), subst (λ (o : Option Fluid). IsSomeAnd o (λ f. f.of ≡ None)) (sym there) refl) in
    All-cons (λ (f : Fluid). IfSome f.of (IsBaseIn items whole)) base variants tt
    (All-map (λ (f : Fluid). IfSome f.of (IsBaseIn items whole)) (variant first fluid) (at ∷ other ∷ others) (λ k d within. based))

all_based : (items : ℕ) (before : List Fluid) (place : ℕ) → (fluids : List Fluid) (lists : List (List Fraction)) → place ≡ items + length before
    → All (λ f. IfSome f.of (IsBaseIn items (before ++ all_records place fluids lists))) (all_records place fluids lists)
unfolding all_records
all_based items before place [] lists is = All-nil (λ (f : Fluid). IfSome f.of (IsBaseIn items (before ++ [])))
all_based items before place (fluid ∷ fluids) [] is = All-nil (λ (f : Fluid). IfSome f.of (IsBaseIn items (before ++ [])))
all_based items before place (fluid ∷ fluids) (list ∷ lists) is =
    let first : GoodId = record { 0 = place } in
    let own : List Fluid = records first fluid list in
    let rest : List Fluid = all_records (place + record_count list) fluids lists in
    let whole : List Fluid = before ++ (own ++ rest) in
    let long = records_long first fluid list in
    let both = length-append before own in
    let later = all_based items (before ++ own) (place + record_count list) fluids lists (omega (arith, is, long, both)) in
    All-append (λ (f : Fluid). IfSome f.of (IsBaseIn items whole)) own rest
    (records_based items before rest first fluid list is)
    (subst (λ (xs : List Fluid). All (λ f. IfSome f.of (IsBaseIn items xs)) rest) (append_assoc before own rest) later)

-- ---- variants of one base are apart
abbrev AreBelow : ℕ → List Fluid → Type 0
AreBelow place fluids = All (λ f. IfSome f.of (λ base. base.0 < place)) fluids

abbrev AreFrom : ℕ → List Fluid → Type 0
AreFrom place fluids = All (λ f. IfSome f.of (λ base. place ≤ base.0)) fluids

read_of : (P : GoodId → Type 0) (fluids : List Fluid) (k : ℕ) (one : Fluid) (base : GoodId) → All (λ f. IfSome f.of P) fluids → slice_get fluids k ≡ Some one → one.of ≡ Some base → P base
read_of P fluids k one base all at of_ =
    let here : IfSome (get_or fluids k one).of P = all k one (slice_get_within fluids k one at) in
    let there : IfSome one.of P = subst (λ (f : Fluid). IfSome f.of P) (get_or_from_slice_get fluids k one one at) here in
    subst (λ (o : Option GoodId). IfSome o P) of_ there

left_get : {X : Type 0} (xs ys : List X) (k : ℕ) → k < length xs → slice_get (xs ++ ys) k ≡ slice_get xs k
left_get [] ys k within = absurd (omega (arith, within))
left_get (x ∷ xs) ys zero within = refl
left_get (x ∷ xs) ys (suc k) within = left_get xs ys k (omega (arith, within))

right_get : {X : Type 0} (xs ys : List X) (k : ℕ) → length xs ≤ k → slice_get (xs ++ ys) k ≡ slice_get ys (k - length xs)
right_get [] ys k past = ap (slice_get ys) (omega arith)
right_get (x ∷ xs) ys zero past = absurd (omega (arith, past))
right_get (x ∷ xs) ys (suc k) past = right_get xs ys k (omega (arith, past)) ∙ ap (slice_get ys) (omega arith)

apart_append : (place : ℕ) (xs ys : List Fluid) → AreApart xs → AreApart ys → AreBelow place xs → AreFrom place ys → AreApart (xs ++ ys)
apart_append place xs ys left right below from i j one other base at_i at_j of_i of_j same = by_sides (nat_lt i (length xs)) (nat_lt j (length xs)) refl refl
  where
    by_sides : (b c : Bool) → nat_lt i (length xs) ≡ b → nat_lt j (length xs) ≡ c → i ≡ j
    by_sides true true ti tj =
        let wi : i < length xs = grind (arith, nat_tests, ti) in
        let wj : j < length xs = grind (arith, nat_tests, tj) in
        left i j one other base (sym (left_get xs ys i wi) ∙ at_i) (sym (left_get xs ys j wj) ∙ at_j) of_i of_j same
    by_sides true false ti tj =
        let wi : i < length xs = grind (arith, nat_tests, ti) in
        let wj : length xs ≤ j = grind (arith, nat_tests, tj) in
        let low = read_of (λ b. b.0 < place) xs i one base below (sym (left_get xs ys i wi) ∙ at_i) of_i in
        let high = read_of (λ b. place ≤ b.0) ys (j - length xs) other base from (sym (right_get xs ys j wj) ∙ at_j) of_j in
        absurd (omega (arith, low, high))
    by_sides false true ti tj =
        let wi : length xs ≤ i = grind (arith, nat_tests, ti) in
        let wj : j < length xs = grind (arith, nat_tests, tj) in
        let low = read_of (λ b. b.0 < place) xs j other base below (sym (left_get xs ys j wj) ∙ at_j) of_j in
        let high = read_of (λ b. place ≤ b.0) ys (i - length xs) one base from (sym (right_get xs ys i wi) ∙ at_i) of_i in
        absurd (omega (arith, low, high))
    by_sides false false ti tj =
        let wi : length xs ≤ i = grind (arith, nat_tests, ti) in
        let wj : length xs ≤ j = grind (arith, nat_tests, tj) in
        let inner = right (i - length xs) (j - length xs) one other base (sym (right_get xs ys i wi) ∙ at_i) (sym (right_get xs ys j wj) ∙ at_j) of_i of_j same in
        omega (arith, inner, wi, wj)

one_plain : (plain : Fluid) → plain.of ≡ None → AreApart (plain ∷ [])
one_plain plain none zero zero one other base at_i at_j of_i of_j same = refl
one_plain plain none zero (suc j) one other base at_i at_j of_i of_j same = absurd (cc)
one_plain plain none (suc i) j one other base at_i at_j of_i of_j same = absurd (cc)

variant_at : (first : GoodId) (fluid : Fluid) (list : List Fraction) (k : ℕ) (one : Fluid) → slice_get (map (variant first fluid) list) k ≡ Some one → slice_get list k ≡ Some one.at
variant_at first fluid list k one is = by_found (slice_get list k) (sym (slice_get-map (variant first fluid) list k) ∙ is)
  where
    by_found : (found : Option Fraction) → option_map (variant first fluid) found ≡ Some one → found ≡ Some one.at
    by_found None e = absurd (cc)
    by_found (Some at) e = let same : variant first fluid at ≡ one = cc in ap (λ f. Some f.at) same

variants_apart : (first : GoodId) (fluid : Fluid) (base : Fluid) (list : List Fraction) → base.of ≡ None → IsRising list → AreApart (base ∷ map (variant first fluid) list)
variants_apart first fluid base list none rising zero j one other b at_i at_j of_i of_j same = absurd (let is : base ≡ one = cc in let has : base.of ≡ Some b = ap (λ f. f.of) is ∙ of_i in cc)
variants_apart first fluid base list none rising (suc i) zero one other b at_i at_j of_i of_j same = absurd (let is : base ≡ other = cc in let has : base.of ≡ Some b = ap (λ f. f.of) is ∙ of_j in cc)
variants_apart first fluid base list none rising (suc i) (suc j) one other b at_i at_j of_i of_j same =
    ap suc (one_place list i j one.at rising (variant_at first fluid list i one at_i) (variant_at first fluid list j other at_j ∙ ap Some (sym same)))

records_apart : (first : GoodId) (fluid : Fluid) (list : List Fraction) → IsRising list → AreApart (records first fluid list)
records_apart first fluid [] rising = one_plain (at_one fluid fluid.default_temperature) refl
records_apart first fluid (at ∷ []) rising = one_plain (at_one fluid at) refl
records_apart first fluid (at ∷ other ∷ others) rising = variants_apart first fluid (at_one fluid fluid.default_temperature) (at ∷ other ∷ others) refl rising

records_below : (first : GoodId) (fluid : Fluid) (list : List Fraction) (place : ℕ) → first.0 < place → AreBelow place (records first fluid list)
records_below first fluid [] place is = one_of (λ base. base.0 < place) (at_one fluid fluid.default_temperature) refl
records_below first fluid (at ∷ []) place is = one_of (λ base. base.0 < place) (at_one fluid at) refl
records_below first fluid (at ∷ other ∷ others) place is =
    All-cons (λ (f : Fluid). IfSome f.of (λ base. base.0 < place)) (at_one fluid fluid.default_temperature) (map (variant first fluid) (at ∷ other ∷ others)) tt
    (All-map (λ (f : Fluid). IfSome f.of (λ base. base.0 < place)) (variant first fluid) (at ∷ other ∷ others) (λ k d within. is))

records_from : (first : GoodId) (fluid : Fluid) (list : List Fraction) (place : ℕ) → place ≤ first.0 → AreFrom place (records first fluid list)
records_from first fluid [] place is = one_of (λ base. place ≤ base.0) (at_one fluid fluid.default_temperature) refl
records_from first fluid (at ∷ []) place is = one_of (λ base. place ≤ base.0) (at_one fluid at) refl
records_from first fluid (at ∷ other ∷ others) place is =
    All-cons (λ (f : Fluid). IfSome f.of (λ base. place ≤ base.0)) (at_one fluid fluid.default_temperature) (map (variant first fluid) (at ∷ other ∷ others)) tt
    (All-map (λ (f : Fluid). IfSome f.of (λ base. place ≤ base.0)) (variant first fluid) (at ∷ other ∷ others) (λ k d within. is))

all_from : (least place : ℕ) → (fluids : List Fluid) (lists : List (List Fraction)) → least ≤ place → AreFrom least (all_records place fluids lists)
unfolding all_records
all_from least place [] lists is = All-nil (λ (f : Fluid). IfSome f.of (λ base. least ≤ base.0))
all_from least place (fluid ∷ fluids) [] is = All-nil (λ (f : Fluid). IfSome f.of (λ base. least ≤ base.0))
all_from least place (fluid ∷ fluids) (list ∷ lists) is =
    All-append (λ (f : Fluid). IfSome f.of (λ base. least ≤ base.0)) (records (record { 0 = place }) fluid list) (all_records (place + record_count list) fluids lists)
    (records_from (record { 0 = place }) fluid list least is) (all_from least (place + record_count list) fluids lists (omega (arith, is)))

some_record : (list : List Fraction) → 0 < record_count list
some_record [] = omega arith
some_record (at ∷ []) = omega arith
some_record (at ∷ other ∷ others) = omega arith

none_apart : AreApart []
none_apart i j one other base at_i at_j of_i of_j same = absurd (cc)

all_apart : (place : ℕ) → (fluids : List Fluid) (lists : List (List Fraction)) → All IsRising lists → AreApart (all_records place fluids lists)
unfolding all_records
all_apart place [] lists rising = none_apart
all_apart place (fluid ∷ fluids) [] rising = none_apart
all_apart place (fluid ∷ fluids) (list ∷ lists) rising =
    let own = some_record list in
    let rest : All IsRising lists = λ k d within. rising (suc k) d (omega (arith, within)) in
    apart_append (place + record_count list) (records (record { 0 = place }) fluid list) (all_records (place + record_count list) fluids lists)
    (records_apart (record { 0 = place }) fluid list (All-head IsRising list lists rising))
    (all_apart (place + record_count list) fluids lists rest)
    (records_below (record { 0 = place }) fluid list (place + record_count list) (omega (arith, own)))
    (all_from (place + record_count list) (place + record_count list) fluids lists (omega arith))

-- ---- the numbering
offset_within : (list : List Fraction) (at : Fraction) → IsAmong list at → variant_offset list at < record_count list
offset_within [] at among = omega arith
offset_within (one ∷ []) at among = omega arith
offset_within (one ∷ other ∷ others) at among = omega (arith, among)

module _ (g : Game) (sound : IsSound g) where
  abbrev lists : List (List Fraction)
  lists = temperature_lists g

  abbrev new : Game
  new = split g

  new_fluids : length g.items + length new.fluids ≡ record_place (length g.items) lists (length lists)
  unfolding split
  new_fluids = all_long (length g.items) g.fluids lists (sym (length_lists g))

  new_items : new.items ≡ g.items
  unfolding split
  new_items = refl

  place_in : (k : ℕ) → k < length g.fluids → (offset : ℕ) → offset < record_count (list_at lists k) → IsFluid new (record_place (length g.items) lists k + offset)
  place_in k within offset below =
      let long = length_lists g in
      let step = place_next (length g.items) lists k (omega (arith, within, long)) in
      let end = place_below (length g.items) lists (k + 1) in
      let from = place_from (length g.items) lists k in
      let all = new_fluids in
      let items : length new.items ≡ length g.items = ap length new_items in
      (omega (arith, items, from), omega (arith, items, all, step, end, below))

  fluid_in : (good : ℕ) → IsFluid g good → (good - length g.items < length g.fluids)
  fluid_in good is = let from = is.0 in let below = is.1 in omega (arith, from, below)

  fluid_place : (good : GoodId) → IsFluid g good.0 → (plain_of (length g.items) lists good).0 ≡ record_place (length g.items) lists (good.0 - length g.items)
  unfolding plain_of
  fluid_place good is =
      let from = is.0 in
      let test : nat_lt good.0 (length g.items) ≡ false = grind (arith, nat_tests, from) in
      rw test refl

  taken_is_fluid : (good : GoodId) → IsFluid g good.0 → IsFluid new (plain_of (length g.items) lists good).0
  taken_is_fluid good is =
      let own = some_record (list_at lists (good.0 - length g.items)) in
      let there = place_in (good.0 - length g.items) (fluid_in good.0 is) 0 own in
      let place = fluid_place good is in
      (let from = there.0 in omega (arith, from, place), let below = there.1 in omega (arith, below, place))

  item_place : (good : GoodId) → good.0 < length g.items → (plain_of (length g.items) lists good).0 ≡ good.0
  unfolding plain_of
  item_place good item = let test : nat_lt good.0 (length g.items) ≡ true = grind (arith, nat_tests, item) in rw test refl

  taken_is_good : (good : GoodId) → IsGood g good.0 → IsGood new (plain_of (length g.items) lists good).0
  taken_is_good good is = by_kind (nat_lt good.0 (length g.items)) refl
    where
      by_kind : (b : Bool) → nat_lt good.0 (length g.items) ≡ b → IsGood new (plain_of (length g.items) lists good).0
      by_kind true test =
          let item : good.0 < length g.items = grind (arith, nat_tests, test) in
          let items : length new.items ≡ length g.items = ap length new_items in
          let same = item_place good item in
          omega (arith, item, items, same)
      by_kind false test =
          let from : length g.items ≤ good.0 = grind (arith, nat_tests, test) in
          (taken_is_fluid good (from, is)).1

  given_is_fluid : (m : Made) → IsFluid g m.good.0 → IsAmong (temperatures m.good.0 [] (all_made g)) m.at → IsFluid new (record_of (length g.items) lists m).0
  unfolding record_of
  given_is_fluid m is among =
      let k : ℕ = m.good.0 - length g.items in
      let within : k < length g.fluids = fluid_in m.good.0 is in
      let from = is.0 in
      let good : length g.items + k ≡ m.good.0 = omega (arith, from) in
      let list : list_at lists k ≡ temperatures m.good.0 [] (all_made g) = list_of g k within ∙ ap (λ n. temperatures n [] (all_made g)) good in
      let offset = offset_within (list_at lists k) m.at (subst (λ (xs : List Fraction). IsAmong xs m.at) (sym list) among) in
      let there = place_in k within (variant_offset (list_at lists k) m.at) offset in
      let place = fluid_place m.good is in
      (let low = there.0 in omega (arith, low, place), let below = there.1 in omega (arith, below, place))

  given_fluids : All (λ m. IsFluid new (record_of (length g.items) lists m).0) (all_made g)
  given_fluids k d within = given_is_fluid (get_or (all_made g) k d) (made_fluids g sound k d within) (made_among g k d within)

  numbers : IsNumbering g new (numbering_of (length g.items) lists)
  unfolding split numbering_of
  numbers = record {
    items = refl;
    good = taken_is_good;
    fluid = taken_is_fluid;
    given = given_fluids;
    recipes = refl;
    sources = refl;
    machines = refl;
    techs = refl;
  }

  new_sound_fluids : All (IsSoundFluid new) new.fluids
  unfolding split
  new_sound_fluids = all_based (length g.items) [] (length g.items) g.fluids lists (omega arith)

  new_apart : AreApart new.fluids
  unfolding split
  new_apart = all_apart (length g.items) g.fluids lists (all_rise g)

  new_names : length new.fluid_names ≡ length new.fluids
  unfolding split
  new_names = let long = length_lists g in as_many_names (length g.items) g.fluid_names g.fluids lists (sound.fluid_names ∙ sym long) (sym long)

  pub split_sound : node_count (shape_of (split g)) ≤ node_limit → IsSound (split g)
  unfolding split
  split_sound few = renumbered_sound g new (numbering_of (length g.items) lists) numbers sound new_names few new_sound_fluids new_apart refl refl refl refl refl
