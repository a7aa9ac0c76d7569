-- Nodes of fluids, the coolest first, and those of them that are within bounds.
use Rattle.std.proofs.Common.{◌≡◌, ◌∙◌, ◌<◌, ◌≤◌, ◌+◌, ◌-◌, ◌++◌, ℕ, zero, suc, Bool, true, false, List, [], ◌∷◌, Vec, length, map, drop, get_or, refl, ap, sym, subst, arith, append_assoc, append-nil}
use Rattle.std.specs.Prelude.{◌==◌, ◌&&◌, not, filter, if◌then◌else◌, nat_lt, int_lt, pos, ◌*ℤ◌, Option, Some, None, slice_get, cond}
use Rattle.std.specs.Global.{Global}
use Rattle.std.specs.List.Sorted.{IsPermutation, IsSortedBy, IsPartitionedBy, IsPartitionPoint}
use Rattle.std.specs.Cmp.{IsStrictWeakOrder}
use Rattle.std.specs.Ordering.{is_lt}
use Rattle.std.specs.declared.cmp.Ordering.TheVariants.{Less, Equal, Greater}
use Rattle.std.proofs.lemmas.Bool.Decides.{nat_tests}
use Rattle.std.proofs.lemmas.List.Sorted.{IsPermutation-map, list_any-IsPermutation, ranks_by, sorted_far}
use Rattle.fractions.specs.Fraction.{Fraction}
use Rattle.fractions.specs.Compare.{compared, compared_total}
use Rattle.plan_base.specs.declared.ids.NodeId.{NodeId}
use Rattle.plan_base.proofs.Walks.{next, drop_all}
use Rattle.game_types.specs.Temperatures.{is_cool_enough, is_cooler, is_fit_variant, is_good, is_warm_enough, is_within}
use Rattle.game_types.specs.declared.games.Game.{Game}
use Rattle.game_types.specs.declared.goods.Fluid.{Fluid}
use Rattle.depend_index.specs.Coolest.{AreCoolestFirst, AreSorted, IsCoolestFirst, temperature_in, temperature_of}
use Rattle.graph_store.specs.Lists.{has_node, is_among, list_at, number_at, HoldInOrder}
use Rattle.depend_index.specs.Indexed.{IsIndex}
use Rattle.depend_index.specs.Goods.{good_count, variants}
use Rattle.graph_store.specs.Members.{node, passes, those}
use Rattle.depend_index.specs.declared.index.Index.{Index}
use Rattle.graph_store.proofs.AmongLemmas.{at_those, below_those}
use Rattle.graph_store.proofs.CommonLemmas.{has_filtered, number_is}
use Rattle.graph_store.proofs.OrderLemmas.{in_order_those, numbers_of}
use Rattle.graph_store.proofs.Walks.{at_self}

-- ---- the order of temperatures
pub compared_cooler : (x y : Fraction) → is_lt (compared x y) ≡ is_cooler x y
unfolding compared
compared_cooler x y = by_tests (int_lt (x.num *ℤ pos y.den) (y.num *ℤ pos x.den)) (int_lt (y.num *ℤ pos x.den) (x.num *ℤ pos y.den))
  where
    by_tests : (b c : Bool) → is_lt (cond b Less (cond c Greater Equal)) ≡ b
    by_tests true c = refl
    by_tests false true = refl
    by_tests false false = refl

cooler_order : {A : Type 0} (at : A → Fraction) → IsStrictWeakOrder (λ x y. is_cooler (at x) (at y))
cooler_order at =
    let ranks = ranks_by compared_total at in
    record {
      one_way = λ x y is. sym (compared_cooler (at y) (at x)) ∙ ranks.one_way x y (compared_cooler (at x) (at y) ∙ is);
      chain = λ x y z xy yz. sym (compared_cooler (at x) (at z)) ∙ ranks.chain x y z (compared_cooler (at x) (at y) ∙ xy) (compared_cooler (at y) (at z) ∙ yz);
    }

-- what is no warmer than what is too cool is too cool, and what is no cooler than what is too warm is too warm
below_cool : (x y z : Fraction) → is_cooler y x ≡ false → is_cooler y z ≡ true → is_cooler x z ≡ true
below_cool x y z less cool = by_test (is_cooler x z) refl
  where
    by_test : (b : Bool) → is_cooler x z ≡ b → b ≡ true
    by_test true is = refl
    by_test false is = sym ((cooler_order (λ t. t)).chain y x z less is) ∙ cool

above_warm : (x y z : Fraction) → is_cooler y x ≡ false → is_cooler z x ≡ true → is_cooler z y ≡ true
above_warm x y z less warm = by_test (is_cooler z y) refl
  where
    by_test : (b : Bool) → is_cooler z y ≡ b → b ≡ true
    by_test true is = refl
    by_test false is = sym ((cooler_order (λ t. t)).chain z y x is less) ∙ warm

still_cool : (low : Option Fraction) (x y : Fraction) → is_cooler y x ≡ false → is_within low None y ≡ false → is_within low None x ≡ false
unfolding is_within
still_cool None x y less cool = cool
still_cool (Some low) x y less cool = let below = below_cool x y low less (tells (is_cooler y low) cool) in ap (λ b. not b && true) below
  where
    tells : (b : Bool) → (not b && true) ≡ false → b ≡ true
    tells true is = refl
    tells false is = sym is

still_warm : (low high : Option Fraction) (x y : Fraction) → is_cooler y x ≡ false → is_within low None x ≡ true → is_within low high x ≡ false → is_within low high y ≡ false
unfolding is_within
still_warm low high x y less warm out = by_high high (too_warm (is_warm_enough low x) (is_cool_enough high x) warm out)
  where
    too_warm : (b c : Bool) → (b && true) ≡ true → (b && c) ≡ false → c ≡ false
    too_warm true c is out = out
    too_warm false c is out = absurd cc

    never : (b : Bool) → (b && false) ≡ false
    never true = refl
    never false = refl

    tells : (b : Bool) → not b ≡ false → b ≡ true
    tells true is = refl
    tells false is = sym is

    by_high : (h : Option Fraction) → is_cool_enough h x ≡ false → (is_warm_enough low y && is_cool_enough h y) ≡ false
    by_high None is = absurd cc
    by_high (Some h) is = ap (λ b. is_warm_enough low y && not b) (above_warm x y h less (tells (is_cooler h x) is)) ∙ never (is_warm_enough low y)

too_cool : (low high : Option Fraction) (x : Fraction) → is_within low None x ≡ false → is_within low high x ≡ false
unfolding is_within
too_cool low high x cool = by_low (is_warm_enough low x) cool
  where
    by_low : (b : Bool) → (b && true) ≡ false → (b && is_cool_enough high x) ≡ false
    by_low true is = absurd cc
    by_low false is = refl

-- ---- nodes that are sorted
pub same_nodes : (old new : List NodeId) (n : ℕ) → IsPermutation old new → has_node new n ≡ has_node old n
same_nodes old new n moved = sym (list_any-IsPermutation (λ j. j == n) (numbers_of old) (numbers_of new) (IsPermutation-map (λ m. m.0) old new moved))

number_of : (nodes : List NodeId) (i : ℕ) (d : NodeId) → i < length nodes → number_at nodes i ≡ (get_or nodes i d).0
number_of nodes i d within = number_is nodes i (get_or nodes i d) within (at_self nodes i d within)

abbrev pub cooler_nodes : List Fluid → ℕ → NodeId → NodeId → Bool
cooler_nodes fluids first m n = is_cooler (temperature_of fluids first m.0) (temperature_of fluids first n.0)

pub cooler_nodes_order : (fluids : List Fluid) (first : ℕ) → IsStrictWeakOrder (cooler_nodes fluids first)
cooler_nodes_order fluids first = cooler_order (λ (n : NodeId). temperature_of fluids first n.0)

pub coolest_are_first : (fluids : List Fluid) (first : ℕ) (nodes : List NodeId) → IsSortedBy (cooler_nodes fluids first) nodes → AreCoolestFirst fluids first nodes
coolest_are_first fluids first nodes sorted i j order within =
    let far : is_cooler (temperature_of fluids first (get_or nodes j (node 0)).0) (temperature_of fluids first (get_or nodes i (node 0)).0) ≡ false =
    sorted_far (cooler_nodes fluids first) (cooler_nodes_order fluids first) nodes sorted i j (node 0) order within in
    ap (λ m. is_cooler (temperature_of fluids first m) (temperature_of fluids first (number_at nodes i))) (number_of nodes j (node 0) within)
    ∙ ap (λ m. is_cooler (temperature_of fluids first (get_or nodes j (node 0)).0) (temperature_of fluids first m)) (number_of nodes i (node 0) (omega (arith, order, within))) ∙ far

-- lists, sorted one by one
pub record SortedSoFar (fluids : List Fluid) (first : ℕ) (lists : List (Vec NodeId Global)) (i : ℕ) (sorted : List (Vec NodeId Global)) : Type 0 where
  pub as_long : length sorted ≡ i
  pub each : (k : ℕ) → k < i → IsCoolestFirst fluids first (list_at lists k) (list_at sorted k)

pub sorted_first : (fluids : List Fluid) (first : ℕ) (lists sorted : List (Vec NodeId Global)) → sorted ≡ [] → SortedSoFar fluids first lists 0 sorted
sorted_first fluids first lists sorted empty = record { as_long = ap length empty; each = λ k few. absurd (omega (arith, few)) }

at_before : (lists : List (Vec NodeId Global)) (list : Vec NodeId Global) (k : ℕ) → k < length lists → list_at (lists ++ list ∷ []) k ≡ list_at lists k
at_before [] list k within = absurd (omega (arith, within))
at_before (l ∷ lists) list zero within = refl
at_before (l ∷ lists) list (suc k) within = at_before lists list k (omega (arith, within))

at_end : (lists : List (Vec NodeId Global)) (list : Vec NodeId Global) → list_at (lists ++ list ∷ []) (length lists) ≡ list.items
at_end [] list = refl
at_end (l ∷ lists) list = at_end lists list

pub sorted_more : (fluids : List Fluid) (first : ℕ) (lists : List (Vec NodeId Global)) (i : ℕ) (list new : Vec NodeId Global) (sorted more : List (Vec NodeId Global)) → list.items ≡ list_at lists i → IsCoolestFirst fluids first list.items new.items
    → more ≡ sorted ++ new ∷ [] → SortedSoFar fluids first lists i sorted → SortedSoFar fluids first lists (i + 1) more
sorted_more fluids first lists i list new sorted more is own put before = record {
  as_long = ap length put ∙ longer sorted ∙ ap (λ n. n + 1) before.as_long;
  each = λ k few. subst (λ (l : List (Vec NodeId Global)). IsCoolestFirst fluids first (list_at lists k) (list_at l k)) (sym put) (by_place k few (nat_lt k i) refl);
}
  where
    longer : (xs : List (Vec NodeId Global)) → length (xs ++ new ∷ []) ≡ length xs + 1
    longer [] = refl
    longer (y ∷ xs) = let rest = longer xs in omega (arith, rest)

    by_place : (k : ℕ) → k < i + 1 → (b : Bool) → nat_lt k i ≡ b → IsCoolestFirst fluids first (list_at lists k) (list_at (sorted ++ new ∷ []) k)
    by_place k few true at =
        let below : k < i = grind (arith, nat_tests, at) in
        subst (λ (l : List NodeId). IsCoolestFirst fluids first (list_at lists k) l) (sym (at_before sorted new k (omega (arith, below, before.as_long)))) (before.each k below)
    by_place k few false at =
        let last : k ≡ length sorted = grind (arith, nat_tests, at, few, before.as_long) in
        let place : k ≡ i = last ∙ before.as_long in
        subst (λ (l : List NodeId). IsCoolestFirst fluids first (list_at lists k) l) (sym (ap (list_at (sorted ++ new ∷ [])) last ∙ at_end sorted new))
        (subst (λ (l : List NodeId). IsCoolestFirst fluids first l new.items) (is ∙ ap (list_at lists) (sym place)) own)

pub sorted_last : (fluids : List Fluid) (first : ℕ) (lists : List (Vec NodeId Global)) (i : ℕ) (sorted : List (Vec NodeId Global)) → length lists ≤ i → i ≤ length lists → SortedSoFar fluids first lists i sorted → AreSorted fluids first lists sorted
sorted_last fluids first lists i sorted end within before = record {
  as_long = omega (arith, before.as_long, end, within);
  each = λ k few. before.each k (omega (arith, few, end));
}

-- ---- the place of the first that is not too cool
abbrev pub is_too_cool : List Fluid → ℕ → Option Fraction → NodeId → Bool
is_too_cool fluids first low n = not (is_within low None (temperature_of fluids first n.0))

pub cool_parted : (fluids : List Fluid) (first : ℕ) (low : Option Fraction) (nodes : List NodeId) → AreCoolestFirst fluids first nodes → IsPartitionedBy (is_too_cool fluids first low) nodes
cool_parted fluids first low nodes order i j d below within cool =
    let small : i < length nodes = omega (arith, below, within) in
    let less : is_cooler (temperature_of fluids first (get_or nodes j d).0) (temperature_of fluids first (get_or nodes i d).0) ≡ false =
    ap (λ m. is_cooler (temperature_of fluids first (get_or nodes j d).0) (temperature_of fluids first m)) (sym (number_of nodes i d small))
    ∙ ap (λ m. is_cooler (temperature_of fluids first m) (temperature_of fluids first (number_at nodes i))) (sym (number_of nodes j d within)) ∙ order i j below within in
    ap not (still_cool low (temperature_of fluids first (get_or nodes i d).0) (temperature_of fluids first (get_or nodes j d).0) less (out (is_within low None (temperature_of fluids first (get_or nodes j d).0)) cool))
  where
    out : (b : Bool) → not b ≡ true → b ≡ false
    out true is = sym is
    out false is = refl

pub cool_before : (fluids : List Fluid) (first : ℕ) (low : Option Fraction) (nodes : List NodeId) (k : ℕ) → k ≤ length nodes → IsPartitionPoint (λ n. is_too_cool fluids first low n ≡ true) (λ n. is_too_cool fluids first low n ≡ false) nodes k
    → (i : ℕ) → i < k → is_within low None (temperature_of fluids first (number_at nodes i)) ≡ false
cool_before fluids first low nodes k few point i below =
    ap (λ m. is_within low None (temperature_of fluids first m)) (number_of nodes i (node 0) (omega (arith, below, few))) ∙ out (is_within low None (temperature_of fluids first (get_or nodes i (node 0)).0)) (point.0 i (node 0) (omega arith) below)
  where
    out : (b : Bool) → not b ≡ true → b ≡ false
    out true is = sym is
    out false is = refl

pub warm_from : (fluids : List Fluid) (first : ℕ) (low : Option Fraction) (nodes : List NodeId) (k : ℕ) → IsPartitionPoint (λ n. is_too_cool fluids first low n ≡ true) (λ n. is_too_cool fluids first low n ≡ false) nodes k
    → (i : ℕ) → k ≤ i → i < length nodes → is_within low None (temperature_of fluids first (number_at nodes i)) ≡ true
warm_from fluids first low nodes k point i from within =
    ap (λ m. is_within low None (temperature_of fluids first m)) (number_of nodes i (node 0) within) ∙ out (is_within low None (temperature_of fluids first (get_or nodes i (node 0)).0)) (point.1 i (node 0) from within)
  where
    out : (b : Bool) → not b ≡ false → b ≡ true
    out true is = refl
    out false is = sym is

-- ---- the nodes within bounds, one by one
none_passes : (p : ℕ → Bool) (nodes : List NodeId) → ((j : ℕ) → j < length nodes → p (number_at nodes j) ≡ false) → filter (λ n. p n.0) nodes ≡ []
none_passes p [] fails = refl
none_passes p (n ∷ nodes) fails =
    ap (λ b. if b then n ∷ filter (λ m. p m.0) nodes else filter (λ m. p m.0) nodes) (fails 0 (omega arith)) ∙ none_passes p nodes (λ j within. fails (suc j) (omega (arith, within)))

none_left : (p : ℕ → Bool) (nodes : List NodeId) (i : ℕ) → ((j : ℕ) → i ≤ j → j < length nodes → p (number_at nodes j) ≡ false) → filter (λ n. p n.0) (drop i nodes) ≡ []
none_left p [] i fails = ap (filter (λ n. p n.0)) (drop_all [] i (omega arith))
none_left p (n ∷ nodes) zero fails = none_passes p (n ∷ nodes) (λ j within. fails j (omega arith) within)
none_left p (n ∷ nodes) (suc i) fails = none_left p nodes i (λ j from within. fails (suc j) (omega (arith, from)) (omega (arith, within)))

none_before : (p : ℕ → Bool) (nodes : List NodeId) (i : ℕ) → ((j : ℕ) → j < i → j < length nodes → p (number_at nodes j) ≡ false) → filter (λ n. p n.0) (drop i nodes) ≡ filter (λ n. p n.0) nodes
none_before p [] i fails = ap (filter (λ n. p n.0)) (drop_all [] i (omega arith))
none_before p (n ∷ nodes) zero fails = refl
none_before p (n ∷ nodes) (suc i) fails =
    none_before p nodes i (λ j before within. fails (suc j) (omega (arith, before)) (omega (arith, within)))
    ∙ ap (λ b. if b then n ∷ filter (λ m. p m.0) nodes else filter (λ m. p m.0) nodes) (sym (fails 0 (omega arith) (omega arith)))

-- the numbers so far, with those that are to come
pub record WithinSoFar (p : ℕ → Bool) (nodes : List NodeId) (from i : ℕ) (numbers : List ℕ) : Type 0 where
  pub past : from ≤ i
  pub joined : numbers ++ map (λ n. n.0) (filter (λ n. p n.0) (drop i nodes)) ≡ map (λ n. n.0) (filter (λ n. p n.0) nodes)

pub within_first : (fluids : List Fluid) (first : ℕ) (low high : Option Fraction) (nodes : List NodeId) (from : ℕ) (numbers : List ℕ) → numbers ≡ [] → from ≤ length nodes
    → ((i : ℕ) → i < from → is_within low None (temperature_of fluids first (number_at nodes i)) ≡ false) → WithinSoFar (λ n. is_within low high (temperature_of fluids first n)) nodes from from numbers
within_first fluids first low high nodes from numbers empty few cool = record {
  past = omega arith;
  joined = ap (λ l. l ++ map (λ n. n.0) (filter (λ n. is_within low high (temperature_of fluids first n.0)) (drop from nodes))) empty
      ∙ ap (map (λ n. n.0)) (none_before (λ n. is_within low high (temperature_of fluids first n)) nodes from (λ j before _. too_cool low high (temperature_of fluids first (number_at nodes j)) (cool j before)));
}

pub within_more : (p : ℕ → Bool) (nodes : List NodeId) (from i : ℕ) (n : NodeId) (numbers new : List ℕ) → i < length nodes → n ≡ get_or nodes i n → p n.0 ≡ true → new ≡ numbers ++ n.0 ∷ [] → WithinSoFar p nodes from i numbers → WithinSoFar p nodes from (i + 1) new
within_more p nodes from i n numbers new within is passes put before = record {
  past = omega (arith, before.past);
  joined = ap (λ l. l ++ map (λ m. m.0) (filter (λ m. p m.0) (drop (i + 1) nodes))) put ∙ append_assoc numbers (n.0 ∷ []) (map (λ m. m.0) (filter (λ m. p m.0) (drop (i + 1) nodes)))
      ∙ ap (λ b. numbers ++ map (λ m. m.0) (if b then n ∷ filter (λ m. p m.0) (drop (i + 1) nodes) else filter (λ m. p m.0) (drop (i + 1) nodes))) (sym passes)
      ∙ ap (λ l. numbers ++ map (λ m. m.0) (filter (λ m. p m.0) l)) (sym (next nodes i n within is)) ∙ before.joined;
}

pub within_last : (p : ℕ → Bool) (nodes : List NodeId) (from i : ℕ) (numbers : List ℕ) → length nodes ≤ i → WithinSoFar p nodes from i numbers → numbers ≡ map (λ n. n.0) (filter (λ n. p n.0) nodes)
within_last p nodes from i numbers end before =
    sym (append-nil numbers) ∙ ap (λ l. numbers ++ map (λ n. n.0) (filter (λ n. p n.0) l)) (sym (drop_all nodes i end)) ∙ before.joined

-- behind the first that is too warm there are none
pub within_stop : (fluids : List Fluid) (first : ℕ) (low high : Option Fraction) (nodes : List NodeId) (from i : ℕ) (n : NodeId) (numbers : List ℕ) → AreCoolestFirst fluids first nodes → i < length nodes → n ≡ get_or nodes i n
    → ((j : ℕ) → from ≤ j → j < length nodes → is_within low None (temperature_of fluids first (number_at nodes j)) ≡ true) → is_within low high (temperature_of fluids first n.0) ≡ false → WithinSoFar (λ n. is_within low high (temperature_of fluids first n)) nodes from i numbers
    → numbers ≡ map (λ n. n.0) (filter (λ n. is_within low high (temperature_of fluids first n.0)) nodes)
within_stop fluids first low high nodes from i n numbers order within is warm out before =
    let here : is_within low high (temperature_of fluids first (number_at nodes i)) ≡ false = ap (λ m. is_within low high (temperature_of fluids first m)) (number_is nodes i n within is) ∙ out in
    sym (append-nil numbers)
    ∙ ap (λ l. numbers ++ map (λ n. n.0) l) (sym (none_left (λ n. is_within low high (temperature_of fluids first n)) nodes i
    (λ j behind inside. still_warm low high (temperature_of fluids first (number_at nodes i)) (temperature_of fluids first (number_at nodes j)) (order i j behind inside) (warm i before.past within) here)))
    ∙ before.joined

-- ---- the variants within bounds
fit_at : (base : ℕ) (low high : Option Fraction) → (found : Option Fluid) → (passes (λ fluid. is_good fluid.of base) found && is_within low high (temperature_in found)) ≡ passes (is_fit_variant base low high) found
fit_at base low high None = refl
fit_at base low high (Some fluid) = refl

pub fits_found : (base first : ℕ) (low high : Option Fraction) (fluids : List Fluid) (variants sorted : List NodeId) (numbers : List ℕ) (nodes : List NodeId) → variants ≡ those (λ fluid. is_good fluid.of base) first fluids → IsCoolestFirst fluids first variants sorted
    → numbers ≡ map (λ n. n.0) (filter (λ n. is_within low high (temperature_of fluids first n.0)) sorted) → HoldInOrder numbers nodes → nodes ≡ those (is_fit_variant base low high) first fluids
unfolding temperature_of
fits_found base first low high fluids variants sorted numbers nodes are order kept held =
    in_order_those (is_fit_variant base low high) first fluids numbers nodes held (λ k.
    ap (λ l. is_among l k) kept ∙ has_filtered (λ n. is_within low high (temperature_of fluids first n)) k sorted
    ∙ ap (λ b. b && is_within low high (temperature_of fluids first k)) (order.same k ∙ ap (λ l. has_node l k) are) ∙ by_place k (nat_lt k first) refl)
  where
    by_place : (k : ℕ) (b : Bool) → nat_lt k first ≡ b → (has_node (those (λ fluid. is_good fluid.of base) first fluids) k && is_within low high (temperature_of fluids first k)) ≡ has_node (those (is_fit_variant base low high) first fluids) k
    by_place k true at =
        let below : k < first = grind (arith, nat_tests, at) in
        ap (λ b. b && is_within low high (temperature_of fluids first k)) (below_those (λ (fluid : Fluid). is_good fluid.of base) fluids first k below) ∙ sym (below_those (is_fit_variant base low high) fluids first k below)
    by_place k false at =
        let place : k ≡ first + (k - first) = grind (arith, nat_tests, at) in
        ap (λ b. b && is_within low high (temperature_of fluids first k)) (at_those (λ (fluid : Fluid). is_good fluid.of base) fluids first (k - first) k place)
        ∙ fit_at base low high (slice_get fluids (k - first)) ∙ sym (at_those (is_fit_variant base low high) fluids first (k - first) k place)

-- the same by an index
pub coolest_for : (g : Game) (index : Index) (good first : ℕ) (fluids : List Fluid) (lists : List (Vec NodeId Global)) (nodes : List NodeId) → IsIndex g index → good < good_count g → fluids ≡ g.fluids → first ≡ 3 + length g.items
    → lists ≡ index.coolest_variants.items → nodes ≡ list_at lists good → AreCoolestFirst fluids first nodes
coolest_for g index good first fluids lists nodes is within fluids_are first_is lists_are are =
    subst (AreCoolestFirst fluids first) (sym (are ∙ ap (λ l. list_at l good) lists_are))
    (subst (λ (n : ℕ). AreCoolestFirst fluids n (list_at index.coolest_variants.items good)) (sym first_is)
    (subst (λ (f : List Fluid). AreCoolestFirst f (3 + length g.items) (list_at index.coolest_variants.items good)) (sym fluids_are)
    (is.coolest_variants.each good (subst (λ (n : ℕ). good < n) (sym is.variants.as_long) within)).order))

pub fits_by_index : (g : Game) (index : Index) (good first : ℕ) (low high : Option Fraction) (fluids : List Fluid) (lists : List (Vec NodeId Global)) (nodes fits : List NodeId) (numbers : List ℕ) → IsIndex g index → good < good_count g
    → fluids ≡ g.fluids → first ≡ 3 + length g.items → lists ≡ index.coolest_variants.items → nodes ≡ list_at lists good
    → numbers ≡ map (λ n. n.0) (filter (λ n. is_within low high (temperature_of fluids first n.0)) nodes) → HoldInOrder numbers fits → fits ≡ those (is_fit_variant good low high) (3 + length g.items) g.fluids
unfolding variants
fits_by_index g index good first low high fluids lists nodes fits numbers is within fluids_are first_is lists_are are kept held =
    let small : good < length index.variants.items = subst (λ (n : ℕ). good < n) (sym is.variants.as_long) within in
    fits_found good (3 + length g.items) low high g.fluids (list_at index.variants.items good) (list_at index.coolest_variants.items good) numbers fits (is.variants.each good within) (is.coolest_variants.each good small)
    (kept
    ∙ ap (λ f. map (λ n. n.0) (filter (λ n. is_within low high (temperature_of f first n.0)) nodes)) fluids_are
    ∙ ap (λ m. map (λ n. n.0) (filter (λ n. is_within low high (temperature_of g.fluids m n.0)) nodes)) first_is
    ∙ ap (λ l. map (λ n. n.0) (filter (λ n. is_within low high (temperature_of g.fluids (3 + length g.items) n.0)) l)) (are ∙ ap (λ l. list_at l good) lists_are))
    held
