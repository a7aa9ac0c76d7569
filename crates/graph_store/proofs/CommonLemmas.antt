-- What lists of nodes have in common.
use Rattle.std.proofs.Common.{◌≡◌, ◌≢◌, ◌∙◌, ◌<◌, ◌≤◌, ◌+◌, ◌++◌, ℕ, zero, suc, Bool, true, false, List, [], ◌∷◌, Vec, length, drop, get_or, refl, ap, sym, subst, arith, append_assoc, append-nil}
use Rattle.std.specs.Prelude.{◌==◌, ◌||◌, ◌&&◌, filter, if◌then◌else◌, nat_lt, All}
use Rattle.std.specs.Global.{Global}
use Rattle.std.specs.List.Sorted.{IsStrictlyIncreasing}
use Rattle.std.proofs.lemmas.Bool.Decides.{nat_tests}
use Rattle.std.proofs.lemmas.List.{length-map}
use Rattle.std.proofs.lemmas.List.Kept.{AllPairs-from_increasing, IsStrictlyIncreasing-filter}
use Rattle.std.proofs.lemmas.List.Elements.{All-head, All-tail}
use Rattle.std.proofs.lemmas.Bool.{and_right, or_right}
use Rattle.plan_base.specs.declared.ids.NodeId.{NodeId}
use Rattle.plan_base.proofs.Walks.{next, drop_all}
use Rattle.graph_store.specs.Lists.{has_node, is_among, is_in_all, list_at, number_at, AreCommon, IsPlaceOf, Rise}
use Rattle.graph_store.proofs.OrderLemmas.{numbers_of}

-- ---- the elements that pass
-- the elements that pass, so far, with those that are to come
pub record FilteredSoFar {A : Type 0} (test : A → Bool) (xs : List A) (i : ℕ) (ys : List A) : Type 0 where
  pub joined : ys ++ filter test (drop i xs) ≡ filter test xs

pub filtered_first : {A : Type 0} (test : A → Bool) (xs ys : List A) → ys ≡ [] → FilteredSoFar test xs 0 ys
filtered_first test xs ys empty = record { joined = ap (λ l. l ++ filter test xs) empty }

passed : {A : Type 0} (test : A → Bool) (x : A) (rest ys new : List A) (b : Bool) → test x ≡ b → new ≡ (if b then ys ++ x ∷ [] else ys) → new ++ filter test rest ≡ ys ++ filter test (x ∷ rest)
passed test x rest ys new true is put = ap (λ l. l ++ filter test rest) put ∙ append_assoc ys (x ∷ []) (filter test rest) ∙ ap (λ b. ys ++ (if b then x ∷ filter test rest else filter test rest)) (sym is)
passed test x rest ys new false is put = ap (λ l. l ++ filter test rest) put ∙ ap (λ b. ys ++ (if b then x ∷ filter test rest else filter test rest)) (sym is)

pub filtered_more : {A : Type 0} (test : A → Bool) (xs : List A) (i : ℕ) (x : A) (ys new : List A) (b : Bool) → i < length xs → x ≡ get_or xs i x → test x ≡ b → new ≡ (if b then ys ++ x ∷ [] else ys)
    → FilteredSoFar test xs i ys → FilteredSoFar test xs (i + 1) new
filtered_more test xs i x ys new b within is passes put before = record { joined = passed test x (drop (i + 1) xs) ys new b passes put ∙ ap (λ l. ys ++ filter test l) (sym (next xs i x within is)) ∙ before.joined }

pub filtered_last : {A : Type 0} (test : A → Bool) (xs : List A) (i : ℕ) (ys : List A) → length xs ≤ i → FilteredSoFar test xs i ys → ys ≡ filter test xs
filtered_last test xs i ys end before = sym (append-nil ys) ∙ ap (λ l. ys ++ filter test l) (sym (drop_all xs i end)) ∙ before.joined

-- ---- places in lists that rise
pub number_is : (nodes : List NodeId) (i : ℕ) (n : NodeId) → i < length nodes → n ≡ get_or nodes i n → number_at nodes i ≡ n.0
number_is [] i n within is = absurd (omega (arith, within))
number_is (m ∷ nodes) zero n within is = ap (λ n. n.0) (sym is)
number_is (m ∷ nodes) (suc i) n within is = number_is nodes i n (omega (arith, within)) is

rises : (nodes : List NodeId) → Rise nodes → (i j : ℕ) → i < j → j < length nodes → number_at nodes i < number_at nodes j
rises nodes rise i j before within = AllPairs-from_increasing (numbers_of nodes) rise i j 0 before (omega (arith, within, length-map nodes (λ n. n.0)))

has_none : (k : ℕ) → (nodes : List NodeId) → ((i : ℕ) → i < length nodes → number_at nodes i ≢ k) → has_node nodes k ≡ false
has_none k [] none = refl
has_none k (n ∷ nodes) none =
    let first : n.0 ≢ k = none 0 (omega arith) in
    let other : (n.0 == k) ≡ false = grind (arith, first) in
    ap (λ b. b || has_node nodes k) other ∙ has_none k nodes (λ i within. none (suc i) (omega (arith, within)))

pub has_one : (k : ℕ) → (nodes : List NodeId) (i : ℕ) → i < length nodes → number_at nodes i ≡ k → has_node nodes k ≡ true
has_one k [] i within is = absurd (omega (arith, within))
has_one k (n ∷ nodes) zero within is = let same : (n.0 == k) ≡ true = grind (arith, is) in ap (λ b. b || has_node nodes k) same
has_one k (n ∷ nodes) (suc i) within is = or_right (n.0 == k) (has_node nodes k) (has_one k nodes i (omega (arith, within)) is)

-- a node that isn't at its place is nowhere
pub none_there : (nodes : List NodeId) (k place : ℕ) → IsPlaceOf k nodes place → length nodes ≤ place → false ≡ has_node nodes k
none_there nodes k place at past = sym (has_none k nodes (λ i within is. let below = at.below i (omega (arith, within, past)) in omega (arith, below, is)))

pub one_there : (nodes : List NodeId) (k place m : ℕ) → Rise nodes → IsPlaceOf k nodes place → place < length nodes → number_at nodes place ≡ m → (b : Bool) → (m == k) ≡ b → b ≡ has_node nodes k
one_there nodes k place m rise at within there true is =
    let same : m ≡ k = grind (arith, is) in
    sym (has_one k nodes place within (there ∙ same))
one_there nodes k place m rise at within there false is =
    let other : m ≢ k = λ same. grind (arith, is, same) in
    let above : k ≤ m = subst (λ j. k ≤ j) there (at.from place (omega arith) within) in
    sym (has_none k nodes (λ i inside same. no_other i inside same other above))
  where
    no_other : (i : ℕ) → i < length nodes → number_at nodes i ≡ k → m ≢ k → k ≤ m → ⊥
    no_other i inside same other above =
        let before : i < place → number_at nodes i < k = at.below i in
        let behind : place < i → number_at nodes place < number_at nodes i = λ later. rises nodes rise place i later inside in
        let here : i ≡ place → number_at nodes place ≡ k = λ is. ap (number_at nodes) (sym is) ∙ same in
        grind (arith, before, behind, here, same, there, other, above)

-- what is searched for is between two places
pub record Sought (k : ℕ) (nodes : List NodeId) (low high : ℕ) : Type 0 where
  pub order : low ≤ high
  pub within : high ≤ length nodes
  pub below : (i : ℕ) → i < low → number_at nodes i < k
  pub from : (i : ℕ) → high ≤ i → i < length nodes → k ≤ number_at nodes i

pub sought_first : (k : ℕ) (nodes : List NodeId) (low : ℕ) → low ≤ length nodes → ((i : ℕ) → i < low → number_at nodes i < k) → Sought k nodes low (length nodes)
sought_first k nodes low within below = record { order = within; within = omega arith; below = below; from = λ i past inside. absurd (omega (arith, past, inside)) }

pub sought_above : (k : ℕ) (nodes : List NodeId) (low high probe : ℕ) → Rise nodes → low ≤ probe → probe < high → nat_lt (number_at nodes probe) k ≡ true → Sought k nodes low high → Sought k nodes (probe + 1) high
sought_above k nodes low high probe rise from before is sought =
    let less : number_at nodes probe < k = grind (arith, nat_tests, is) in
    record {
      order = omega (arith, before);
      within = sought.within;
      below = λ i inside. lower i inside less;
      from = sought.from;
    }
  where
    lower : (i : ℕ) → i < probe + 1 → number_at nodes probe < k → number_at nodes i < k
    lower i inside less =
        let earlier : i < probe → number_at nodes i < number_at nodes probe = λ first. rises nodes rise i probe first (omega (arith, before, sought.within)) in
        let here : i ≡ probe → number_at nodes i ≡ number_at nodes probe = λ is. ap (number_at nodes) is in
        grind (arith, inside, earlier, here, less)

pub sought_below : (k : ℕ) (nodes : List NodeId) (low high probe : ℕ) → Rise nodes → low ≤ probe → probe < high → nat_lt (number_at nodes probe) k ≡ false → Sought k nodes low high → Sought k nodes low probe
sought_below k nodes low high probe rise from before is sought =
    let more : k ≤ number_at nodes probe = grind (arith, nat_tests, is) in
    record {
      order = from;
      within = omega (arith, before, sought.within);
      below = sought.below;
      from = λ i past inside. higher i past inside more;
    }
  where
    higher : (i : ℕ) → probe ≤ i → i < length nodes → k ≤ number_at nodes probe → k ≤ number_at nodes i
    higher i past inside more =
        let later : probe < i → number_at nodes probe < number_at nodes i = λ behind. rises nodes rise probe i behind inside in
        let here : i ≡ probe → number_at nodes i ≡ number_at nodes probe = λ is. ap (number_at nodes) is in
        grind (arith, past, later, here, more)

pub sought_last : (k : ℕ) (nodes : List NodeId) (low high : ℕ) → high ≤ low → Sought k nodes low high → IsPlaceOf k nodes low
sought_last k nodes low high end sought = record {
  within = omega (arith, sought.order, sought.within);
  below = sought.below;
  from = λ i past inside. sought.from i (omega (arith, end, past)) inside;
}

-- ---- the nodes of a list that are in another
pub record Met (nodes others : List NodeId) (i place : ℕ) (kept : List NodeId) : Type 0 where
  pub filtered : FilteredSoFar (λ n. has_node others n.0) nodes i kept
  pub within : place ≤ length others
  pub behind : i < length nodes → (j : ℕ) → j < place → number_at others j < number_at nodes i

pub met_more : (nodes others : List NodeId) (i place next : ℕ) (x : NodeId) (kept new : List NodeId) (b : Bool) → Rise nodes → i < length nodes → x ≡ get_or nodes i x → IsPlaceOf x.0 others next → b ≡ has_node others x.0
    → new ≡ (if b then kept ++ x ∷ [] else kept) → Met nodes others i place kept → Met nodes others (i + 1) next new
met_more nodes others i place next x kept new b rise within is at passes put before = record {
  filtered = filtered_more (λ n. has_node others n.0) nodes i x kept new b within is (sym passes) put before.filtered;
  within = at.within;
  behind = λ inside j earlier.
      let here = at.below j earlier in
      let later = rises nodes rise i (i + 1) (omega arith) inside in
      omega (arith, here, later, number_is nodes i x within is);
}

-- ---- the nodes of a list that are in all of some
twice_first : (p q : NodeId → Bool) (n : NodeId) (rest rest' : List NodeId) → filter q rest ≡ rest' → (b : Bool) → filter q (if b then n ∷ rest else rest) ≡ (if b && q n then n ∷ rest' else rest')
twice_first p q n rest rest' more true = ap (λ l. if q n then n ∷ l else l) more
twice_first p q n rest rest' more false = more

filter_twice : (p q : NodeId → Bool) (nodes : List NodeId) → filter q (filter p nodes) ≡ filter (λ n. p n && q n) nodes
filter_twice p q [] = refl
filter_twice p q (n ∷ nodes) = twice_first p q n (filter p nodes) (filter (λ n. p n && q n) nodes) (filter_twice p q nodes) (p n)

filter_all : (nodes : List NodeId) → filter (λ _. true) nodes ≡ nodes
filter_all [] = refl
filter_all (n ∷ nodes) = ap (λ l. n ∷ l) (filter_all nodes)

numbers_first : (n : NodeId) (rest : List NodeId) (rest' : List ℕ) → numbers_of rest ≡ rest' → (b : Bool) → numbers_of (if b then n ∷ rest else rest) ≡ (if b then n.0 ∷ rest' else rest')
numbers_first n rest rest' more true = ap (λ l. n.0 ∷ l) more
numbers_first n rest rest' more false = more

numbers_filter : (p : ℕ → Bool) (nodes : List NodeId) → numbers_of (filter (λ n. p n.0) nodes) ≡ filter p (numbers_of nodes)
numbers_filter p [] = refl
numbers_filter p (n ∷ nodes) = numbers_first n (filter (λ n. p n.0) nodes) (filter p (numbers_of nodes)) (numbers_filter p nodes) (p n.0)

pub filter_rises : (p : ℕ → Bool) (nodes : List NodeId) → Rise nodes → Rise (filter (λ n. p n.0) nodes)
filter_rises p nodes rise = subst IsStrictlyIncreasing (sym (numbers_filter p nodes)) (IsStrictlyIncreasing-filter p (numbers_of nodes) rise)

-- what is kept so far, with the lists that are to come
pub record KeptSoFar (lists : List (Vec NodeId Global)) (numbers : List ℕ) (nodes : List NodeId) (i : ℕ) (kept : List NodeId) : Type 0 where
  pub rise : Rise kept
  pub rest : filter (λ n. is_in_all lists (drop i numbers) n.0) kept ≡ filter (λ n. is_in_all lists numbers n.0) nodes

pub kept_first : (lists : List (Vec NodeId Global)) (numbers : List ℕ) (nodes : List NodeId) → Rise nodes → KeptSoFar lists numbers nodes 0 nodes
kept_first lists numbers nodes rise = record { rise = rise; rest = refl }

pub kept_more : (lists : List (Vec NodeId Global)) (numbers : List ℕ) (nodes : List NodeId) (i x : ℕ) (others kept new : List NodeId) → i < length numbers → x ≡ get_or numbers i x → others ≡ list_at lists x
    → new ≡ filter (λ n. has_node others n.0) kept → KeptSoFar lists numbers nodes i kept → KeptSoFar lists numbers nodes (i + 1) new
kept_more lists numbers nodes i x others kept new within is list put before = record {
  rise = subst Rise (sym put) (filter_rises (has_node others) kept before.rise);
  rest =
      ap (filter (λ n. is_in_all lists (drop (i + 1) numbers) n.0)) (put ∙ ap (λ l. filter (λ n. has_node l n.0) kept) list)
      ∙ filter_twice (λ n. has_node (list_at lists x) n.0) (λ n. is_in_all lists (drop (i + 1) numbers) n.0) kept
      ∙ ap (λ l. filter (λ n. is_in_all lists l n.0) kept) (sym (next numbers i x within is)) ∙ before.rest;
}

pub kept_last : (lists : List (Vec NodeId Global)) (numbers : List ℕ) (nodes : List NodeId) (i : ℕ) (kept : List NodeId) → length numbers ≤ i → KeptSoFar lists numbers nodes i kept → kept ≡ filter (λ n. is_in_all lists numbers n.0) nodes
kept_last lists numbers nodes i kept end before = sym (filter_all kept) ∙ ap (λ l. filter (λ n. is_in_all lists l n.0) kept) (sym (drop_all numbers i end)) ∙ before.rest

-- those of one of the lists that are in all are the common ones
has_first : (p : ℕ → Bool) (k : ℕ) (n : NodeId) (nodes rest : List NodeId) → has_node rest k ≡ (has_node nodes k && p k) → (b : Bool) → p n.0 ≡ b → (same : Bool) → (n.0 == k) ≡ same
    → has_node (if b then n ∷ rest else rest) k ≡ ((same || has_node nodes k) && p k)
has_first p k n nodes rest more true passes true is = let at : n.0 ≡ k = grind (arith, is) in ap (λ b. b || has_node rest k) is ∙ sym passes ∙ ap p at
has_first p k n nodes rest more true passes false is = ap (λ b. b || has_node rest k) is ∙ more
has_first p k n nodes rest more false passes true is =
    let at : n.0 ≡ k = grind (arith, is) in
    let fails : p k ≡ false = ap p (sym at) ∙ passes in
    more ∙ ap (λ b. has_node nodes k && b) fails ∙ and_right (has_node nodes k) false refl ∙ sym fails
has_first p k n nodes rest more false passes false is = more

pub has_filtered : (p : ℕ → Bool) (k : ℕ) (nodes : List NodeId) → has_node (filter (λ n. p n.0) nodes) k ≡ (has_node nodes k && p k)
has_filtered p k [] = refl
has_filtered p k (n ∷ nodes) = has_first p k n nodes (filter (λ n. p n.0) nodes) (has_filtered p k nodes) (p n.0) refl (n.0 == k) refl

pub and_twice : (a b : Bool) → (a && (a && b)) ≡ (a && b)
and_twice true b = refl
and_twice false b = refl

there : (a b c : Bool) → (a && c) ≡ c → (a && (b && c)) ≡ (b && c)
there true b c is = refl
there false true c is = is
there false false c is = refl

first_or_later : (lists : List (Vec NodeId Global)) (first k j : ℕ) (numbers : List ℕ) → (is_among numbers first ≡ true → (has_node (list_at lists first) k && is_in_all lists numbers k) ≡ is_in_all lists numbers k)
    → (b : Bool) → (j == first) ≡ b → (b || is_among numbers first) ≡ true → (has_node (list_at lists first) k && is_in_all lists (j ∷ numbers) k) ≡ is_in_all lists (j ∷ numbers) k
first_or_later lists first k j numbers more true is among =
    let at : j ≡ first = grind (arith, is) in
    ap (λ m. has_node (list_at lists m) k && is_in_all lists (j ∷ numbers) k) (sym at) ∙ and_twice (has_node (list_at lists j) k) (is_in_all lists numbers k)
first_or_later lists first k j numbers more false is among = there (has_node (list_at lists first) k) (has_node (list_at lists j) k) (is_in_all lists numbers k) (more among)

in_first : (lists : List (Vec NodeId Global)) (first k : ℕ) (numbers : List ℕ) → is_among numbers first ≡ true → (has_node (list_at lists first) k && is_in_all lists numbers k) ≡ is_in_all lists numbers k
in_first lists first k [] among = absurd (cc)
in_first lists first k (j ∷ numbers) among = first_or_later lists first k j numbers (in_first lists first k numbers) (j == first) refl among

pub are_common : (lists : List (Vec NodeId Global)) (first : ℕ) (numbers : List ℕ) (nodes kept : List NodeId) → is_among numbers first ≡ true → Rise nodes → nodes ≡ list_at lists first → kept ≡ filter (λ n. is_in_all lists numbers n.0) nodes
    → AreCommon lists numbers kept
are_common lists first numbers nodes kept among rise from are = record {
  rise = subst Rise (sym are) (filter_rises (is_in_all lists numbers) nodes rise);
  same = λ k. ap (λ l. has_node l k) are ∙ has_filtered (is_in_all lists numbers) k nodes ∙ ap (λ l. has_node l k && is_in_all lists numbers k) from ∙ in_first lists first k numbers among;
}

-- a number among these is below what these are below
below_first : (count k j : ℕ) (numbers : List ℕ) → j < count → (is_among numbers k ≡ true → k < count) → (b : Bool) → (j == k) ≡ b → (b || is_among numbers k) ≡ true → k < count
below_first count k j numbers first more true is among = grind (arith, is, first)
below_first count k j numbers first more false is among = more among

pub among_below : (count k : ℕ) (numbers : List ℕ) → All (λ j. j < count) numbers → is_among numbers k ≡ true → k < count
among_below count k [] below among = absurd (cc)
among_below count k (j ∷ numbers) below among =
    below_first count k j numbers (All-head (λ j. j < count) j numbers below) (among_below count k numbers (All-tail (λ j. j < count) j numbers below)) (j == k) refl among
