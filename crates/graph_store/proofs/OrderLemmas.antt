-- Lists of nodes in order are known by their members.
use Rattle.std.proofs.Common.{◌≡◌, ◌∙◌, ◌<◌, ◌≤◌, ◌+◌, ℕ, zero, suc, Bool, true, false, List, [], ◌∷◌, length, map, refl, ap, sym, subst, arith}
use Rattle.std.specs.Prelude.{◌==◌, ◌||◌, if◌then◌else◌, slice_index}
use Rattle.std.specs.List.Sorted.{IsStrictlyIncreasing}
use Rattle.plan_base.specs.declared.ids.NodeId.{NodeId}
use Rattle.graph_store.specs.Members.{node, those}
use Rattle.graph_store.specs.Lists.{is_among, HoldInOrder}
use Rattle.graph_store.proofs.NumbersLemmas.{Rising, behind, rising, rising_above}

abbrev pub numbers_of : List NodeId → List ℕ
numbers_of nodes = map (λ n. n.0) nodes

-- rising lists with the same numbers are the same
first_among : (k : ℕ) (ks : List ℕ) → is_among (k ∷ ks) k ≡ true
first_among k ks = let same : (k == k) ≡ true = grind arith in ap (λ b. b || is_among ks k) same

least_same : (low x y : ℕ) (xs ys : List ℕ) → Rising low (x ∷ xs) → Rising low (y ∷ ys) → is_among (x ∷ xs) x ≡ is_among (y ∷ ys) x → x < y → ⊥
unfolding Rising
least_same low x y xs ys rx ry same less =
    let none : is_among (y ∷ ys) x ≡ false = rising_above y x (y ∷ ys) (omega arith, ry.1) less in
    let impossible : true ≡ false = sym (first_among x xs) ∙ same ∙ none in
    cc

same_behind : (x y k : ℕ) (xs ys : List ℕ) → x ≡ y → Rising (x + 1) xs → Rising (x + 1) ys → is_among (x ∷ xs) k ≡ is_among (y ∷ ys) k → (b : Bool) → (x == k) ≡ b → is_among xs k ≡ is_among ys k
same_behind x y k xs ys at rx ry same true is =
    let below : k < x + 1 = grind (arith, is) in
    rising_above (x + 1) k xs rx below ∙ sym (rising_above (x + 1) k ys ry below)
same_behind x y k xs ys at rx ry same false is =
    let other : (y == k) ≡ false = ap (λ n. n == k) (sym at) ∙ is in
    ap (λ b. b || is_among xs k) (sym is) ∙ same ∙ ap (λ b. b || is_among ys k) other

pub same_rising : (low : ℕ) → (xs ys : List ℕ) → Rising low xs → Rising low ys → ((k : ℕ) → is_among xs k ≡ is_among ys k) → xs ≡ ys
unfolding Rising
same_rising low [] [] rx ry same = refl
same_rising low [] (y ∷ ys) rx ry same = absurd (let impossible : false ≡ true = same y ∙ first_among y ys in cc)
same_rising low (x ∷ xs) [] rx ry same = absurd (let impossible : true ≡ false = sym (first_among x xs) ∙ same x in cc)
same_rising low (x ∷ xs) (y ∷ ys) rx ry same =
    let not_less : x < y → ⊥ = least_same low x y xs ys rx ry (same x) in
    let not_more : y < x → ⊥ = least_same low y x ys xs ry rx (sym (same y)) in
    let at : x ≡ y = omega (arith, not_less, not_more) in
    let rest : Rising (x + 1) ys = subst (λ k. Rising (k + 1) ys) (sym at) ry.1 in
    let others : (k : ℕ) → is_among xs k ≡ is_among ys k = λ k. same_behind x y k xs ys at rx.1 rest (same k) (x == k) refl in
    ap (λ k. k ∷ xs) at ∙ ap (λ l. y ∷ l) (same_rising (x + 1) xs ys rx.1 rest others)

pub rising_lower : (low lower : ℕ) → lower ≤ low → (ks : List ℕ) → Rising low ks → Rising lower ks
unfolding Rising
rising_lower low lower less [] rise = tt
rising_lower low lower less (k ∷ ks) rise = (omega (arith, less, rise.0), rise.1)

rise_where : (b : Bool) (first : ℕ) (rest : List NodeId) → Rising (first + 1) (numbers_of rest) → Rising first (numbers_of (if b then node first ∷ rest else rest))
unfolding Rising
rise_where true first rest rise = (omega arith, rise)
rise_where false first rest rise = rising_lower (first + 1) first (omega arith) (numbers_of rest) rise

pub those_rise : {A : Type 0} (test : A → Bool) → (xs : List A) (first : ℕ) → Rising first (numbers_of (those test first xs))
unfolding Rising
those_rise test [] first = tt
those_rise test (x ∷ xs) first = rise_where (test x) first (those test (first + 1) xs) (those_rise test xs (first + 1))

pub increasing : (low : ℕ) → (ks : List ℕ) → Rising low ks → (i : ℕ) → i + 1 < length ks → slice_index ks i < slice_index ks (i + 1)
unfolding Rising
increasing low [] rise i within = absurd (omega (arith, within))
increasing low (k ∷ []) rise i within = absurd (omega (arith, within))
increasing low (k ∷ j ∷ ks) rise zero within = omega (arith, rise.1.0)
increasing low (k ∷ j ∷ ks) rise (suc i) within =
    subst (λ n. slice_index (j ∷ ks) i < n) (sym (behind k (j ∷ ks) i)) (increasing (k + 1) (j ∷ ks) rise.1 i (omega (arith, within)))

pub those_rising : {A : Type 0} (test : A → Bool) → (xs : List A) (first : ℕ) → IsStrictlyIncreasing (numbers_of (those test first xs))
those_rising test xs first = increasing first (numbers_of (those test first xs)) (those_rise test xs first)

nodes_same : (xs ys : List NodeId) → numbers_of xs ≡ numbers_of ys → xs ≡ ys
nodes_same xs ys same = sym (back xs) ∙ ap (map node) same ∙ back ys
  where
    back : (zs : List NodeId) → map node (numbers_of zs) ≡ zs
    back [] = refl
    back (z ∷ zs) = ap (λ l. z ∷ l) (back zs)

-- nodes in order with the numbers of those that pass a test are those
pub in_order_those : {A : Type 0} (test : A → Bool) (first : ℕ) (xs : List A) (numbers : List ℕ) (nodes : List NodeId) → HoldInOrder numbers nodes
    → ((k : ℕ) → is_among numbers k ≡ is_among (numbers_of (those test first xs)) k) → nodes ≡ those test first xs
in_order_those test first xs numbers nodes held same =
    nodes_same nodes (those test first xs) (same_rising 0 (numbers_of nodes) (numbers_of (those test first xs)) (rising 0 (numbers_of nodes) (λ _. omega arith) held.rise)
    (rising_lower first 0 (omega arith) (numbers_of (those test first xs)) (those_rise test xs first)) (λ k. held.same k ∙ same k))

-- those that pass one test or another
among_if : (b : Bool) (n k : ℕ) (rest : List NodeId) → is_among (numbers_of (if b then node n ∷ rest else rest)) k ≡ (if b then (n == k) || is_among (numbers_of rest) k else is_among (numbers_of rest) k)
among_if true n k rest = refl
among_if false n k rest = refl

joined : (p q a s t : Bool) → (if p || q then a || (s || t) else (s || t)) ≡ ((if p then a || s else s) || (if q then a || t else t))
joined true true true s t = refl
joined true true false s t = refl
joined true false true s t = refl
joined true false false s t = refl
joined false true true true t = refl
joined false true true false t = refl
joined false true false s t = refl
joined false false a s t = refl

pub among_either : {A : Type 0} (p q : A → Bool) (k : ℕ) → (xs : List A) (first : ℕ)
    → is_among (numbers_of (those (λ x. p x || q x) first xs)) k ≡ (is_among (numbers_of (those p first xs)) k || is_among (numbers_of (those q first xs)) k)
among_either p q k [] first = refl
among_either p q k (x ∷ xs) first =
    among_if (p x || q x) first k (those (λ x. p x || q x) (first + 1) xs)
    ∙ ap (λ r. if p x || q x then (first == k) || r else r) (among_either p q k xs (first + 1))
    ∙ joined (p x) (q x) (first == k) (is_among (numbers_of (those p (first + 1) xs)) k) (is_among (numbers_of (those q (first + 1) xs)) k)
    ∙ ap (λ b. b || (if q x then (first == k) || is_among (numbers_of (those q (first + 1) xs)) k else is_among (numbers_of (those q (first + 1) xs)) k)) (sym (among_if (p x) first k (those p (first + 1) xs)))
    ∙ ap (λ b. is_among (numbers_of (those p first (x ∷ xs))) k || b) (sym (among_if (q x) first k (those q (first + 1) xs)))

-- tests that are the same let the same through
pub those_same : {A : Type 0} (p q : A → Bool) → ((x : A) → p x ≡ q x) → (xs : List A) (first : ℕ) → those p first xs ≡ those q first xs
those_same p q same [] first = refl
those_same p q same (x ∷ xs) first =
    ap (λ b. if b then node first ∷ those p (first + 1) xs else those p (first + 1) xs) (same x) ∙ ap (λ l. if q x then node first ∷ l else l) (those_same p q same xs (first + 1))

-- the nodes of sorted numbers
pub held_in_order : (numbers sorted : List ℕ) (nodes : List NodeId) → IsStrictlyIncreasing sorted → ((k : ℕ) → is_among sorted k ≡ is_among numbers k) → nodes ≡ map node sorted → HoldInOrder numbers nodes
held_in_order numbers sorted nodes rises same are =
    let back : numbers_of nodes ≡ sorted = ap numbers_of are ∙ there sorted in
    record { rise = subst IsStrictlyIncreasing (sym back) rises; same = λ k. ap (λ l. is_among l k) back ∙ same k }
  where
    there : (ks : List ℕ) → numbers_of (map node ks) ≡ ks
    there [] = refl
    there (k ∷ ks) = ap (λ l. k ∷ l) (there ks)
