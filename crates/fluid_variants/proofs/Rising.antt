-- The temperatures of a fluid rise, and each at which it is made is among them.
use Rattle.std.proofs.Common.{◌≡◌, ◌∙◌, ◌<◌, ◌≤◌, ◌+◌, ◌⊎◌, ℕ, zero, suc, Bool, true, false, List, [], ◌∷◌, length, get_or, refl, sym, ap, subst, arith, inl, inr, eq-eqb}
use Rattle.std.specs.Prelude.{◌==◌, All, Some, ℤ, pos, ◌*ℤ◌, ◌<ℤ◌, ◌≤ℤ◌, int_lt, if◌then◌else◌, slice_get}
use Rattle.std.specs.List.{prefix_len}
use Rattle.std.specs.List.Sorted.{IsPartitionPoint, IsPartitionedBy}
use Rattle.std.proofs.lemmas.Bool.{cases_lt}
use Rattle.std.proofs.lemmas.Int.{ints}
use Rattle.std.proofs.lemmas.List.Elements.{All-nil, All-cons, All-head, All-tail, All-weaker}
use Rattle.std.proofs.lemmas.List.FromFn.{get_or-map-range_with_len, length-map-range_with_len}
use Rattle.std.proofs.lemmas.Option.{get_or_from_slice_get, slice_get_within}
use Rattle.fractions.specs.Fraction.{Fraction, ◌≤ʳ◌, ◌<ʳ◌}
use Rattle.fractions.proofs.Order.{<ʳ_not_≤ʳ, ≤ʳ_trans, <ʳ-≤ʳ}
use Rattle.game_types.specs.Temperatures.{is_cooler}
use Rattle.game_types.specs.declared.games.Game.{Game}
use Rattle.fluid_variants.specs.declared.made.Made.{Made}
use Rattle.fluid_variants.specs.Temperatures.{IsRising, all_made, temperature_lists, temperatures, with_temperature}

-- ---- the order of temperatures
less_tells : (a b : ℤ) → int_lt a b ≡ true → a <ℤ b
less_tells a b is = grind (arith, ints)

not_less_tells : (a b : ℤ) → int_lt a b ≡ false → b ≤ℤ a
not_less_tells a b is = grind (arith, ints)

not_less_test : (a b : ℤ) → b ≤ℤ a → int_lt a b ≡ false
not_less_test a b is = grind (arith, ints)

pub lower : (x y : Fraction) → is_cooler x y ≡ true → x <ʳ y
lower x y is = record { cross = less_tells (x.num *ℤ pos y.den) (y.num *ℤ pos x.den) is }

pub not_lower : (x y : Fraction) → is_cooler x y ≡ false → y ≤ʳ x
not_lower x y is = record { cross = not_less_tells (x.num *ℤ pos y.den) (y.num *ℤ pos x.den) is }

itself : (a : ℤ) → a ≤ℤ a
itself a = omega (arith, ints)

pub not_cooler_itself : (x : Fraction) → is_cooler x x ≡ false
not_cooler_itself x = not_less_test (x.num *ℤ pos x.den) (x.num *ℤ pos x.den) (itself (x.num *ℤ pos x.den))

pub cooler_trans : (x y z : Fraction) → is_cooler x y ≡ true → is_cooler y z ≡ true → is_cooler x z ≡ true
cooler_trans x y z xy yz = by_test (is_cooler x z) refl
  where
    by_test : (b : Bool) → is_cooler x z ≡ b → b ≡ true
    by_test true is = refl
    by_test false is = absurd (<ʳ_not_≤ʳ y z (lower y z yz) (≤ʳ_trans z x y (not_lower x z is) (<ʳ-≤ʳ x y (lower x y xy))))

-- ---- rising lists
all_with : (P : Fraction → Type 0) (at : Fraction) → (list : List Fraction) → P at → All P list → All P (with_temperature at list)
unfolding with_temperature
all_with P at [] here all = All-cons P at [] here all
all_with P at (other ∷ others) here all = by_tests (is_cooler other at) (is_cooler at other) (all_with P at others here (All-tail P other others all))
  where
    by_tests : (b c : Bool) → All P (with_temperature at others) → All P (if b then other ∷ with_temperature at others else if c then at ∷ other ∷ others else other ∷ others)
    by_tests true c rest = All-cons P other (with_temperature at others) (All-head P other others all) rest
    by_tests false true rest = All-cons P at (other ∷ others) here all
    by_tests false false rest = all

pub still_rising : (at : Fraction) → (list : List Fraction) → IsRising list → IsRising (with_temperature at list)
unfolding with_temperature
still_rising at [] rising = (All-nil (λ (other : Fraction). is_cooler at other ≡ true), tt)
still_rising at (other ∷ others) rising = by_tests (is_cooler other at) (is_cooler at other) refl refl (still_rising at others rising.1)
  where
    by_tests : (b c : Bool) → is_cooler other at ≡ b → is_cooler at other ≡ c → IsRising (with_temperature at others) → IsRising (if b then other ∷ with_temperature at others else if c then at ∷ other ∷ others else other ∷ others)
    by_tests true c below above rest = (all_with (λ x. is_cooler other x ≡ true) at others below rising.0, rest)
    by_tests false true below above rest =
        (All-cons (λ x. is_cooler at x ≡ true) other others above (All-weaker (λ x. is_cooler other x ≡ true) (λ x. is_cooler at x ≡ true) (λ x is. cooler_trans at other x above is) others rising.0), rising)
    by_tests false false below above rest = rising

pub temperatures_rise : (good : ℕ) (found : List Fraction) → (all : List Made) → IsRising found → IsRising (temperatures good found all)
unfolding temperatures
temperatures_rise good found [] rising = rising
temperatures_rise good found (one ∷ rest) rising = temperatures_rise good (if one.good.0 == good then with_temperature one.at found else found) rest (by_test (one.good.0 == good))
  where
    by_test : (b : Bool) → IsRising (if b then with_temperature one.at found else found)
    by_test true = still_rising one.at found rising
    by_test false = rising

-- two places of one temperature are one
pub one_place : (list : List Fraction) (i j : ℕ) (at : Fraction) → IsRising list → slice_get list i ≡ Some at → slice_get list j ≡ Some at → i ≡ j
one_place [] i j at rising here there = absurd (cc)
one_place (x ∷ xs) zero zero at rising here there = refl
one_place (x ∷ xs) zero (suc j) at rising here there = absurd (before_itself x xs j at rising.0 here there)
  where
    before_itself : (x : Fraction) (xs : List Fraction) (j : ℕ) (at : Fraction) → All (λ other. is_cooler x other ≡ true) xs → slice_get (x ∷ xs) 0 ≡ Some at → slice_get xs j ≡ Some at → ⊥
    before_itself x xs j at rise here there =
        let same : x ≡ at = cc in
        let later : is_cooler x (get_or xs j at) ≡ true = rise j at (slice_get_within xs j at there) in
        let other : is_cooler x at ≡ true = ap (is_cooler x) (sym (get_or_from_slice_get xs j at at there)) ∙ later in
        let never = not_cooler_itself at in
        let self : is_cooler at at ≡ true = ap (λ y. is_cooler y at) (sym same) ∙ other in
        cc
one_place (x ∷ xs) (suc i) zero at rising here there = absurd (before_itself x xs i at rising.0 there here)
  where
    before_itself : (x : Fraction) (xs : List Fraction) (j : ℕ) (at : Fraction) → All (λ other. is_cooler x other ≡ true) xs → slice_get (x ∷ xs) 0 ≡ Some at → slice_get xs j ≡ Some at → ⊥
    before_itself x xs j at rise here there =
        let same : x ≡ at = cc in
        let later : is_cooler x (get_or xs j at) ≡ true = rise j at (slice_get_within xs j at there) in
        let other : is_cooler x at ≡ true = ap (is_cooler x) (sym (get_or_from_slice_get xs j at at there)) ∙ later in
        let never = not_cooler_itself at in
        let self : is_cooler at at ≡ true = ap (λ y. is_cooler y at) (sym same) ∙ other in
        cc
one_place (x ∷ xs) (suc i) (suc j) at rising here there = ap suc (one_place xs i j at rising.1 here there)

-- ---- a temperature that is there has a place
abbrev front : Fraction → List Fraction → ℕ
front at list = prefix_len (λ lower. is_cooler lower at) list

abbrev pub IsAmong : List Fraction → Fraction → Type 0
IsAmong list at = prefix_len (λ lower. is_cooler lower at) list < length list

front_cons : (at x : Fraction) (xs : List Fraction) (b : Bool) → is_cooler x at ≡ b → front at (x ∷ xs) ≡ (if b then 1 + front at xs else 0)
front_cons at x xs true is = rw is refl
front_cons at x xs false is = rw is refl

among_first : (at x : Fraction) (xs : List Fraction) → is_cooler x at ≡ false → IsAmong (x ∷ xs) at
among_first at x xs is = let none = front_cons at x xs false is in omega (arith, none)

among_later : (at x : Fraction) (xs : List Fraction) → IsAmong xs at → IsAmong (x ∷ xs) at
among_later at x xs later = by_test (is_cooler x at) refl
  where
    by_test : (b : Bool) → is_cooler x at ≡ b → IsAmong (x ∷ xs) at
    by_test true is = let step = front_cons at x xs true is in omega (arith, step, later)
    by_test false is = among_first at x xs is

among_rest : (at x : Fraction) (xs : List Fraction) → is_cooler x at ≡ true → IsAmong (x ∷ xs) at → IsAmong xs at
among_rest at x xs is among = let step = front_cons at x xs true is in omega (arith, step, among)

put_among : (at : Fraction) → (list : List Fraction) → IsAmong (with_temperature at list) at
unfolding with_temperature
put_among at [] = among_first at at [] (not_cooler_itself at)
put_among at (other ∷ others) = by_tests (is_cooler other at) (is_cooler at other) refl refl (put_among at others)
  where
    by_tests : (b c : Bool) → is_cooler other at ≡ b → is_cooler at other ≡ c → IsAmong (with_temperature at others) at
        → IsAmong (if b then other ∷ with_temperature at others else if c then at ∷ other ∷ others else other ∷ others) at
    by_tests true c below above rest = among_later at other (with_temperature at others) rest
    by_tests false true below above rest = among_first at at (other ∷ others) (not_cooler_itself at)
    by_tests false false below above rest = among_first at other others below

still_among : (at new : Fraction) → (list : List Fraction) → IsAmong list at → IsAmong (with_temperature new list) at
unfolding with_temperature
still_among at new [] among = absurd (omega (arith, among))
still_among at new (other ∷ others) among = by_tests (is_cooler other new) (is_cooler new other) (still_among at new others)
  where
    by_front : (b : Bool) → is_cooler other at ≡ b → (IsAmong others at → IsAmong (with_temperature new others) at) → IsAmong (other ∷ with_temperature new others) at
    by_front true is rest = among_later at other (with_temperature new others) (rest (among_rest at other others is among))
    by_front false is rest = among_first at other (with_temperature new others) is

    by_tests : (b c : Bool) → (IsAmong others at → IsAmong (with_temperature new others) at) → IsAmong (if b then other ∷ with_temperature new others else if c then new ∷ other ∷ others else other ∷ others) at
    by_tests true c rest = by_front (is_cooler other at) refl rest
    by_tests false true rest = among_later at new (other ∷ others) among
    by_tests false false rest = among

kept_among : (good : ℕ) (at : Fraction) (found : List Fraction) → (all : List Made) → IsAmong found at → IsAmong (temperatures good found all) at
unfolding temperatures
kept_among good at found [] among = among
kept_among good at found (one ∷ rest) among = kept_among good at (if one.good.0 == good then with_temperature one.at found else found) rest (by_test (one.good.0 == good))
  where
    by_test : (b : Bool) → IsAmong (if b then with_temperature one.at found else found) at
    by_test true = still_among at one.at found among
    by_test false = among

all_among : (found : ℕ → List Fraction) → (all : List Made) → All (λ m. IsAmong (temperatures m.good.0 (found m.good.0) all) m.at) all
unfolding temperatures
all_among found [] = All-nil (λ (m : Made). IsAmong (temperatures m.good.0 (found m.good.0) []) m.at)
all_among found (one ∷ rest) =
    All-cons (λ (m : Made). IsAmong (temperatures m.good.0 (found m.good.0) (one ∷ rest)) m.at) one rest
    (kept_among one.good.0 one.at (if one.good.0 == one.good.0 then with_temperature one.at (found one.good.0) else found one.good.0) rest (rw (eq-eqb one.good.0 one.good.0 refl) (put_among one.at (found one.good.0))))
    (all_among (λ good. if one.good.0 == good then with_temperature one.at (found good) else found good) rest)

-- ---- the lists of all fluids
pub length_lists : (g : Game) → length (temperature_lists g) ≡ length g.fluids
unfolding temperature_lists
length_lists g = length-map-range_with_len (λ k. temperatures (length g.items + k) [] (all_made g)) 0 (length g.fluids)

pub list_of : (g : Game) (k : ℕ) → k < length g.fluids → get_or (temperature_lists g) k [] ≡ temperatures (length g.items + k) [] (all_made g)
unfolding temperature_lists
list_of g k within = get_or-map-range_with_len (λ j. temperatures (length g.items + j) [] (all_made g)) 0 (length g.fluids) k k [] within (omega arith)

pub all_rise : (g : Game) → All IsRising (temperature_lists g)
unfolding temperature_lists
all_rise g = λ k d within.
    let long = length_lists g in
    let below : k < length g.fluids = omega (arith, within, long) in
    subst IsRising (sym (get_or-map-range_with_len (λ j. temperatures (length g.items + j) [] (all_made g)) 0 (length g.fluids) k k d below (omega arith)))
    (temperatures_rise (length g.items + k) [] (all_made g) tt)

pub made_among : (g : Game) → All (λ m. IsAmong (temperatures m.good.0 [] (all_made g)) m.at) (all_made g)
made_among g = all_among (λ good. []) (all_made g)

-- ---- a search in a rising list
rising_at : (list : List Fraction) (i j : ℕ) (d : Fraction) → IsRising list → i < j → j < length list → is_cooler (get_or list i d) (get_or list j d) ≡ true
rising_at [] i j d rising less within = absurd (omega (arith, within))
rising_at (x ∷ xs) i zero d rising less within = absurd (omega (arith, less))
rising_at (x ∷ xs) zero (suc j) d rising less within = rising.0 j d (omega (arith, within))
rising_at (x ∷ xs) (suc i) (suc j) d rising less within = rising_at xs i j d rising.1 (omega (arith, less)) (omega (arith, within))

pub parted : (list : List Fraction) (at : Fraction) → IsRising list → IsPartitionedBy (λ lower. is_cooler lower at) list
parted list at rising i j d below within cooler = by_order (cases_lt i j)
  where
    by_order : (i < j) ⊎ (j ≤ i) → is_cooler (get_or list i d) at ≡ true
    by_order (inl less) = cooler_trans (get_or list i d) (get_or list j d) at (rising_at list i j d rising less within) cooler
    by_order (inr more) = let same : j ≡ i = omega (arith, below, more) in subst (λ (k : ℕ). is_cooler (get_or list k d) at ≡ true) same cooler

pub counted_by_place : (list : List Fraction) (at : Fraction) (k : ℕ) → k ≤ length list → IsPartitionPoint (λ lower. is_cooler lower at ≡ true) (λ lower. is_cooler lower at ≡ false) list k
    → k ≡ prefix_len (λ lower. is_cooler lower at) list
counted_by_place [] at k few point = omega (arith, few)
counted_by_place (x ∷ xs) at zero few point = let fails : is_cooler x at ≡ false = point.1 0 x (omega arith) (omega arith) in let none = front_cons at x xs false fails in sym none
counted_by_place (x ∷ xs) at (suc k) few point =
    let passes : is_cooler x at ≡ true = point.0 0 x (omega arith) (omega arith) in
    let step = front_cons at x xs true passes in
    let rest = counted_by_place xs at k (omega (arith, few)) (λ j d low high. point.0 (suc j) d (omega arith) (omega (arith, high)), λ j d low high. point.1 (suc j) d (omega (arith, low)) (omega (arith, high))) in
    omega (arith, step, rest)
