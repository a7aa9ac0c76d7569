-- The temperatures of a fluid are the same in whichever order things are made: a rising list is told by what it holds.
use Rattle.std.proofs.Common.{◌≡◌, ◌∙◌, ℕ, Bool, true, false, List, [], ◌∷◌, refl, sym, ap, subst}
use Rattle.std.specs.Prelude.{◌==◌, ◌&&◌, ◌||◌, All, not, if◌then◌else◌}
use Rattle.std.specs.List.{list_any}
use Rattle.std.specs.List.Sorted.{IsPermutation}
use Rattle.std.proofs.lemmas.List.Elements.{All-head, All-tail}
use Rattle.std.proofs.lemmas.List.Sorted.{list_any-IsPermutation}
use Rattle.fractions.specs.Fraction.{Fraction}
use Rattle.fractions.proofs.Order.{≤ʳ_antisymm}
use Rattle.game_types.specs.Temperatures.{is_cooler}
use Rattle.fluid_variants.specs.declared.made.Made.{Made}
use Rattle.fluid_variants.specs.Temperatures.{IsRising, temperatures, with_temperature}
use Rattle.fluid_variants.proofs.Rising.{cooler_trans, not_cooler_itself, not_lower, temperatures_rise}

-- neither is below the other
ties : Fraction → Fraction → Bool
ties x y = not (is_cooler x y) && not (is_cooler y x)

abbrev holds : Fraction → List Fraction → Bool
holds x list = list_any (ties x) list

tied : (x y : Fraction) → is_cooler x y ≡ false → is_cooler y x ≡ false → x ≡ y
tied x y up down = ≤ʳ_antisymm x y (not_lower y x down) (not_lower x y up)

by_tie : (x y : Fraction) → ties x y ≡ true → x ≡ y
unfolding ties
by_tie x y is = by_tests (is_cooler x y) (is_cooler y x) refl refl is
  where
    by_tests : (b c : Bool) → is_cooler x y ≡ b → is_cooler y x ≡ c → (not b && not c) ≡ true → x ≡ y
    by_tests true c up down is = absurd (cc)
    by_tests false true up down is = absurd (cc)
    by_tests false false up down is = tied x y up down

ties_itself : (x : Fraction) → ties x x ≡ true
unfolding ties
ties_itself x = let never = not_cooler_itself x in rw never refl

no_tie : (x y : Fraction) → is_cooler x y ≡ true → ties x y ≡ false
unfolding ties
no_tie x y cooler = rw cooler refl

-- ---- what a list holds with a temperature more
swapped : (a b c : Bool) → (a || (b || c)) ≡ (b || (a || c))
swapped true true c = refl
swapped true false c = refl
swapped false true c = refl
swapped false false c = refl

twice : (a c : Bool) → (a || c) ≡ (a || (a || c))
twice true c = refl
twice false c = refl

holds_with : (x at : Fraction) → (list : List Fraction) → holds x (with_temperature at list) ≡ (ties x at || holds x list)
unfolding with_temperature
holds_with x at [] = refl
holds_with x at (other ∷ others) = by_tests (is_cooler other at) (is_cooler at other) refl refl (holds_with x at others)
  where
    by_tests : (b c : Bool) → is_cooler other at ≡ b → is_cooler at other ≡ c → holds x (with_temperature at others) ≡ (ties x at || holds x others)
        → holds x (if b then other ∷ with_temperature at others else if c then at ∷ other ∷ others else other ∷ others) ≡ (ties x at || (ties x other || holds x others))
    by_tests true c below above rest = ap (λ b. ties x other || b) rest ∙ swapped (ties x other) (ties x at) (holds x others)
    by_tests false true below above rest = refl
    by_tests false false below above rest =
        let same : at ≡ other = tied at other above below in
        twice (ties x other) (holds x others) ∙ ap (λ (t : Fraction). ties x t || (ties x other || holds x others)) (sym same)

makes : ℕ → Fraction → Made → Bool
makes good x m = (m.good.0 == good) && ties x m.at

joined : (a b c : Bool) → ((a || b) || c) ≡ (b || (a || c))
joined true true c = refl
joined true false c = refl
joined false true c = refl
joined false false c = refl

holds_made : (good : ℕ) (x : Fraction) (found : List Fraction) → (all : List Made) → holds x (temperatures good found all) ≡ (list_any (makes good x) all || holds x found)
unfolding temperatures makes
holds_made good x found [] = refl
holds_made good x found (one ∷ rest) =
    holds_made good x (if one.good.0 == good then with_temperature one.at found else found) rest ∙ by_good (one.good.0 == good) (list_any (makes good x) rest)
  where
    by_good : (b other : Bool) → (other || holds x (if b then with_temperature one.at found else found)) ≡ (((b && ties x one.at) || other) || holds x found)
    by_good true other = ap (λ h. other || h) (holds_with x one.at found) ∙ sym (joined (ties x one.at) other (holds x found))
    by_good false other = refl

-- ---- two rising lists that hold the same
holds_none : (x : Fraction) → (list : List Fraction) → All (λ other. is_cooler x other ≡ true) list → holds x list ≡ false
holds_none x [] above = refl
holds_none x (y ∷ ys) above =
    let first = no_tie x y (All-head (λ (other : Fraction). is_cooler x other ≡ true) y ys above) in
    rw first (holds_none x ys (All-tail (λ (other : Fraction). is_cooler x other ≡ true) y ys above))

above_held : (x y : Fraction) → (list : List Fraction) → All (λ other. is_cooler y other ≡ true) list → holds x list ≡ true → is_cooler y x ≡ true
above_held x y [] above held = absurd (cc)
above_held x y (z ∷ zs) above held = by_tie_of (ties x z) refl held (above_held x y zs (All-tail (λ (other : Fraction). is_cooler y other ≡ true) z zs above))
  where
    by_tie_of : (b : Bool) → ties x z ≡ b → (b || holds x zs) ≡ true → (holds x zs ≡ true → is_cooler y x ≡ true) → is_cooler y x ≡ true
    by_tie_of true is held later = ap (is_cooler y) (by_tie x z is) ∙ All-head (λ (other : Fraction). is_cooler y other ≡ true) z zs above
    by_tie_of false is held later = later held

first_held : (x y : Fraction) (ys : List Fraction) → All (λ other. is_cooler y other ≡ true) ys → holds x (y ∷ ys) ≡ true → is_cooler x y ≡ true → ⊥
first_held x y ys above held cooler = by_rest (no_tie x y cooler) held
  where
    by_rest : ties x y ≡ false → (ties x y || holds x ys) ≡ true → ⊥
    by_rest none held =
        let later : holds x ys ≡ true = ap (λ b. b || holds x ys) (sym none) ∙ held in
        let up : is_cooler y x ≡ true = above_held x y ys above later in
        let round : is_cooler x x ≡ true = cooler_trans x y x cooler up in
        let never = not_cooler_itself x in
        cc

same_first : (x y : Fraction) (xs ys : List Fraction) → All (λ other. is_cooler x other ≡ true) xs → All (λ other. is_cooler y other ≡ true) ys → holds x (y ∷ ys) ≡ true → holds y (x ∷ xs) ≡ true → x ≡ y
same_first x y xs ys above beyond held kept = by_tests (is_cooler x y) (is_cooler y x) refl refl
  where
    by_tests : (b c : Bool) → is_cooler x y ≡ b → is_cooler y x ≡ c → x ≡ y
    by_tests true c up down = absurd (first_held x y ys beyond held up)
    by_tests false true up down = absurd (first_held y x xs above kept down)
    by_tests false false up down = tied x y up down

holds_first : (x : Fraction) (xs : List Fraction) → holds x (x ∷ xs) ≡ true
holds_first x xs = let itself = ties_itself x in rw itself refl

same_rest : (x : Fraction) (xs ys : List Fraction) → All (λ other. is_cooler x other ≡ true) xs → All (λ other. is_cooler x other ≡ true) ys
    → ((z : Fraction) → holds z (x ∷ xs) ≡ holds z (x ∷ ys)) → (z : Fraction) → holds z xs ≡ holds z ys
same_rest x xs ys above beyond same z = by_tie_of (ties z x) refl (same z)
  where
    by_tie_of : (b : Bool) → ties z x ≡ b → (b || holds z xs) ≡ (b || holds z ys) → holds z xs ≡ holds z ys
    by_tie_of true is both =
        let at : z ≡ x = by_tie z x is in
        ap (λ t. holds t xs) at ∙ holds_none x xs above ∙ sym (holds_none x ys beyond) ∙ ap (λ t. holds t ys) (sym at)
    by_tie_of false is both = both

rising_same : (xs ys : List Fraction) → IsRising xs → IsRising ys → ((z : Fraction) → holds z xs ≡ holds z ys) → xs ≡ ys
rising_same [] [] rise climb same = refl
rising_same [] (y ∷ ys) rise climb same = absurd (let one = same y in let there = holds_first y ys in cc)
rising_same (x ∷ xs) [] rise climb same = absurd (let one = same x in let there = holds_first x xs in cc)
rising_same (x ∷ xs) (y ∷ ys) rise climb same =
    let first : x ≡ y = same_first x y xs ys rise.0 climb.0 (sym (same x) ∙ holds_first x xs) (same y ∙ holds_first y ys) in
    let beyond : All (λ other. is_cooler x other ≡ true) ys = subst (λ (t : Fraction). All (λ other. is_cooler t other ≡ true) ys) (sym first) climb.0 in
    let again : (z : Fraction) → holds z (x ∷ xs) ≡ holds z (x ∷ ys) = λ z. same z ∙ ap (λ (t : Fraction). holds z (t ∷ ys)) (sym first) in
    ap (λ t. x ∷ t) (rising_same xs ys rise.1 climb.1 (same_rest x xs ys rise.0 beyond again)) ∙ ap (λ t. t ∷ ys) first

-- ---- temperatures in another order of what is made
pub in_any_order : (good : ℕ) (all other : List Made) → IsPermutation all other → temperatures good [] other ≡ temperatures good [] all
in_any_order good all other same =
    rising_same (temperatures good [] other) (temperatures good [] all) (temperatures_rise good [] other tt) (temperatures_rise good [] all tt)
    (λ z. holds_made good z [] other ∙ ap (λ b. b || false) (sym (list_any-IsPermutation (makes good z) all other same)) ∙ sym (holds_made good z [] all))
