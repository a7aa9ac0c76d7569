-- Figures of rows, one after another.
use Rattle.std.proofs.Common.{◌≡◌, ◌∙◌, ℕ, zero, suc, ◌+◌, ◌-◌, ◌*◌, ◌/◌, ◌<◌, ◌≤◌, List, [], ◌∷◌, ◌++◌, Bool, true, false, length, get_or, drop, map, mul_comm, append_assoc, append-nil, Some, None, Ok, Result, refl, sym, ap, subst, arith}
use Rattle.std.specs.Prelude.{if◌then◌else◌, ℤ, pos, negsuc, neg_ℤ, ◌+ℤ◌, ◌*ℤ◌, ◌≤ℤ◌, ◌<ℤ◌}
use Rattle.std.specs.Bool.{Decides}
use Rattle.std.proofs.lemmas.Int.{ints}
use Rattle.fractions.specs.Fraction.{Fraction, ◌+ʳ◌, ◌*ʳ◌, ◌≤ʳ◌, same_from_cross, whole_fraction}
use Rattle.fractions.specs.Limits.{IsNarrow, SumFits}
use Rattle.fractions.proofs.Ceiling.{den-whole, num-whole, ceiling_least, ceiling_not_below}
use Rattle.fractions.proofs.Order.{≤ʳ_antisymm}
use Rattle.game_types.specs.declared.effects.Effects.{Effects}
use Rattle.game_types.specs.declared.effects.Rates.{Rates}
use Rattle.game_types.specs.declared.effects.Wide.{Wide}
use Rattle.game_types.specs.Steps.{do_fit, is_narrow}
use Rattle.game_types.proofs.StepLemmas.{fit_decided, narrow_decided}
use Rattle.game_types.proofs.Walks.{next as next_of, drop_all}
use Rattle.plan_lines.specs.declared.reply.Figures.{Figures}
use Rattle.planner_tables.specs.Figures.{ceiling, figures_at, product, quotient_up, rows_figures, summed, total, with_figures}

-- ---- products and sums
some_if : {P : Type 0} (fits : Bool) (x y : Fraction) → Decides fits P → P → y ≡ x → Some y ≡ (if fits then Some x else None)
some_if true x y d p e = ap Some e
some_if false x y d p e = absurd (let h : false ≡ true = d.1 p in cc)

none_if : {P : Type 0} (fits : Bool) (x : Fraction) → Decides fits P → ¬ P → None ≡ (if fits then Some x else None)
none_if true x d p = absurd (p (d.0 refl))
none_if false x d p = refl

pub product_fits : (x y v : Fraction) → IsNarrow (x *ʳ y) → v ≡ x *ʳ y → Some v ≡ product x y
unfolding product
product_fits x y v p e = some_if (is_narrow (x *ʳ y)) (x *ʳ y) v (narrow_decided (x *ʳ y)) p e

pub product_wide : (x y : Fraction) → ¬ IsNarrow (x *ʳ y) → None ≡ product x y
unfolding product
product_wide x y p = none_if (is_narrow (x *ʳ y)) (x *ʳ y) (narrow_decided (x *ʳ y)) p

pub total_fits : (x y v : Fraction) → SumFits x y → v ≡ x +ʳ y → Some v ≡ total x y
unfolding total
total_fits x y v p e = some_if (do_fit x y) (x +ʳ y) v (fit_decided x y) p e

pub total_wide : (x y : Fraction) → ¬ SumFits x y → None ≡ total x y
unfolding total
total_wide x y p = none_if (do_fit x y) (x +ʳ y) (fit_decided x y) p

-- ---- rows
pub figures_next : (rows : List (Effects × Rates × Fraction)) (rates : List Fraction) (k : ℕ) (row : Effects × Rates × Fraction) (rate : Fraction) → k < length rows → k < length rates → row ≡ get_or rows k row → rate ≡ get_or rates k rate
    → rows_figures (map Ok (drop k rows)) (drop k rates) ≡ figures_at rate row ∷ rows_figures (map Ok (drop (k + 1) rows)) (drop (k + 1) rates)
unfolding rows_figures
figures_next rows rates k row rate h i e f =
    ap (λ (xs : List (Effects × Rates × Fraction)). rows_figures (map Ok xs) (drop k rates)) (next_of rows k row h e)
    ∙ ap (λ (ys : List Fraction). rows_figures (map Ok (row ∷ drop (k + 1) rows)) ys) (next_of rates k rate i f)

no_rates : (rows : List (Result (Effects × Rates × Fraction) Wide)) → rows_figures rows [] ≡ []
unfolding rows_figures
no_rates [] = refl
no_rates (row ∷ rows) = refl

pub figures_end : (rows : List (Effects × Rates × Fraction)) (rates : List Fraction) (k : ℕ) → length rates ≤ k → rows_figures (map Ok (drop k rows)) (drop k rates) ≡ []
figures_end rows rates k h = ap (λ (ys : List Fraction). rows_figures (map Ok (drop k rows)) ys) (drop_all rates k h) ∙ no_rates (map Ok (drop k rows))

pub figures_over : (rows : List (Effects × Rates × Fraction)) (rates : List Fraction) (k : ℕ) → length rows ≤ k → rows_figures (map Ok (drop k rows)) (drop k rates) ≡ []
unfolding rows_figures
figures_over rows rates k h = ap (λ (xs : List (Effects × Rates × Fraction)). rows_figures (map Ok xs) (drop k rates)) (drop_all rows k h)

append_first : {A : Type 0} (acc : List A) (x : A) (rest : List A) → (acc ++ x ∷ []) ++ rest ≡ acc ++ (x ∷ rest)
append_first acc x rest = append_assoc acc (x ∷ []) rest

pub figures_more : (rows : List (Effects × Rates × Fraction)) (rates : List Fraction) (k : ℕ) (row : Effects × Rates × Fraction) (rate : Fraction) (acc more all : List Figures) (new : Figures) → k < length rows → k < length rates → row ≡ get_or rows k row
    → rate ≡ get_or rates k rate → new ≡ figures_at rate row → more ≡ acc ++ new ∷ [] → acc ++ rows_figures (map Ok (drop k rows)) (drop k rates) ≡ all
    → more ++ rows_figures (map Ok (drop (k + 1) rows)) (drop (k + 1) rates) ≡ all
figures_more rows rates k row rate acc more all new h i e f n m inv =
    ap (λ (xs : List Figures). xs ++ rows_figures (map Ok (drop (k + 1) rows)) (drop (k + 1) rates)) (m ∙ ap (λ (x : Figures). acc ++ x ∷ []) n)
    ∙ (append_first acc (figures_at rate row) (rows_figures (map Ok (drop (k + 1) rows)) (drop (k + 1) rates))
    ∙ (ap (λ (xs : List Figures). acc ++ xs) (sym (figures_next rows rates k row rate h i e f)) ∙ inv))

pub figures_done : (rows : List (Effects × Rates × Fraction)) (rates : List Fraction) (k : ℕ) (acc all given : List Figures) → given ≡ acc → rows_figures (map Ok (drop k rows)) (drop k rates) ≡ [] → acc ++ rows_figures (map Ok (drop k rows)) (drop k rates) ≡ all
    → given ≡ all
figures_done rows rates k acc all given e none inv =
    e ∙ (sym (append-nil acc) ∙ (ap (λ (xs : List Figures). acc ++ xs) (sym none) ∙ inv))

-- ---- sums
pub summed_next : (sum : Figures) (rows : List Figures) (k : ℕ) (row : Figures) → k < length rows → row ≡ get_or rows k row → summed sum (drop k rows) ≡ summed (with_figures sum row) (drop (k + 1) rows)
unfolding summed
summed_next sum rows k row h e = ap (summed sum) (next_of rows k row h e)

pub summed_end : (sum : Figures) (rows : List Figures) (k : ℕ) → length rows ≤ k → summed sum (drop k rows) ≡ sum
unfolding summed
summed_end sum rows k h = ap (summed sum) (drop_all rows k h)

-- ---- rounding up
whole_of : (y : Fraction) → y.den ≡ 1 → y ≡ whole_fraction y.num
whole_of y d =
    same_from_cross y (whole_fraction y.num) (ap (λ n. y.num *ℤ pos n) (den-whole y.num ∙ sym d) ∙ ap (λ z. z *ℤ pos y.den) (sym (num-whole y.num)))

up : (m d q : ℕ) → 0 < d → q ≡ (m + (d - 1)) / d → (m ≤ q * d) × (q * d < m + d)
up m d q h e =
    let c : d * ((m + (d - 1)) / d) ≡ q * d = ap (λ x. d * x) (sym e) ∙ mul_comm d q in
    (omega arith, omega arith)

down : (m d q : ℕ) → 0 < d → q ≡ m / d → (q * d ≤ m) × (m < q * d + d)
down m d q h e =
    let c : d * (m / d) ≡ q * d = ap (λ x. d * x) (sym e) ∙ mul_comm d q in
    (omega arith, omega arith)

neg_times : (q d : ℕ) → (neg_ℤ (pos q) *ℤ pos d) ≡ neg_ℤ (pos (q * d))
neg_times zero d = let e : 0 * d ≡ 0 = omega arith in ap (λ n. pos n) e ∙ sym (ap (λ n. neg_ℤ (pos n)) e)
neg_times (suc q) d = refl

not_below : (n : ℤ) (d : ℕ) → 0 < d → n ≤ℤ (quotient_up n d *ℤ pos d)
not_below (pos n) d h = let u = up n d ((n + (d - 1)) / d) h refl in omega (arith, ints)
not_below (negsuc n) d h =
    let u = down (n + 1) d ((n + 1) / d) h refl in
    let above : negsuc n ≤ℤ neg_ℤ (pos ((n + 1) / d * d)) = omega (arith, ints) in
    subst (λ z. negsuc n ≤ℤ z) (sym (neg_times ((n + 1) / d) d)) above

next_up : (n : ℤ) (d : ℕ) → 0 < d → (quotient_up n d *ℤ pos d) <ℤ (n +ℤ pos d)
next_up (pos n) d h = let u = up n d ((n + (d - 1)) / d) h refl in omega (arith, ints)
next_up (negsuc n) d h =
    let u = down (n + 1) d ((n + 1) / d) h refl in
    let below : neg_ℤ (pos ((n + 1) / d * d)) <ℤ (negsuc n +ℤ pos d) = omega (arith, ints) in
    subst (λ z. z <ℤ (negsuc n +ℤ pos d)) (sym (neg_times ((n + 1) / d) d)) below

pub ceiling_is : (x y : Fraction) → y.den ≡ 1 → x ≤ʳ y → ((n : ℤ) → x ≤ʳ whole_fraction n → y ≤ʳ whole_fraction n) → y ≡ ceiling x
unfolding ceiling
ceiling_is x y d h least =
    let r : ℤ = quotient_up x.num x.den in
    let above : x ≤ʳ whole_fraction r = ceiling_not_below x r x.num x.den refl refl (not_below x.num x.den x.positive) in
    let whole : y ≡ whole_fraction y.num = whole_of y d in
    ≤ʳ_antisymm y (whole_fraction r) (least r above)
    (subst (λ (z : Fraction). whole_fraction r ≤ʳ z) (sym whole) (ceiling_least x r x.num x.den refl refl (next_up x.num x.den x.positive) y.num (subst (λ (z : Fraction). x ≤ʳ z) whole h)))
