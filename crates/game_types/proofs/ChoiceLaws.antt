-- What is chosen for an ingredient is a fit, and nothing is chosen where there is none.
use Rattle.std.proofs.Common.{◌≡◌, ◌∙◌, ◌+◌, ◌-◌, ℕ, zero, suc, Bool, true, false, List, [], ◌∷◌, Option, Some, None, length, refl, sym, ap, arith, inl, inr, ◌⊎◌}
use Rattle.std.specs.Prelude.{◌==◌, ◌&&◌, nat_lt, option_map, slice_get, if◌then◌else◌}
use Rattle.std.proofs.lemmas.Bool.Decides.{nat_tests}
use Rattle.fractions.specs.Fraction.{Fraction}
use Rattle.plan_base.specs.declared.ids.GoodId.{GoodId}
use Rattle.game_types.specs.declared.goods.Fluid.{Fluid}
use Rattle.game_types.specs.declared.games.Game.{Game}
use Rattle.game_types.specs.Temperatures.{choice_of, coolest, coolest_fit, cooler_of, first_where, fits_alone, fluid_at, is_base, is_cooler, is_fit, is_fit_variant, is_some_fit_variant, or_else}

-- ---- the first that passes a test
first_passes : {A : Type 0} (test : A → Bool) (xs : List A) (x : A) → first_where test xs ≡ Some x → test x ≡ true
first_passes test [] x is = absurd (cc)
first_passes {A = A} test (y ∷ ys) x is = by_head (test y) refl is (first_passes test ys x)
  where
    by_head : (b : Bool) → test y ≡ b → (if b then Some y else first_where test ys) ≡ Some x → (first_where test ys ≡ Some x → test x ≡ true) → test x ≡ true
    by_head true passes found rest = let same : y ≡ x = cc in ap test (sym same) ∙ passes
    by_head false fails found rest = rest found

-- ---- the coolest of those that pass a test, where the first one has this number
record Passes (test : Fluid → Bool) (first : ℕ) (fluids : List Fluid) (best : GoodId × Fraction) : Type 0 where
  place : ℕ
  fluid : Fluid
  there : slice_get fluids place ≡ Some fluid
  numbered : best.0.0 ≡ first + place
  passes : test fluid ≡ true

abbrev better : (Fluid → Bool) → Option (GoodId × Fraction) → ℕ → Fluid → Option (GoodId × Fraction)
better test best first fluid = if test fluid then cooler_of best first fluid.at else best

one_better : (test : Fluid → Bool) (best : Option (GoodId × Fraction)) (first : ℕ) (fluid : Fluid) (fluids : List Fluid) (b : GoodId × Fraction) → better test best first fluid ≡ Some b
    → (best ≡ Some b) ⊎ Passes test first (fluid ∷ fluids) b
one_better test best first fluid fluids b is = by_test (test fluid) refl is best refl
  where
    new : test fluid ≡ true → b.0.0 ≡ first → Passes test first (fluid ∷ fluids) b
    new passes numbered = record { place = 0; fluid = fluid; there = refl; numbered = omega (arith, numbered); passes = passes }

    by_cooler : (old : GoodId × Fraction) (cooler : Bool) → test fluid ≡ true → (if cooler then Some (record { 0 = first }, fluid.at) else Some old) ≡ Some b → (Some old ≡ Some b) ⊎ Passes test first (fluid ∷ fluids) b
    by_cooler old true passes same = inr (new passes (let e : (record { 0 = first }, fluid.at) ≡ b = cc in ap (λ (x : GoodId × Fraction). x.0.0) (sym e)))
    by_cooler old false passes same = inl same

    by_best : (old : Option (GoodId × Fraction)) → test fluid ≡ true → cooler_of old first fluid.at ≡ Some b → (old ≡ Some b) ⊎ Passes test first (fluid ∷ fluids) b
    by_best None passes same = inr (new passes (let e : (record { 0 = first }, fluid.at) ≡ b = cc in ap (λ (x : GoodId × Fraction). x.0.0) (sym e)))
    by_best (Some old) passes same = by_cooler old (is_cooler fluid.at old.1) passes same

    by_test : (c : Bool) → test fluid ≡ c → (if c then cooler_of best first fluid.at else best) ≡ Some b → (old : Option (GoodId × Fraction)) → best ≡ old → (best ≡ Some b) ⊎ Passes test first (fluid ∷ fluids) b
    by_test true passes same old e = by_best best passes same
    by_test false fails same old e = inl same

coolest_passes : (test : Fluid → Bool) (best : Option (GoodId × Fraction)) (first : ℕ) (fluids : List Fluid) (b : GoodId × Fraction) → coolest test best first fluids ≡ Some b → (best ≡ Some b) ⊎ Passes test first fluids b
unfolding coolest
coolest_passes test best first [] b is = inl is
coolest_passes test best first (fluid ∷ fluids) b is = by_rest (coolest_passes test (better test best first fluid) (first + 1) fluids b is)
  where
    by_rest : (better test best first fluid ≡ Some b) ⊎ Passes test (first + 1) fluids b → (best ≡ Some b) ⊎ Passes test first (fluid ∷ fluids) b
    by_rest (inl same) = one_better test best first fluid fluids b same
    by_rest (inr later) = inr (record { place = suc later.place; fluid = later.fluid; there = later.there; numbered = let n = later.numbered in omega (arith, n); passes = later.passes })

some_better : (test : Fluid → Bool) (best : Option (GoodId × Fraction)) (first : ℕ) (fluid : Fluid) → better test best first fluid ≡ None → test fluid ≡ false
some_better test best first fluid is = by_test (test fluid) refl is
  where
    by_cooler : (cooler : Bool) (one other : GoodId × Fraction) → (if cooler then Some one else Some other) ≡ None → ⊥
    by_cooler true one other same = absurd (cc)
    by_cooler false one other same = absurd (cc)

    by_best : (old : Option (GoodId × Fraction)) → cooler_of old first fluid.at ≡ None → ⊥
    by_best None same = absurd (cc)
    by_best (Some old) same = by_cooler (is_cooler fluid.at old.1) (record { 0 = first }, fluid.at) old same

    by_test : (c : Bool) → test fluid ≡ c → (if c then cooler_of best first fluid.at else best) ≡ None → test fluid ≡ false
    by_test true passes same = absurd (by_best best same)
    by_test false fails same = fails

none_passes : (test : Fluid → Bool) (best : Option (GoodId × Fraction)) (first : ℕ) (fluids : List Fluid) → coolest test best first fluids ≡ None
    → (best ≡ None) × ((k : ℕ) (fluid : Fluid) → slice_get fluids k ≡ Some fluid → test fluid ≡ false)
unfolding coolest
none_passes test best first [] is = (is, λ k fluid there. absurd (cc))
none_passes test best first (one ∷ fluids) is = by_rest (none_passes test (better test best first one) (first + 1) fluids is)
  where
    by_test : (c : Bool) → test one ≡ c → test one ≡ false → (if c then cooler_of best first one.at else best) ≡ None → best ≡ None
    by_test true passes fails same = absurd (cc)
    by_test false passes fails same = same

    each : test one ≡ false → ((k : ℕ) (fluid : Fluid) → slice_get fluids k ≡ Some fluid → test fluid ≡ false) → (k : ℕ) (fluid : Fluid) → slice_get (one ∷ fluids) k ≡ Some fluid → test fluid ≡ false
    each fails rest zero fluid there = let same : one ≡ fluid = cc in ap test (sym same) ∙ fails
    each fails rest (suc k) fluid there = rest k fluid there

    by_rest : (better test best first one ≡ None) × ((k : ℕ) (fluid : Fluid) → slice_get fluids k ≡ Some fluid → test fluid ≡ false)
        → (best ≡ None) × ((k : ℕ) (fluid : Fluid) → slice_get (one ∷ fluids) k ≡ Some fluid → test fluid ≡ false)
    by_rest rest = let fails = some_better test best first one rest.0 in (by_test (test one) refl fails rest.0, each fails rest.1)

-- ---- fits
fluid_behind : (g : Game) (fit place : ℕ) → fit ≡ length g.items + place → fluid_at g fit ≡ slice_get g.fluids place
unfolding fluid_at
fluid_behind g fit place is =
    let behind : nat_lt fit (length g.items) ≡ false = grind (arith, nat_tests, is) in
    let from : fit - length g.items ≡ place = omega (arith, is) in
    rw (behind, from) refl

module _ (g : Game) (good : ℕ) (low high : Option Fraction) where
  coolest_fits : (choice : GoodId) → coolest_fit g good low high ≡ Some choice → is_fit g good low high choice.0 ≡ true
  unfolding coolest_fit is_fit
  coolest_fits choice is = by_base (is_base g good) is
    where
      by_found : (best : Option (GoodId × Fraction)) → coolest (is_fit_variant good low high) None (length g.items) g.fluids ≡ best → option_map (λ best. best.0) best ≡ Some choice → is_some_fit_variant good low high (fluid_at g choice.0) ≡ true
      by_found None found is = absurd (cc)
      by_found (Some best) found is = by_place (coolest_passes (is_fit_variant good low high) None (length g.items) g.fluids best found)
        where
          same : best.0 ≡ choice
          same = cc

          by_place : (None ≡ Some best) ⊎ Passes (is_fit_variant good low high) (length g.items) g.fluids best → is_some_fit_variant good low high (fluid_at g choice.0) ≡ true
          by_place (inl e) = absurd (cc)
          by_place (inr p) =
              let number : choice.0 ≡ length g.items + p.place = ap (λ (x : GoodId). x.0) (sym same) ∙ p.numbered in
              ap (is_some_fit_variant good low high) (fluid_behind g choice.0 p.place number ∙ p.there) ∙ p.passes

      by_alone : (b : Bool) → fits_alone low high (fluid_at g good) ≡ b → (if b then Some (record { 0 = good }) else None) ≡ Some choice → ((choice.0 == good) && fits_alone low high (fluid_at g good)) ≡ true
      by_alone true fits is =
          let same : (record { 0 = good }) ≡ choice = cc in
          let number : choice.0 ≡ good = ap (λ (x : GoodId). x.0) (sym same) in
          rw fits (grind (arith, nat_tests, number))
      by_alone false fails is = absurd (cc)

      by_base : (b : Bool) → (if b then option_map (λ best. best.0) (coolest (is_fit_variant good low high) None (length g.items) g.fluids) else if fits_alone low high (fluid_at g good) then Some (record { 0 = good }) else None) ≡ Some choice
          → (if b then is_some_fit_variant good low high (fluid_at g choice.0) else (choice.0 == good) && fits_alone low high (fluid_at g good)) ≡ true
      by_base true is = by_found (coolest (is_fit_variant good low high) None (length g.items) g.fluids) refl is
      by_base false is = by_alone (fits_alone low high (fluid_at g good)) refl is

  none_fits : coolest_fit g good low high ≡ None → (fit : ℕ) → is_fit g good low high fit ≡ false
  unfolding coolest_fit is_fit fluid_at
  none_fits is fit = by_base (is_base g good) is
    where
      by_found : (best : Option (GoodId × Fraction)) → coolest (is_fit_variant good low high) None (length g.items) g.fluids ≡ best → option_map (λ best. best.0) best ≡ None
          → is_some_fit_variant good low high (if nat_lt fit (length g.items) then None else slice_get g.fluids (fit - length g.items)) ≡ false
      by_found (Some best) found is = absurd (cc)
      by_found None found is = by_item (nat_lt fit (length g.items)) (slice_get g.fluids (fit - length g.items)) refl
        where
          by_item : (b : Bool) (fluid : Option Fluid) → slice_get g.fluids (fit - length g.items) ≡ fluid → is_some_fit_variant good low high (if b then None else fluid) ≡ false
          by_item true fluid there = refl
          by_item false None there = refl
          by_item false (Some fluid) there = (none_passes (is_fit_variant good low high) None (length g.items) g.fluids found).1 (fit - length g.items) fluid there

      itself : GoodId
      itself = record { 0 = good }

      by_alone : (b c : Bool) → (if b then Some itself else None) ≡ None → (c && b) ≡ false
      by_alone true c is = absurd (cc)
      by_alone false true is = refl
      by_alone false false is = refl

      by_base : (b : Bool) → (if b then option_map (λ best. best.0) (coolest (is_fit_variant good low high) None (length g.items) g.fluids) else if fits_alone low high (fluid_at g good) then Some (record { 0 = good }) else None) ≡ None
          → (if b then is_some_fit_variant good low high (fluid_at g fit) else (fit == good) && fits_alone low high (fluid_at g good)) ≡ false
      by_base true is = by_found (coolest (is_fit_variant good low high) None (length g.items) g.fluids) refl is
      by_base false is = by_alone (fits_alone low high (fluid_at g good)) (fit == good) is

  -- ---- choices
  pub choice_fits : (at : List GoodId) (choice : GoodId) → choice_of g at good low high ≡ Some choice → is_fit g good low high choice.0 ≡ true
  unfolding choice_of
  choice_fits at choice is = by_first (first_where (λ own. is_fit g good low high own.0) at) refl is
    where
      by_first : (own : Option GoodId) → first_where (λ own. is_fit g good low high own.0) at ≡ own → or_else own (coolest_fit g good low high) ≡ Some choice → is_fit g good low high choice.0 ≡ true
      by_first (Some own) first is = let same : own ≡ choice = cc in ap (λ (x : GoodId). is_fit g good low high x.0) (sym same) ∙ first_passes (λ (own : GoodId). is_fit g good low high own.0) at own first
      by_first None first is = coolest_fits choice is

  pub no_choice_no_fit : (at : List GoodId) → choice_of g at good low high ≡ None → (fit : ℕ) → is_fit g good low high fit ≡ false
  unfolding choice_of
  no_choice_no_fit at is = by_first (first_where (λ own. is_fit g good low high own.0) at) is
    where
      by_first : (own : Option GoodId) → or_else own (coolest_fit g good low high) ≡ None → (fit : ℕ) → is_fit g good low high fit ≡ false
      by_first (Some own) is = absurd (cc)
      by_first None is = none_fits is

  pub no_fit_no_choice : (at : List GoodId) → ((fit : ℕ) → is_fit g good low high fit ≡ false) → choice_of g at good low high ≡ None
  no_fit_no_choice at none = by_choice (choice_of g at good low high) refl
    where
      by_choice : (choice : Option GoodId) → choice_of g at good low high ≡ choice → choice ≡ None
      by_choice None is = refl
      by_choice (Some choice) is = let fits = choice_fits at choice is in let not = none choice.0 in absurd (cc)
