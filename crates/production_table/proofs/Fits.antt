-- An ingredient without bounds always has a fit.
use Rattle.std.proofs.Common.{◌≡◌, ◌+◌, ℕ, List, [], ◌∷◌, length, refl}
use Rattle.std.specs.Prelude.{Bool, true, false, ◌&&◌, ◌||◌, Option, Some, None, is_some, option_map, if◌then◌else◌}
use Rattle.std.specs.List.{list_any}
use Rattle.fractions.specs.Fraction.{Fraction}
use Rattle.plan_base.specs.declared.ids.GoodId.{GoodId}
use Rattle.game_types.specs.declared.goods.Fluid.{Fluid}
use Rattle.game_types.specs.declared.games.Game.{Game}
use Rattle.game_types.specs.Temperatures.{choice_of, coolest, coolest_fit, cooler_of, first_where, fits_alone, fluid_at, is_base, is_cooler, is_fit, is_fit_variant, is_good, is_within, or_else}

any_within : (x : Fraction) → is_within None None x ≡ true
unfolding is_within
any_within x = refl

or_true : (a b : Bool) → b ≡ true → (a || b) ≡ true
or_true true b h = refl
or_true false b h = h

and_true : (a b : Bool) → a ≡ true → b ≡ true → (a && b) ≡ true
and_true true b h k = k
and_true false b h k = absurd (cc)

alone : (o : Option Fluid) → fits_alone None None o ≡ true
alone None = refl
alone (Some fluid) = or_true (is_some fluid.of) (is_within None None fluid.at) (any_within fluid.at)

-- ---- a coolest fluid is found where there is one
cooler_some : (best : Option (GoodId × Fraction)) (first : ℕ) (at : Fraction) → is_some (cooler_of best first at) ≡ true
cooler_some None first at = refl
cooler_some (Some best) first at = by_test (is_cooler at best.1)
  where
    by_test : (b : Bool) → is_some (if b then Some (record { 0 = first }, at) else Some best) ≡ true
    by_test true = refl
    by_test false = refl

either_some : (b : Bool) (o p : Option (GoodId × Fraction)) → is_some o ≡ true → is_some p ≡ true → is_some (if b then o else p) ≡ true
either_some true o p h k = h
either_some false o p h k = k

coolest_kept : (test : Fluid → Bool) (best : Option (GoodId × Fraction)) (first : ℕ) (fluids : List Fluid) → is_some best ≡ true → is_some (coolest test best first fluids) ≡ true
unfolding coolest
coolest_kept test best first [] h = h
coolest_kept test best first (fluid ∷ fluids) h =
    coolest_kept test (if test fluid then cooler_of best first fluid.at else best) (first + 1) fluids (either_some (test fluid) (cooler_of best first fluid.at) best (cooler_some best first fluid.at) h)

found_cases : (base : ℕ) (best : Option (GoodId × Fraction)) (first : ℕ) (fluid : Fluid) (fluids : List Fluid) (b : Bool) → is_fit_variant base None None fluid ≡ b → (is_good fluid.of base || list_any (λ f. is_good f.of base) fluids) ≡ true
    → ((o : Option (GoodId × Fraction)) → list_any (λ f. is_good f.of base) fluids ≡ true → is_some (coolest (is_fit_variant base None None) o (first + 1) fluids) ≡ true)
    → is_some (coolest (is_fit_variant base None None) (if b then cooler_of best first fluid.at else best) (first + 1) fluids) ≡ true
found_cases base best first fluid fluids true e h rest = coolest_kept (is_fit_variant base None None) (cooler_of best first fluid.at) (first + 1) fluids (cooler_some best first fluid.at)
found_cases base best first fluid fluids false e h rest = by_good (is_good fluid.of base) refl h
  where
    by_good : (c : Bool) → is_good fluid.of base ≡ c → (c || list_any (λ f. is_good f.of base) fluids) ≡ true → is_some (coolest (is_fit_variant base None None) best (first + 1) fluids) ≡ true
    by_good true is k = absurd (let fit : is_fit_variant base None None fluid ≡ true = and_true (is_good fluid.of base) (is_within None None fluid.at) is (any_within fluid.at) in cc)
    by_good false is k = rest best k

coolest_found : (base : ℕ) (best : Option (GoodId × Fraction)) (first : ℕ) (fluids : List Fluid) → list_any (λ f. is_good f.of base) fluids ≡ true → is_some (coolest (is_fit_variant base None None) best first fluids) ≡ true
unfolding coolest
coolest_found base best first [] h = absurd (cc)
coolest_found base best first (fluid ∷ fluids) h =
    found_cases base best first fluid fluids (is_fit_variant base None None fluid) refl h (λ o k. coolest_found base o (first + 1) fluids k)

mapped : (o : Option (GoodId × Fraction)) → is_some o ≡ true → is_some (option_map (λ best. best.0) o) ≡ true
mapped (Some best) h = refl
mapped None h = absurd (cc)

fit_cases : (good : ℕ) (b c : Bool) (o : Option GoodId) → (b ≡ true → is_some o ≡ true) → c ≡ true → is_some (if b then o else if c then Some (record { 0 = good }) else None) ≡ true
fit_cases good true c o h k = h refl
fit_cases good false true o h k = refl
fit_cases good false false o h k = absurd (cc)

base_is : (g : Game) (good : ℕ) → is_base g good ≡ true → list_any (λ f. is_good f.of good) g.fluids ≡ true
unfolding is_base
base_is g good h = h

coolest_there : (g : Game) (good : ℕ) → is_some (coolest_fit g good None None) ≡ true
unfolding coolest_fit
coolest_there g good =
    fit_cases good (is_base g good) (fits_alone None None (fluid_at g good)) (option_map (λ best. best.0) (coolest (is_fit_variant good None None) None (length g.items) g.fluids))
    (λ h. mapped (coolest (is_fit_variant good None None) None (length g.items) g.fluids) (coolest_found good None (length g.items) g.fluids (base_is g good h))) (alone (fluid_at g good))

either : (o p : Option GoodId) → is_some p ≡ true → is_some (or_else o p) ≡ true
either (Some x) p h = refl
either None p h = h

pub always_fits : (g : Game) (at : List GoodId) (good : ℕ) → is_some (choice_of g at good None None) ≡ true
unfolding choice_of
always_fits g at good = either (first_where (λ own. is_fit g good None None own.0) at) (coolest_fit g good None None) (coolest_there g good)
