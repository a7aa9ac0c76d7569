-- The speed of a machine under effects is above 0.
use Rattle.std.specs.Prelude.{◌≡◌, ℤ, pos, ◌*ℤ◌, ◌⊎◌, Result, Ok, Err}
use Rattle.std.proofs.Common.{arith, inl, inr, refl, subst, sym}
use Rattle.std.specs.Ordering.{int_cmp, MatchOrdering}
use Rattle.std.specs.Cmp.{int_ranks}
use Rattle.std.specs.declared.cmp.Ordering.{Ordering}
use Rattle.std.specs.declared.cmp.Ordering.TheVariants.{Less, Equal, Greater}
use Rattle.std.proofs.lemmas.Int.{ints}
use Rattle.fractions.specs.Fraction.{Fraction, frac, one_fraction, zero_fraction, ◌<ʳ◌, ◌≤ʳ◌}
use Rattle.fractions.proofs.Order.{positive_frac, positive_of_num, ≤ʳ_trans, <ʳ-≤ʳ, <ʳ_not_≤ʳ, ≤ʳ_or_<ʳ}
use Rattle.fractions.proofs.Compare.{match_map}
use Rattle.game_types.specs.declared.effects.BeaconSum.{BeaconSum}
use Rattle.game_types.specs.declared.effects.Bonus.{Bonus}
use Rattle.game_types.specs.declared.effects.Effects.{Effects}
use Rattle.game_types.specs.declared.effects.Wide.{Wide}
use Rattle.game_types.specs.declared.games.Game.{Game}
use Rattle.game_types.specs.declared.setups.Activity.{Activity}
use Rattle.game_types.specs.declared.setups.Activity.TheVariants.{Craft, Mine, Pump, Generate, Boil, Research}
use Rattle.game_types.specs.declared.setups.Setup.{Setup}
use Rattle.game_types.specs.Beacons.{bonus_sums}
use Rattle.game_types.specs.Lookups.{machine_at}
use Rattle.game_types.specs.Modules.{bonus_of}
use Rattle.game_types.specs.Rates.{bonus_with, multiplier, productivity_with, effects_with}
use Rattle.game_types.specs.Steps.{◌▸◌, added, at_least, greater}
use Rattle.table_rows.specs.Columns.{effects_by, effects_of}

positive_above : (x y : Fraction) → zero_fraction <ʳ x → x ≤ʳ y → zero_fraction <ʳ y
positive_above x y h k = by_order (≤ʳ_or_<ʳ y zero_fraction)
  where
    by_order : (y ≤ʳ zero_fraction) ⊎ (zero_fraction <ʳ y) → zero_fraction <ʳ y
    by_order (inl e) = absurd (<ʳ_not_≤ʳ zero_fraction x h (≤ʳ_trans x y zero_fraction k e))
    by_order (inr e) = e

greater_positive : (floor x : Fraction) (r : Ordering) → MatchOrdering r (floor <ʳ x) (Unit {0}) (Unit {0}) → zero_fraction <ʳ floor → zero_fraction <ʳ greater r floor x
greater_positive floor x Less m h = positive_above floor x h (<ʳ-≤ʳ floor x m)
greater_positive floor x Equal m h = h
greater_positive floor x Greater m h = h

ranked : (floor x : Fraction) → MatchOrdering (int_cmp (floor.num *ℤ pos x.den) (x.num *ℤ pos floor.den)) (floor <ʳ x) (Unit {0}) (Unit {0})
ranked floor x =
    match_map _ {P' = floor <ʳ x} {Q' = Unit {0}} {R' = Unit {0}} (λ h. record { cross = h }) (λ _. tt) (λ _. tt) (int_ranks (floor.num *ℤ pos x.den) (x.num *ℤ pos floor.den))

pub at_least_positive : (floor x : Fraction) → zero_fraction <ʳ floor → zero_fraction <ʳ at_least floor x
unfolding at_least
at_least_positive floor x h = greater_positive floor x (int_cmp (floor.num *ℤ pos x.den) (x.num *ℤ pos floor.den)) (ranked floor x) h

pub fifth : zero_fraction <ʳ frac (pos 1) 5
fifth = positive_frac (pos 1) 5 (omega arith) (omega (arith, ints))

one_positive : zero_fraction <ʳ one_fraction
unfolding one_fraction
one_positive = positive_of_num one_fraction (omega arith)

-- what comes before the last step, where that comes to a value
abbrev Before : {A B : Type 0} → Result A Wide → (A → Result B Wide) → B → Type 0
Before {A} r next value = (x : A) × (r ≡ Ok x) × (Ok value ≡ next x)

before : {A B : Type 0} (r : Result A Wide) (next : A → Result B Wide) (value : B) → Ok value ≡ (r ▸ next) → Before r next value
before (Ok x) next value h = (x, refl, h)
before (Err wide) next value h = absurd (cc)

multiplier_positive : (beacons : Fraction) (hundredths : ℤ) (x : Fraction) → Ok x ≡ multiplier beacons hundredths → zero_fraction <ʳ x
unfolding multiplier
multiplier_positive beacons hundredths x h =
    let one = before (bonus_with beacons hundredths) (λ bonus. added 3 bonus one_fraction ▸ λ value. Ok (at_least (frac (pos 1) 5) value)) x h in
    let two = before (added 3 one.0 one_fraction) (λ value. Ok (at_least (frac (pos 1) 5) value)) x one.2 in
    let same : x ≡ at_least (frac (pos 1) 5) two.0 = let h : Ok x ≡ Ok (at_least (frac (pos 1) 5) two.0) = two.2 in cc in
    subst (λ (y : Fraction). zero_fraction <ʳ y) (sym same) (at_least_positive (frac (pos 1) 5) two.0 fifth)

with_positive : (base : Fraction) (modules : Bonus) (beacons : BeaconSum) (effects : Effects) → Ok effects ≡ effects_with base modules beacons → zero_fraction <ʳ effects.speed
unfolding effects_with
with_positive base modules beacons effects h =
    let one = before (multiplier beacons.speed modules.speed) _ effects h in
    let two = before (productivity_with base beacons.productivity modules.productivity) _ effects one.2 in
    let three = before (multiplier beacons.consumption modules.consumption) _ effects two.2 in
    let four = before (multiplier beacons.pollution modules.pollution) _ effects three.2 in
    let made : Ok effects ≡ Ok (record { speed = one.0; productivity = two.0; consumption = three.0; pollution = four.0 }) = four.2 in
    let same : effects.speed ≡ one.0 = cc in
    subst (λ (y : Fraction). zero_fraction <ʳ y) (sym same) (multiplier_positive beacons.speed modules.speed one.0 (sym one.1))

by_positive : (g : Game) (setup : Setup) (beacons : BeaconSum) (activity : Activity) (effects : Effects) → Ok effects ≡ effects_by g setup beacons activity → zero_fraction <ʳ effects.speed
by_positive g setup beacons (Pump good) effects h = let same : effects.speed ≡ one_fraction = cc in subst (λ (y : Fraction). zero_fraction <ʳ y) (sym same) one_positive
by_positive g setup beacons (Craft x) effects h = with_positive _ _ beacons effects h
by_positive g setup beacons (Mine x) effects h = with_positive _ _ beacons effects h
by_positive g setup beacons Generate effects h = with_positive _ _ beacons effects h
by_positive g setup beacons (Boil x) effects h = with_positive _ _ beacons effects h
by_positive g setup beacons (Research x) effects h = with_positive _ _ beacons effects h

pub speed_positive : (g : Game) (setup : Setup) (effects : Effects) → Ok effects ≡ effects_of g setup → zero_fraction <ʳ effects.speed
unfolding effects_of
speed_positive g setup effects h =
    let one = before (bonus_sums g setup.beacons) (λ beacons. effects_by g setup beacons setup.activity) effects h in
    by_positive g setup one.0 setup.activity effects one.2
