-- What lists of temperatures hold, after one of them changed.
use Rattle.std.proofs.Common.{◌≡◌, ◌≢◌, ◌∙◌, ◌<◌, ◌≤◌, ◌+◌, ◌-◌, ℕ, zero, suc, Bool, true, false, List, [], ◌∷◌, length, length-set, ◌++◌, take, drop, get_or, set, refl, sym, ap, subst, arith}
use Rattle.std.specs.Prelude.{◌==◌, All, Vec, map, if◌then◌else◌}
use Rattle.std.proofs.lemmas.Bool.Decides.{nat_tests}
use Rattle.std.proofs.lemmas.Grind.{common_steps, get_or-set_at}
use Rattle.std.specs.Global.{Global}
use Rattle.std.proofs.lemmas.List.{ext_get_or, map-set}
use Rattle.fractions.specs.Fraction.{Fraction}
use Rattle.fluid_variants.specs.declared.made.Made.{Made}
use Rattle.fluid_variants.specs.Contents.{AreEmpty, ArePut, contents}
use Rattle.fluid_variants.specs.Temperatures.{IsRising, all_made, temperature_lists, temperatures, with_temperature}
use Rattle.fluid_variants.proofs.MadeFluids.{made_fluids}
use Rattle.fluid_variants.proofs.Members.{in_any_order}
use Rattle.fluid_variants.proofs.Rising.{still_rising}
use Rattle.game_types.specs.Sound.{IsFluid, IsSound}
use Rattle.game_types.specs.declared.games.Game.{Game}
use Rattle.std.specs.List.{range_with_len}
use Rattle.std.specs.List.Sorted.{IsPermutation}
use Rattle.std.proofs.lemmas.List.Sorted.{All-permutation}
use Rattle.std.proofs.lemmas.List.Elements.{All-set, All-weaker}
use Rattle.std.proofs.lemmas.List.FromFn.{get_or-map-range_with_len, length-map-range_with_len}

pub contents_at : (lists : List (Vec Fraction Global)) (place : ℕ) (list : Vec Fraction Global) → place < length lists → list ≡ get_or lists place list → get_or (contents lists) place [] ≡ list.items
contents_at [] place list within is = absurd (omega (arith, within))
contents_at (first ∷ lists) zero list within is = ap (λ l. l.items) (sym is)
contents_at (first ∷ lists) (suc place) list within is = contents_at lists place list (omega (arith, within)) is

pub contents_put : (lists : List (Vec Fraction Global)) (place : ℕ) (at : Fraction) (list new : Vec Fraction Global) → place < length lists → list ≡ get_or lists place list → new.items ≡ with_temperature at list.items
    → contents (set lists place new) ≡ set (contents lists) place (with_temperature at (get_or (contents lists) place []))
contents_put lists place at list new within is put =
    map-set (λ l. l.items) lists place new ∙ ap (λ items. set (contents lists) place items) (put ∙ ap (with_temperature at) (sym (contents_at lists place list within is)))

pub length_contents : (lists : List (Vec Fraction Global)) → length (contents lists) ≡ length lists
length_contents [] = refl
length_contents (list ∷ lists) = ap suc (length_contents lists)

-- ---- a loop over what is made: what the rest puts in behind what was put in
pub record PutSoFar (items : ℕ) (all rest : List Made) (old now : List (List Fraction)) : Type 0 where
  pub as_long : length now ≡ length old
  pub each : (k : ℕ) → k < length old → temperatures (items + k) (get_or now k []) rest ≡ temperatures (items + k) (get_or old k []) all

pub put_first : (items : ℕ) (all : List Made) (old : List (List Fraction)) → PutSoFar items all all old old
put_first items all old = record { as_long = refl; each = λ k within. refl }

pub put_next : (items : ℕ) (all rest : List Made) (one : Made) (old now new : List (List Fraction)) → items ≤ one.good.0 → one.good.0 < items + length old
    → new ≡ set now (one.good.0 - items) (with_temperature one.at (get_or now (one.good.0 - items) [])) → PutSoFar items all (one ∷ rest) old now → PutSoFar items all rest old new
unfolding temperatures
put_next items all rest one old now new from below put so_far =
    record {
      as_long = ap length put ∙ length-set now (one.good.0 - items) _ ∙ so_far.as_long;
      each = λ k within. ap (λ list. temperatures (items + k) list rest) (ap (λ lists. get_or lists k []) put ∙ by_good k within (one.good.0 == items + k) refl) ∙ so_far.each k within;
    }
  where
    by_good : (k : ℕ) → k < length old → (b : Bool) → (one.good.0 == items + k) ≡ b
        → get_or (set now (one.good.0 - items) (with_temperature one.at (get_or now (one.good.0 - items) []))) k [] ≡ (if (one.good.0 == items + k) then with_temperature one.at (get_or now k []) else get_or now k [])
    by_good k within true is =
        let place : one.good.0 - items ≡ k = grind (arith, nat_tests, is) in
        let long : length now ≡ length old = so_far.as_long in
        rw (is, place) (get_or-set_at now k k (with_temperature one.at (get_or now k [])) [] refl (omega (arith, within, long)))
    by_good k within false is =
        let other : k ≢ one.good.0 - items = grind (arith, nat_tests, is, from) in
        rw is (grind (arith, common_steps, other))

pub put_done : (items : ℕ) (all : List Made) (old now : List (List Fraction)) → PutSoFar items all [] old now → ArePut items all old now
unfolding temperatures
put_done items all old now so_far = record { as_long = so_far.as_long; each = so_far.each }

-- ---- the lists of all fluids
pub all_put : (g : Game) (order : List Made) (old new : List (List Fraction)) → IsPermutation (all_made g) order → AreEmpty (length g.fluids) old → ArePut (length g.items) order old new → new ≡ temperature_lists g
unfolding temperature_lists
all_put g order old new same empty put =
    ext_get_or [] new (map (λ k. temperatures (length g.items + k) [] (all_made g)) (range_with_len 0 (length g.fluids)))
    (put.as_long ∙ empty.as_long ∙ sym (length-map-range_with_len (λ k. temperatures (length g.items + k) [] (all_made g)) 0 (length g.fluids)))
    (λ k within.
    let long : length new ≡ length g.fluids = put.as_long ∙ empty.as_long in
    let olds : length old ≡ length g.fluids = empty.as_long in
    put.each k (omega (arith, within, long, olds))
    ∙ ap (λ found. temperatures (length g.items + k) found order) (empty.each k)
    ∙ in_any_order (length g.items + k) (all_made g) order same
    ∙ sym (get_or-map-range_with_len (λ k. temperatures (length g.items + k) [] (all_made g)) 0 (length g.fluids) k k [] (omega (arith, within, long)) (omega arith)))

pub all_there : (g : Game) (order : List Made) (lists : List (Vec Fraction Global)) → IsPermutation (all_made g) order → IsSound g → length lists ≡ length g.fluids
    → All (λ (m : Made). (length g.items ≤ m.good.0) × (m.good.0 < length g.items + length lists)) order
all_there g order lists same sound long =
    All-permutation (λ (m : Made). (length g.items ≤ m.good.0) × (m.good.0 < length g.items + length lists)) (all_made g) order same
    (All-weaker (λ (m : Made). IsFluid g m.good.0) (λ (m : Made). (length g.items ≤ m.good.0) × (m.good.0 < length g.items + length lists))
    (λ m is. (is.0, let below = is.1 in omega (arith, below, long))) (all_made g) (made_fluids g sound))

-- ---- lists that rise
pub empty_rise : (count : ℕ) (lists : List (List Fraction)) → AreEmpty count lists → All IsRising lists
empty_rise count lists empty = λ k d within. subst IsRising (sym (at_any_rest lists k d within ∙ empty.each k)) tt
  where
    at_any_rest : (lists : List (List Fraction)) (k : ℕ) (d : List Fraction) → k < length lists → get_or lists k d ≡ get_or lists k []
    at_any_rest lists k d within = grind (arith, common_steps)

pub put_rises : (lists new : List (List Fraction)) (place : ℕ) (at : Fraction) → place < length lists → All IsRising lists → new ≡ set lists place (with_temperature at (get_or lists place [])) → All IsRising new
put_rises lists new place at within rise is =
    subst (All IsRising) (sym is) (All-set IsRising lists place (with_temperature at (get_or lists place [])) (still_rising at (get_or lists place []) (rise place [] within)) rise)

pub list_rises : (lists : List (Vec Fraction Global)) (place : ℕ) (list : Vec Fraction Global) → place < length lists → list ≡ get_or lists place list → All IsRising (contents lists) → IsRising list.items
list_rises lists place list within is rise =
    let long = length_contents lists in
    subst IsRising (contents_at lists place list within is) (rise place [] (omega (arith, within, long)))

pub whole : {A : Type 0} (old new : List A) (len : ℕ) → length new ≡ length old → len ≡ length old → take len (new ++ drop (length new) old) ≡ new
whole old new len long is = grind (arith, common_steps, long, is)
