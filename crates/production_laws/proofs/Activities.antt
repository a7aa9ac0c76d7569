-- What the contributions of each activity sum to, of electricity and of technologies.
use Rattle.std.proofs.Common.{◌≡◌, ◌∙◌, ◌<◌, ◌≤◌, ◌++◌, ℕ, List, [], ◌∷◌, length, refl, sym, ap, arith}
use Rattle.std.specs.Prelude.{map, IfSome, Bool, true, false, ◌==◌, Option, Some, None, if◌then◌else◌}
use Rattle.fractions.specs.Fraction.{Fraction, zero_fraction, one_fraction, negated, ◌+ʳ◌}
use Rattle.fractions.specs.Fracs.{atom, nought, ◌⊞◌, opposite, same_amount}
use Rattle.fractions.proofs.Laws.{+ʳ_assoc, +ʳ-zero, zero-+ʳ}
use Rattle.plan_base.specs.declared.ids.GoodId.{GoodId}
use Rattle.plan_base.specs.declared.ids.TechId.{TechId}
use Rattle.game_types.specs.declared.games.Game.{Game}
use Rattle.game_types.specs.declared.recipes.Part.{Part}
use Rattle.game_types.specs.declared.recipes.Product.{Product}
use Rattle.game_types.specs.declared.setups.Activity.{Activity}
use Rattle.game_types.specs.declared.setups.Activity.TheVariants.{Craft, Mine, Pump, Generate, Boil, Research}
use Rattle.game_types.specs.declared.setups.Setup.{Setup}
use Rattle.game_types.specs.Goods.{electricity, solid_and_fluid, units_good}
use Rattle.game_types.specs.Lookups.{item_at, recipe_at, source_at}
use Rattle.game_types.specs.Sound.{IsFluid, IsGood, IsItem, IsSound, IsSoundActivity, IsSoundSetup}
use Rattle.game_types.specs.Temperatures.{choice_of}
use Rattle.power_rows.specs.declared.inputs.Input.{Input}
use Rattle.power_rows.specs.declared.inputs.Input.TheVariants.{None as NoInput, Fluid as OfFluid, Missing}
use Rattle.power_rows.specs.Inputs.{input_of}
use Rattle.research_rows.specs.Research.{tech_at}
use Rattle.table_rows.specs.declared.rates.RowRates.{RowRates}
use Rattle.table_rows.specs.Columns.{activity_parts, burnt_parts, contributions, fuel_parts, given, gives, input_taken, pack_taken, source_fluid, taken, Contribution}
use Rattle.production_table.proofs.InGame.{added_append, added_map, choice_good, chosen_good, input_good, item_sound, recipe_sound, source_sound, tech_sound, AddedBelow, InputGood}
use Rattle.production_laws.specs.Amounts.{or_zero, share_of, total_of, where_same}
use Rattle.production_laws.proofs.Shares.{where_apart}

-- ---- sums of contributions
pub share_append : (xs ys : List Contribution) (x : GoodId) → share_of (xs ++ ys) x ≡ share_of xs x +ʳ share_of ys x
share_append [] ys x = sym (zero-+ʳ (share_of ys x))
share_append (c ∷ xs) ys x =
    ap (λ (y : Fraction). where_same c.0 x (or_zero c.1) +ʳ y) (share_append xs ys x) ∙ sym (+ʳ_assoc (where_same c.0 x (or_zero c.1)) (share_of xs x) (share_of ys x))

-- contributions of goods below a good have nothing of it
pub share_above : (n : ℕ) (cs : List Contribution) (x : GoodId) → AddedBelow n cs → n ≤ x.0 → share_of cs x ≡ zero_fraction
share_above n [] x below h = refl
share_above n (c ∷ cs) x below h =
    let first : c.0.0 < n = below.0 in
    ap (λ (y : Fraction). y +ʳ share_of cs x) (where_apart c.0 x (or_zero c.1) (λ e. omega arith))
    ∙ ap (λ (y : Fraction). zero_fraction +ʳ y) (share_above n cs x below.1 h)
    ∙ zero-+ʳ zero_fraction

-- packs are taken
minus_both : (b : Bool) (pack rest : Fraction) → (if b then negated pack else zero_fraction) +ʳ negated rest ≡ negated ((if b then pack else zero_fraction) +ʳ rest)
minus_both true pack rest = same_amount (opposite (atom pack) ⊞ opposite (atom rest)) (opposite (atom pack ⊞ atom rest)) (omega arith)
minus_both false pack rest = same_amount (nought ⊞ opposite (atom rest)) (opposite (nought ⊞ atom rest)) (omega arith)

pub share_packs : (packs : List (GoodId × Fraction)) (x : GoodId) → share_of (map pack_taken packs) x ≡ negated (total_of packs x)
share_packs [] x = same_amount nought (opposite nought) (omega arith)
share_packs (p ∷ ps) x =
    ap (λ (y : Fraction). where_same p.0 x (negated p.1) +ʳ y) (share_packs ps x) ∙ minus_both (p.0.0 == x.0) p.1 (total_of ps x)

-- ---- contributions of items and fluids alone
low_input : (g : Game) (amount : Fraction) (input : Input) → InputGood g input → AddedBelow (solid_and_fluid g) (input_taken amount input)
low_input g amount (OfFluid good) h = (h, tt)
low_input g amount NoInput h = tt
low_input g amount Missing h = tt

low_taken : (g : Game) (setup : Setup) (part : Part) → IsSoundSetup g setup → IsGood g part.good.0 → (taken g setup part).0.0 < solid_and_fluid g
low_taken g setup part s h = chosen_good g part.good (choice_of g setup.at part.good.0 part.low part.high) h (choice_good g setup.at part.good.0 part.low part.high s.at h)

low_fluid : (g : Game) (setup : Setup) (fluid : Option (GoodId × Fraction)) → IsSoundSetup g setup → IfSome fluid (λ f. IsFluid g f.0.0) → AddedBelow (solid_and_fluid g) (source_fluid g setup fluid)
low_fluid g setup None s h = tt
low_fluid g setup (Some fluid) s h = (chosen_good g fluid.0 (choice_of g setup.at fluid.0.0 None None) h.1 (choice_good g setup.at fluid.0.0 None None s.at h.1), tt)

low_item : (g : Game) (n : ℕ) → IsItem g n → n < solid_and_fluid g
low_item g n h = omega arith

low_packs : (g : Game) (tech : TechId) → IsSound g → IsSoundActivity g (Research tech) → AddedBelow (solid_and_fluid g) (map pack_taken (tech_at g tech).ingredients)
low_packs g tech sound h =
    added_map (solid_and_fluid g) pack_taken (λ (pack : GoodId × Fraction). IsItem g pack.0.0) (tech_at g tech).ingredients (λ pack k. low_item g pack.0.0 k) (tech_sound g tech.0 sound h).ingredients

low_burnt : (g : Game) (burnt : Option GoodId) (amount : Fraction) → IfSome burnt (λ good. IsItem g good.0) → AddedBelow (solid_and_fluid g) (burnt_parts burnt amount)
low_burnt g None amount h = tt
low_burnt g (Some good) amount h = (low_item g good.0 h, tt)

pub low_fuel : (g : Game) (fuel : Option GoodId) (amount : Fraction) → IsSound g → IfSome fuel (λ good. IsItem g good.0) → AddedBelow (solid_and_fluid g) (fuel_parts g fuel amount)
low_fuel g None amount sound h = tt
low_fuel g (Some fuel) amount sound h = (low_item g fuel.0 h, low_burnt g (item_at g fuel).burnt amount (item_sound g fuel.0 sound h).burnt)

low_craft : (g : Game) (setup : Setup) (row : RowRates) (n : ℕ) → IsSound g → IsSoundSetup g setup → n < length g.recipes → AddedBelow (solid_and_fluid g) (activity_parts g setup row (Craft (record { 0 = n })))
low_craft g setup row n sound s h =
    let is = recipe_sound g n sound h in
    added_append (solid_and_fluid g) (map (given row.effects.productivity) (recipe_at g (record { 0 = n })).products) (map (taken g setup) (recipe_at g (record { 0 = n })).ingredients)
    (added_map (solid_and_fluid g) (given row.effects.productivity) (λ (product : Product). IsGood g product.good.0) (recipe_at g (record { 0 = n })).products (λ product k. k) is.products)
    (added_map (solid_and_fluid g) (taken g setup) (λ (part : Part). IsGood g part.good.0) (recipe_at g (record { 0 = n })).ingredients (λ part k. low_taken g setup part s k) is.ingredients)

low_mine : (g : Game) (setup : Setup) (row : RowRates) (n : ℕ) → IsSound g → IsSoundSetup g setup → n < length g.sources → AddedBelow (solid_and_fluid g) (activity_parts g setup row (Mine (record { 0 = n })))
low_mine g setup row n sound s h =
    let is = source_sound g n sound h in
    added_append (solid_and_fluid g) (map (given row.effects.productivity) (source_at g (record { 0 = n })).products) (source_fluid g setup (source_at g (record { 0 = n })).fluid)
    (added_map (solid_and_fluid g) (given row.effects.productivity) (λ (product : Product). IsGood g product.good.0) (source_at g (record { 0 = n })).products (λ product k. k) is.products)
    (low_fluid g setup (source_at g (record { 0 = n })).fluid s is.fluid)

-- ---- each activity: of goods that are no items and no fluids, one joule of electricity, or the units of its technology
abbrev pub beyond : Game → RowRates → GoodId → Activity → Fraction
beyond g row x Generate = where_same (electricity g) x one_fraction
beyond g row x (Research tech) = where_same (units_good g tech) x row.units
beyond g row x activity = zero_fraction

behind_one : (n : ℕ) (c : Contribution) (cs : List Contribution) (x : GoodId) → AddedBelow n cs → n ≤ x.0 → share_of (c ∷ cs) x ≡ where_same c.0 x (or_zero c.1)
behind_one n c cs x below h = ap (λ (y : Fraction). where_same c.0 x (or_zero c.1) +ʳ y) (share_above n cs x below h) ∙ +ʳ-zero (where_same c.0 x (or_zero c.1))

activity_share : (g : Game) (setup : Setup) (row : RowRates) (activity : Activity) (x : GoodId) → IsSound g → IsSoundSetup g setup → IsSoundActivity g activity → solid_and_fluid g ≤ x.0
    → share_of (activity_parts g setup row activity) x ≡ beyond g row x activity
activity_share g setup row (Craft recipe) x sound s h up = share_above (solid_and_fluid g) (activity_parts g setup row (Craft recipe)) x (low_craft g setup row recipe.0 sound s h) up
activity_share g setup row (Mine source) x sound s h up = share_above (solid_and_fluid g) (activity_parts g setup row (Mine source)) x (low_mine g setup row source.0 sound s h) up
activity_share g setup row (Pump good) x sound s h up = share_above (solid_and_fluid g) (gives good one_fraction ∷ []) x (h, tt) up
activity_share g setup row Generate x sound s h up =
    behind_one (solid_and_fluid g) (gives (electricity g) one_fraction) (input_taken row.input (input_of g setup)) x (low_input g row.input (input_of g setup) (input_good g setup sound s)) up
activity_share g setup row (Boil good) x sound s h up =
    share_above (solid_and_fluid g) (activity_parts g setup row (Boil good)) x (h, low_input g row.input (input_of g setup) (input_good g setup sound s)) up
activity_share g setup row (Research tech) x sound s h up = behind_one (solid_and_fluid g) (gives (units_good g tech) row.units) (map pack_taken (tech_at g tech).ingredients) x (low_packs g tech sound h) up

pub beyond_share : (g : Game) (setup : Setup) (row : RowRates) (x : GoodId) → IsSound g → IsSoundSetup g setup → solid_and_fluid g ≤ x.0 → share_of (contributions g setup row) x ≡ beyond g row x setup.activity
beyond_share g setup row x sound s up =
    share_append (activity_parts g setup row setup.activity) (fuel_parts g setup.fuel row.rates.fuel) x
    ∙ ap (λ (y : Fraction). y +ʳ share_of (fuel_parts g setup.fuel row.rates.fuel) x) (activity_share g setup row setup.activity x sound s s.activity up)
    ∙ ap (λ (y : Fraction). beyond g row x setup.activity +ʳ y) (share_above (solid_and_fluid g) (fuel_parts g setup.fuel row.rates.fuel) x (low_fuel g setup.fuel row.rates.fuel sound s.fuel) up)
    ∙ +ʳ-zero (beyond g row x setup.activity)
