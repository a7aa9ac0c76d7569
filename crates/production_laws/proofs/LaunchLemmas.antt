-- One craft of a launch takes one of its item and the parts that its silo needs.
use Rattle.std.proofs.Common.{◌≡◌, ◌∙◌, List, [], ◌∷◌, ap}
use Rattle.std.specs.Prelude.{◌≢◌, map, Bool, true, false, ◌==◌, Option, Some, None, Ok, pos, if◌then◌else◌}
use Rattle.std.proofs.Common.{arith}
use Rattle.fractions.specs.Fraction.{Fraction, zero_fraction, one_fraction, whole_fraction, negated, ◌+ʳ◌}
use Rattle.fractions.specs.Fracs.{atom, nought, ◌⊞◌, opposite, same_amount}
use Rattle.plan_base.specs.declared.ids.GoodId.{GoodId}
use Rattle.plan_base.specs.declared.ids.RecipeId.{RecipeId}
use Rattle.game_types.specs.declared.games.Game.{Game}
use Rattle.game_types.specs.declared.goods.Item.{Item}
use Rattle.game_types.specs.declared.recipes.Recipe.{Recipe}
use Rattle.game_types.specs.declared.setups.Activity.TheVariants.{Craft}
use Rattle.game_types.specs.declared.setups.Setup.{Setup}
use Rattle.game_types.specs.Goods.{electricity}
use Rattle.game_types.specs.Lookups.{recipe_at}
use Rattle.game_types.specs.Sound.{IsItem, IsSound, IsSoundSetup}
use Rattle.game_types.specs.Temperatures.{choice_of}
use Rattle.power_rows.specs.Inputs.{or_good}
use Rattle.rocket_launches.specs.declared.silos.Silo.{Silo}
use Rattle.rocket_launches.specs.Launches.{as_catalyst, one_part, recipe_with}
use Rattle.table_rows.specs.declared.rates.RowRates.{RowRates}
use Rattle.table_rows.specs.Columns.{column_of, fuel_parts, given, row_rates_of, taken}
use Rattle.production_laws.specs.Amounts.{amount_in, share_of, where_same}
use Rattle.production_laws.proofs.Crafts.{craft_gives_and_takes}
use Rattle.production_laws.proofs.Items.{item_choice}

two_taken : (b c : Bool) (x y : Fraction) → (if b then negated x else zero_fraction) +ʳ ((if c then negated y else zero_fraction) +ʳ zero_fraction) ≡ negated ((if b then x else zero_fraction) +ʳ (if c then y else zero_fraction))
two_taken true true x y = same_amount (opposite (atom x) ⊞ (opposite (atom y) ⊞ nought)) (opposite (atom x ⊞ atom y)) (omega arith)
two_taken true false x y = same_amount (opposite (atom x) ⊞ (nought ⊞ nought)) (opposite (atom x ⊞ nought)) (omega arith)
two_taken false true x y = same_amount (nought ⊞ (opposite (atom y) ⊞ nought)) (opposite (nought ⊞ atom y)) (omega arith)
two_taken false false x y = same_amount (nought ⊞ (nought ⊞ nought)) (opposite (nought ⊞ nought)) (omega arith)

abbrev part_of : Game → Setup → Silo → GoodId
part_of g setup silo = or_good silo.part (choice_of g setup.at silo.part.0 None None)

parts_taken : (g : Game) (setup : Setup) (silo : Silo) (cargo good : GoodId) → choice_of g setup.at cargo.0 None None ≡ Some cargo
    → share_of (map (taken g setup) (one_part cargo one_fraction ∷ one_part silo.part (whole_fraction (pos silo.parts)) ∷ [])) good
    ≡ negated (where_same cargo good one_fraction +ʳ where_same (part_of g setup silo) good (whole_fraction (pos silo.parts)))
parts_taken g setup silo cargo good h =
    ap (λ (o : Option GoodId). where_same (or_good cargo o) good (negated one_fraction) +ʳ (where_same (part_of g setup silo) good (negated (whole_fraction (pos silo.parts))) +ʳ zero_fraction)) h
    ∙ two_taken (cargo.0 == good.0) ((part_of g setup silo).0 == good.0) one_fraction (whole_fraction (pos silo.parts))

with_recipe : (g : Game) (setup : Setup) (silo : Silo) (cargo good : GoodId) (item : Item) (productivity rest : Fraction) → choice_of g setup.at cargo.0 None None ≡ Some cargo
    → share_of (map (given productivity) (recipe_with silo cargo item).products) good +ʳ share_of (map (taken g setup) (recipe_with silo cargo item).ingredients) good +ʳ rest
    ≡ share_of (map (given productivity) (map as_catalyst item.launch)) good +ʳ negated (where_same cargo good one_fraction +ʳ where_same (part_of g setup silo) good (whole_fraction (pos silo.parts))) +ʳ rest
unfolding recipe_with
with_recipe g setup silo cargo good item productivity rest h =
    ap (λ (x : Fraction). share_of (map (given productivity) (map as_catalyst item.launch)) good +ʳ x +ʳ rest) (parts_taken g setup silo cargo good h)

pub launch_takes : (g : Game) (power : Bool) (setup : Setup) (recipe : RecipeId) (silo : Silo) (cargo : GoodId) (item : Item) (row : RowRates) (column : List (GoodId × Fraction)) (good : GoodId)
    → IsSound g → IsSoundSetup g setup → setup.activity ≡ Craft recipe → recipe_at g recipe ≡ recipe_with silo cargo item → IsItem g cargo.0
    → row_rates_of g setup ≡ Ok row → column_of g power setup ≡ Ok column → (electricity g).0 ≢ good.0
    → amount_in column good
    ≡ share_of (map (given row.effects.productivity) (map as_catalyst item.launch)) good
    +ʳ negated (where_same cargo good one_fraction +ʳ where_same (or_good silo.part (choice_of g setup.at silo.part.0 None None)) good (whole_fraction (pos silo.parts)))
    +ʳ share_of (fuel_parts g setup.fuel row.rates.fuel) good
launch_takes g power setup recipe silo cargo item row column good sound s is launch there rates e dark =
    craft_gives_and_takes g power setup recipe row column good is rates e dark
    ∙ ap (λ (r : Recipe). share_of (map (given row.effects.productivity) r.products) good +ʳ share_of (map (taken g setup) r.ingredients) good +ʳ share_of (fuel_parts g setup.fuel row.rates.fuel) good) launch
    ∙ with_recipe g setup silo cargo good item row.effects.productivity (share_of (fuel_parts g setup.fuel row.rates.fuel) good) (item_choice g setup.at cargo sound s.at there)
