-- What one craft of a row takes: of a lab the packs of its technology, of a recipe its ingredients.
use Rattle.std.proofs.Common.{◌≡◌, ◌∙◌, ◌<◌, ◌≤◌, ◌++◌, List, refl, ap, arith}
use Rattle.std.specs.Prelude.{◌≢◌, map, Bool, Ok}
use Rattle.fractions.specs.Fraction.{Fraction, negated, ◌+ʳ◌}
use Rattle.fractions.proofs.Laws.{zero-+ʳ}
use Rattle.plan_base.specs.declared.ids.GoodId.{GoodId}
use Rattle.plan_base.specs.declared.ids.RecipeId.{RecipeId}
use Rattle.plan_base.specs.declared.ids.TechId.{TechId}
use Rattle.game_types.specs.declared.games.Game.{Game}
use Rattle.game_types.specs.declared.setups.Activity.{Activity}
use Rattle.game_types.specs.declared.setups.Activity.TheVariants.{Craft, Research}
use Rattle.game_types.specs.declared.setups.Setup.{Setup}
use Rattle.game_types.specs.Goods.{electricity, solid_and_fluid, units_good}
use Rattle.game_types.specs.Lookups.{recipe_at}
use Rattle.game_types.specs.Sound.{IsSound, IsSoundSetup}
use Rattle.research_rows.specs.Research.{tech_at}
use Rattle.table_rows.specs.declared.rates.RowRates.{RowRates}
use Rattle.table_rows.specs.Columns.{activity_parts, column_of, fuel_parts, given, pack_taken, row_rates_of, taken}
use Rattle.production_laws.specs.Amounts.{amount_in, share_of, total_of}
use Rattle.production_laws.proofs.Activities.{beyond, beyond_share, share_append, share_packs}
use Rattle.production_laws.proofs.Power.{solid_is, units_above}
use Rattle.production_laws.proofs.Shares.{other_amounts, where_apart, where_equal}

-- a lab gives its units
pub lab_gives : (g : Game) (power : Bool) (setup : Setup) (tech : TechId) (row : RowRates) (column : List (GoodId × Fraction)) → IsSound g → IsSoundSetup g setup → setup.activity ≡ Research tech → row_rates_of g setup ≡ Ok row
    → column_of g power setup ≡ Ok column → amount_in column (units_good g tech) ≡ row.units
lab_gives g power setup tech row column sound s is rates e =
    let up : (electricity g).0 < (units_good g tech).0 = units_above g tech in
    let low : solid_and_fluid g ≤ (electricity g).0 = solid_is g in
    other_amounts g power setup row column (units_good g tech) rates e (λ h. omega arith)
    ∙ beyond_share g setup row (units_good g tech) sound s (omega arith)
    ∙ ap (λ (a : Activity). beyond g row (units_good g tech) a) is
    ∙ where_equal (units_good g tech) (units_good g tech) row.units refl

-- and takes its packs
research_share : (g : Game) (setup : Setup) (row : RowRates) (tech : TechId) (x : GoodId) → (units_good g tech).0 ≢ x.0 → share_of (activity_parts g setup row (Research tech)) x ≡ negated (total_of (tech_at g tech).ingredients x)
research_share g setup row tech x apart =
    ap (λ (y : Fraction). y +ʳ share_of (map pack_taken (tech_at g tech).ingredients) x) (where_apart (units_good g tech) x row.units apart)
    ∙ zero-+ʳ (share_of (map pack_taken (tech_at g tech).ingredients) x)
    ∙ share_packs (tech_at g tech).ingredients x

pub lab_takes : (g : Game) (power : Bool) (setup : Setup) (tech : TechId) (row : RowRates) (column : List (GoodId × Fraction)) (x : GoodId) → setup.activity ≡ Research tech → row_rates_of g setup ≡ Ok row
    → column_of g power setup ≡ Ok column → (electricity g).0 ≢ x.0 → (units_good g tech).0 ≢ x.0
    → amount_in column x ≡ negated (total_of (tech_at g tech).ingredients x) +ʳ share_of (fuel_parts g setup.fuel row.rates.fuel) x
lab_takes g power setup tech row column x is rates e dark apart =
    other_amounts g power setup row column x rates e dark
    ∙ ap (λ (a : Activity). share_of (activity_parts g setup row a ++ fuel_parts g setup.fuel row.rates.fuel) x) is
    ∙ share_append (activity_parts g setup row (Research tech)) (fuel_parts g setup.fuel row.rates.fuel) x
    ∙ ap (λ (y : Fraction). y +ʳ share_of (fuel_parts g setup.fuel row.rates.fuel) x) (research_share g setup row tech x apart)

-- a recipe gives its products and takes its ingredients
pub craft_gives_and_takes : (g : Game) (power : Bool) (setup : Setup) (recipe : RecipeId) (row : RowRates) (column : List (GoodId × Fraction)) (x : GoodId) → setup.activity ≡ Craft recipe → row_rates_of g setup ≡ Ok row
    → column_of g power setup ≡ Ok column → (electricity g).0 ≢ x.0
    → amount_in column x
    ≡ share_of (map (given row.effects.productivity) (recipe_at g recipe).products) x +ʳ share_of (map (taken g setup) (recipe_at g recipe).ingredients) x +ʳ share_of (fuel_parts g setup.fuel row.rates.fuel) x
craft_gives_and_takes g power setup recipe row column x is rates e dark =
    other_amounts g power setup row column x rates e dark
    ∙ ap (λ (a : Activity). share_of (activity_parts g setup row a ++ fuel_parts g setup.fuel row.rates.fuel) x) is
    ∙ share_append (activity_parts g setup row (Craft recipe)) (fuel_parts g setup.fuel row.rates.fuel) x
    ∙ ap (λ (y : Fraction). y +ʳ share_of (fuel_parts g setup.fuel row.rates.fuel) x)
    (share_append (map (given row.effects.productivity) (recipe_at g recipe).products) (map (taken g setup) (recipe_at g recipe).ingredients) x)
