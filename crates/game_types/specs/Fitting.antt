-- Where a module may go: its effects must be allowed there, and the recipe must be one that it may be used for. After the
-- prototype documentation of Factorio 1.1 (`limitation`, `limitation_blacklist`, `allowed_effects`).
use Rattle.std.specs.Prelude.{◌==◌, ◌&&◌, ◌||◌, Bool, true, not, ℤ, pos, negsuc, List, Option, Some, None, Result, Ok, Err, if◌then◌else◌, length}
use Rattle.std.specs.List.{list_any}
use Rattle.plan_base.specs.declared.RecipeId.{RecipeId}
use Rattle.game_types.specs.declared.effects.Allowed.{Allowed}
use Rattle.game_types.specs.declared.effects.Bonus.{Bonus}
use Rattle.game_types.specs.declared.effects.EffectKind.{EffectKind}
use Rattle.game_types.specs.declared.effects.EffectKind.TheVariants.{Speed, Productivity, Consumption, Pollution}
use Rattle.game_types.specs.declared.fitting.FitFault.{FitFault}
use Rattle.game_types.specs.declared.fitting.FitFault.TheVariants.{Kind, Limited}
use Rattle.game_types.specs.declared.goods.Module.{Module}
use Rattle.game_types.specs.declared.setups.Activity.{Activity}
use Rattle.game_types.specs.declared.setups.Activity.TheVariants.{Craft}

abbrev pub is_nonzero : ℤ → Bool
is_nonzero (pos n) = not (n == 0)
is_nonzero (negsuc n) = true

-- the first kind of effect that there is and that isn't allowed, in the order speed, productivity, consumption, pollution
abbrev pub first_refused : Bonus → Allowed → Option EffectKind
first_refused bonus allowed =
    if is_nonzero bonus.speed && not allowed.speed then Some Speed
    else if is_nonzero bonus.productivity && not allowed.productivity then Some Productivity
    else if is_nonzero bonus.consumption && not allowed.consumption then Some Consumption
    else if is_nonzero bonus.pollution && not allowed.pollution then Some Pollution
    else None

abbrev pub names_recipe : List RecipeId → RecipeId → Bool
names_recipe recipes recipe = list_any (λ other. other.0 == recipe.0) recipes

-- the limitation, unless it is empty, lacks the recipe, or the blacklist holds it
abbrev pub is_limited : Module → RecipeId → Bool
is_limited installed recipe = (not (length installed.limitation == 0) && not (names_recipe installed.limitation recipe)) || names_recipe installed.blacklist recipe

abbrev pub limit_of : Module → Activity → Result (Unit {0}) FitFault
limit_of installed (Craft recipe) = if is_limited installed recipe then Err Limited else Ok tt
limit_of installed activity = Ok tt

abbrev pub fit_by : Option EffectKind → Module → Activity → Result (Unit {0}) FitFault
fit_by (Some kind) installed activity = Err (Kind kind)
fit_by None installed activity = limit_of installed activity

-- what is wrong with a module, if anything
abbrev pub fit_of : Module → Allowed → Activity → Result (Unit {0}) FitFault
fit_of installed allowed activity = fit_by (first_refused installed.bonus allowed) installed activity
