-- A sound game with further sound recipes behind its own is sound.
use Rattle.std.proofs.Common.{◌≡◌, ◌∙◌, ◌<◌, ◌≤◌, ◌+◌, ◌++◌, ℕ, List, Option, Some, None, length, refl, sym, ap, subst, arith, length-append}
use Rattle.std.specs.Prelude.{All, IfSome}
use Rattle.std.proofs.lemmas.List.Elements.{All-append, All-weaker}
use Rattle.plan_base.specs.Shape.{node_count}
use Rattle.plan_base.specs.declared.ids.RecipeId.{RecipeId}
use Rattle.game_types.specs.Nodes.{node_limit, shape_of}
use Rattle.game_types.specs.Sound.{IsSound, IsSoundItem, IsSoundModule, IsSoundRecipe, IsSoundSource, IsSoundKind, IsSoundMachine, IsSoundTech}
use Rattle.game_types.specs.declared.games.Game.{Game}
use Rattle.game_types.specs.declared.goods.Item.{Item}
use Rattle.game_types.specs.declared.goods.Module.{Module}
use Rattle.game_types.specs.declared.machinery.Machine.{Machine}
use Rattle.game_types.specs.declared.machinery.MachineKind.{MachineKind}
use Rattle.game_types.specs.declared.machinery.MachineKind.TheVariants.{Crafter, Drill, Pump, Boiler, Generator, BurnerGenerator, Solar, Reactor, Lab, Beacon}
use Rattle.game_types.specs.declared.recipes.Recipe.{Recipe}
use Rattle.game_types.specs.declared.research.Tech.{Tech}

if_some : {A : Type 0} (P Q : A → Type 0) → ((x : A) → P x → Q x) → (o : Option A) → IfSome o P → IfSome o Q
if_some P Q f None h = h
if_some P Q f (Some x) h = f x h

abbrev pub grown : Game → List Recipe → List (List ℕ) → Game
grown g recipes names = record g { recipes = g.recipes ++ recipes; recipe_names = g.recipe_names ++ names }

module _ (g : Game) (recipes : List Recipe) (names : List (List ℕ)) where
  longer : length (g.recipes ++ recipes) ≡ length g.recipes + length recipes
  longer = length-append g.recipes recipes

  below : (n : ℕ) → n < length g.recipes → n < length (g.recipes ++ recipes)
  below n h = let l = longer in omega (arith, l, h)

  of_module : (m : Module) → IsSoundModule g m → IsSoundModule (grown g recipes names) m
  of_module m h = record {
    bonus = h.bonus;
    limitation = All-weaker (λ (r : RecipeId). r.0 < length g.recipes) (λ (r : RecipeId). r.0 < length (g.recipes ++ recipes)) (λ r. below r.0) m.limitation h.limitation;
    blacklist = All-weaker (λ (r : RecipeId). r.0 < length g.recipes) (λ (r : RecipeId). r.0 < length (g.recipes ++ recipes)) (λ r. below r.0) m.blacklist h.blacklist;
  }

  of_item : (item : Item) → IsSoundItem g item → IsSoundItem (grown g recipes names) item
  of_item item h = record {
    place = h.place;
    burnt = h.burnt;
    module_ = if_some (IsSoundModule g) (IsSoundModule (grown g recipes names)) of_module item.module h.module_;
    launch = h.launch;
  }

  of_recipe : (recipe : Recipe) → IsSoundRecipe g recipe → IsSoundRecipe (grown g recipes names) recipe
  of_recipe recipe h = record { ingredients = h.ingredients; products = h.products; launch = h.launch }

  of_kind : (kind : MachineKind) → IsSoundKind g kind → IsSoundKind (grown g recipes names) kind
  of_kind (Crafter speed categories fixed) h = (h.0, if_some (λ (r : RecipeId). r.0 < length g.recipes) (λ (r : RecipeId). r.0 < length (g.recipes ++ recipes)) (λ r. below r.0) fixed h.1)
  of_kind (Drill speed categories fluid_box) h = h
  of_kind (Pump fluid speed) h = h
  of_kind (Boiler input output temperature) h = h
  of_kind (Generator input effectivity per_tick max_temperature burns output) h = h
  of_kind (BurnerGenerator output) h = h
  of_kind (Solar production) h = h
  of_kind Reactor h = h
  of_kind (Lab inputs speed) h = h
  of_kind (Beacon effectivity) h = h

  of_machine : (machine : Machine) → IsSoundMachine g machine → IsSoundMachine (grown g recipes names) machine
  of_machine machine h = record { kind = of_kind machine.kind h.kind; energy = h.energy; burning = h.burning; slots = h.slots }

  of_tech : (tech : Tech) → IsSoundTech g tech → IsSoundTech (grown g recipes names) tech
  of_tech tech h = record {
    prerequisites = h.prerequisites;
    unlocks = All-weaker (λ (r : RecipeId). r.0 < length g.recipes) (λ (r : RecipeId). r.0 < length (g.recipes ++ recipes)) (λ r. below r.0) tech.unlocks h.unlocks;
    ingredients = h.ingredients;
  }

  pub grown_sound : IsSound g → All (IsSoundRecipe g) recipes → length names ≡ length recipes → node_count (shape_of g) + length recipes ≤ node_limit → IsSound (grown g recipes names)
  grown_sound h sound as_many few = record {
    item_names = h.item_names;
    fluid_names = h.fluid_names;
    recipe_names = length-append g.recipe_names names ∙ ap (λ n. n + length names) h.recipe_names ∙ ap (λ n. length g.recipes + n) as_many ∙ sym longer;
    source_names = h.source_names;
    machine_names = h.machine_names;
    tech_names = h.tech_names;
    nodes = let l = longer in omega (arith, few, l);
    items = All-weaker (IsSoundItem g) (IsSoundItem (grown g recipes names)) of_item g.items h.items;
    fluids = h.fluids;
    apart = h.apart;
    recipes = All-weaker (IsSoundRecipe g) (IsSoundRecipe (grown g recipes names)) of_recipe (g.recipes ++ recipes) (All-append (IsSoundRecipe g) g.recipes recipes h.recipes sound);
    sources = All-weaker (IsSoundSource g) (IsSoundSource (grown g recipes names)) (λ source s. record { products = s.products; fluid = s.fluid }) g.sources h.sources;
    machines = All-weaker (IsSoundMachine g) (IsSoundMachine (grown g recipes names)) of_machine g.machines h.machines;
    techs = All-weaker (IsSoundTech g) (IsSoundTech (grown g recipes names)) of_tech g.techs h.techs;
  }
