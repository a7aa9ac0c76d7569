-- A sound game whose goods are numbered anew is sound: one lemma for each record.
use Rattle.std.proofs.Common.{◌≡◌, ◌∙◌, ◌<◌, ◌≤◌, ◌-◌, ◌++◌, ℕ, Bool, true, false, List, [], ◌∷◌, Option, Some, None, length, map, get_or, refl, sym, ap, subst, arith}
use Rattle.std.specs.Prelude.{All, IfSome, IsSomeAnd, option_map, slice_get, nat_lt, if◌then◌else◌}
use Rattle.std.specs.List.{cons_option, filter_map, flat_map}
use Rattle.std.proofs.lemmas.Bool.Decides.{nat_tests}
use Rattle.std.proofs.lemmas.List.{length-map}
use Rattle.std.proofs.lemmas.List.Elements.{All-nil, All-cons, All-head, All-tail, All-map, All-weaker}
use Rattle.std.proofs.lemmas.Option.{slice_get-get_or, slice_get-map}
use Rattle.fractions.specs.Fraction.{Fraction, zero_fraction}
use Rattle.plan_base.specs.Shape.{node_count}
use Rattle.plan_base.specs.declared.ids.EntityId.{EntityId}
use Rattle.plan_base.specs.declared.ids.GoodId.{GoodId}
use Rattle.plan_base.specs.declared.ids.RecipeId.{RecipeId}
use Rattle.plan_base.specs.declared.ids.TechId.{TechId}
use Rattle.game_types.specs.Nodes.{node_limit, shape_of}
use Rattle.game_types.specs.Sound.{AreApart, IsCrafter, IsCrafterKind, IsFluid, IsGood, IsItem, IsSound, IsSoundEnergy, IsSoundFluid, IsSoundItem, IsSoundKind, IsSoundBurning, IsSoundMachine, IsSoundModule, IsSoundRecipe, IsSoundSource, IsSoundTech}
use Rattle.game_types.specs.Temperatures.{fluid_at}
use Rattle.game_types.specs.declared.games.Game.{Game}
use Rattle.game_types.specs.declared.goods.Fluid.{Fluid}
use Rattle.game_types.specs.declared.goods.Item.{Item}
use Rattle.game_types.specs.declared.goods.Module.{Module}
use Rattle.game_types.specs.declared.research.Tech.{Tech}
use Rattle.game_types.specs.declared.machinery.Energy.{Energy}
use Rattle.game_types.specs.declared.machinery.Energy.TheVariants as energy
use Rattle.game_types.specs.declared.machinery.Machine.{Machine}
use Rattle.game_types.specs.declared.machinery.MachineKind.{MachineKind}
use Rattle.game_types.specs.declared.machinery.MachineKind.TheVariants.{Crafter, Drill, Pump, Boiler, Generator, BurnerGenerator, Solar, Reactor, Lab, Beacon}
use Rattle.game_types.specs.declared.recipes.Part.{Part}
use Rattle.game_types.specs.declared.recipes.Product.{Product}
use Rattle.game_types.specs.declared.recipes.Recipe.{Recipe}
use Rattle.game_types.specs.declared.recipes.Source.{Source}
use Rattle.fluid_variants.specs.declared.made.Made.{Made}
use Rattle.fluid_variants.specs.Temperatures.{all_made, machine_made, made, or_default, product_made}
use Rattle.fluid_variants.specs.Records.{Numbering, given_or, new_energy, new_kind, new_machine, new_part, new_product, new_recipe, new_source}

-- ---- what holds of all that is made holds of what each thing makes
all_left : {A : Type 0} (P : A → Type 0) (xs ys : List A) → All P (xs ++ ys) → All P xs
all_left P [] ys all = All-nil P
all_left P (x ∷ xs) ys all = All-cons P x xs (All-head P x (xs ++ ys) all) (all_left P xs ys (All-tail P x (xs ++ ys) all))

all_right : {A : Type 0} (P : A → Type 0) (xs ys : List A) → All P (xs ++ ys) → All P ys
all_right P [] ys all = all
all_right P (x ∷ xs) ys all = all_right P xs ys (All-tail P x (xs ++ ys) all)

each_of_flat : {A B : Type 0} (P : B → Type 0) (f : A → List B) (xs : List A) → All P (flat_map f xs) → All (λ x. All P (f x)) xs
each_of_flat P f [] all = All-nil (λ x. All P (f x))
each_of_flat P f (x ∷ xs) all = All-cons (λ y. All P (f y)) x xs (all_left P (f x) (flat_map f xs) all) (each_of_flat P f xs (all_right P (f x) (flat_map f xs) all))

each_found : {A B : Type 0} (P : B → Type 0) (f : A → Option B) (xs : List A) → All P (filter_map f xs) → All (λ x. IfSome (f x) P) xs
each_found P f [] all = All-nil (λ x. IfSome (f x) P)
each_found {A = A} {B = B} P f (x ∷ xs) all = by_found (f x) refl all (λ rest. each_found P f xs rest)
  where
    by_found : (found : Option B) → f x ≡ found → All P (cons_option found (filter_map f xs)) → (All P (filter_map f xs) → All (λ y. IfSome (f y) P) xs) → All (λ y. IfSome (f y) P) (x ∷ xs)
    by_found None is all later = All-cons (λ y. IfSome (f y) P) x xs (subst (λ (o : Option B). IfSome o P) (sym is) tt) (later all)
    by_found (Some y) is all later = All-cons (λ y. IfSome (f y) P) x xs (subst (λ (o : Option B). IfSome o P) (sym is) (All-head P y (filter_map f xs) all)) (later (All-tail P y (filter_map f xs) all))

if_some : {A : Type 0} (P Q : A → Type 0) → ((x : A) → P x → Q x) → (o : Option A) → IfSome o P → IfSome o Q
if_some P Q f None h = h
if_some P Q f (Some x) h = f x h

if_some_map : {A B : Type 0} (P : A → Type 0) (Q : B → Type 0) (f : A → B) → ((x : A) → P x → Q (f x)) → (o : Option A) → IfSome o P → IfSome (option_map f o) Q
if_some_map P Q f keep None h = tt
if_some_map P Q f keep (Some x) h = keep x h

-- ---- numbers of a game's goods in another game that has the same items
pub record IsNumbering (g new : Game) (numbering : Numbering) : Type 0 where
  pub items : new.items ≡ g.items
  pub good : (good : GoodId) → IsGood g good.0 → IsGood new (numbering.taken good).0
  pub fluid : (good : GoodId) → IsFluid g good.0 → IsFluid new (numbering.taken good).0
  pub given : All (λ m. IsFluid new (numbering.given m).0) (all_made g)
  pub recipes : new.recipes ≡ map (new_recipe g numbering) g.recipes
  pub sources : new.sources ≡ map (new_source g numbering) g.sources
  pub machines : new.machines ≡ map (new_machine g numbering) g.machines
  pub techs : new.techs ≡ g.techs

no_fluid_there : Fluid
no_fluid_there = record { fuel_value = zero_fraction; heat_capacity = zero_fraction; default_temperature = zero_fraction; of = None; at = zero_fraction }

module _ (g new : Game) (numbering : Numbering) (n : IsNumbering g new numbering) where
  abbrev IsGiven : Made → Type 0
  IsGiven m = IsFluid new (numbering.given m).0

  same_items : length new.items ≡ length g.items
  same_items = ap length n.items

  same_recipes : length new.recipes ≡ length g.recipes
  same_recipes = ap length n.recipes ∙ length-map g.recipes (new_recipe g numbering)

  same_machines : length new.machines ≡ length g.machines
  same_machines = ap length n.machines ∙ length-map g.machines (new_machine g numbering)

  still_item : (good : ℕ) → IsItem g good → IsItem new good
  still_item good h = let s = same_items in omega (arith, s, h)

  still_recipe : (r : ℕ) → r < length g.recipes → r < length new.recipes
  still_recipe r h = let s = same_recipes in omega (arith, s, h)

  -- ---- products
  no_fluid : (good : ℕ) → IsGood g good → fluid_at g good ≡ None → IsItem g good
  unfolding fluid_at
  no_fluid good is none = by_test (nat_lt good (length g.items)) refl none
    where
      by_test : (b : Bool) → nat_lt good (length g.items) ≡ b → (if b then None else slice_get g.fluids (good - length g.items)) ≡ None → good < length g.items
      by_test true test none = grind (arith, nat_tests, test)
      by_test false test none =
          let past : length g.items ≤ good = grind (arith, nat_tests, test) in
          let within : good - length g.items < length g.fluids = omega (arith, past, is) in
          absurd (let found = slice_get-get_or g.fluids (good - length g.items) no_fluid_there within in cc)

  product_sound : (product : Product) → IsGood g product.good.0 → IfSome (product_made g product) IsGiven → IsGood new (new_product g numbering product).good.0
  unfolding product_made
  product_sound product is given = by_fluid (fluid_at g product.good.0) refl given
    where
      by_fluid : (found : Option Fluid) → fluid_at g product.good.0 ≡ found → IfSome (option_map (λ fluid. made product.good (or_default product.temperature fluid)) found) IsGiven
          → IsGood new (given_or numbering product.good (option_map (λ fluid. made product.good (or_default product.temperature fluid)) found)).0
      by_fluid None same given = let item = still_item product.good.0 (no_fluid product.good.0 is same) in omega (arith, item)
      by_fluid (Some fluid) same given = given.1

  products_sound : (products : List Product) → All (λ product. IsGood g product.good.0) products → All IsGiven (filter_map (product_made g) products) → All (λ product. IsGood new product.good.0) (map (new_product g numbering) products)
  products_sound [] all given = All-nil (λ (product : Product). IsGood new product.good.0)
  products_sound (product ∷ products) all given =
      let each = each_found IsGiven (product_made g) (product ∷ products) given in
      All-map (λ (p : Product). IsGood new p.good.0) (new_product g numbering) (product ∷ products)
      (λ k d within. product_sound (get_or (product ∷ products) k d) (all k d within) (each k d within))

  part_sound : (part : Part) → IsGood g part.good.0 → IsGood new (new_part numbering part).good.0
  part_sound part h = n.good part.good h

  kind_crafts : (kind : MachineKind) → IsCrafterKind kind → IsCrafterKind (new_kind g numbering kind)
  kind_crafts (Crafter speed categories fixed) h = tt
  kind_crafts (Drill speed categories fluid_box) h = absurd h
  kind_crafts (Pump fluid speed) h = absurd h
  kind_crafts (Boiler input None target) h = absurd h
  kind_crafts (Boiler input (Some output) target) h = absurd h
  kind_crafts (Generator input effectivity per_tick max_temperature burns output) h = absurd h
  kind_crafts (BurnerGenerator output) h = absurd h
  kind_crafts (Solar production) h = absurd h
  kind_crafts Reactor h = absurd h
  kind_crafts (Lab inputs speed) h = absurd h
  kind_crafts (Beacon effectivity) h = absurd h

  crafter_sound : (silo : EntityId) → IsCrafter g silo → IsCrafter new silo
  crafter_sound silo h =
      subst (λ (machines : List Machine). IsSomeAnd (slice_get machines silo.0) (λ m. IsCrafterKind m.kind)) (sym n.machines)
      (subst (λ (o : Option Machine). IsSomeAnd o (λ m. IsCrafterKind m.kind)) (sym (slice_get-map (new_machine g numbering) g.machines silo.0)) (by_found (slice_get g.machines silo.0) h))
    where
      by_found : (found : Option Machine) → IsSomeAnd found (λ m. IsCrafterKind m.kind) → IsSomeAnd (option_map (new_machine g numbering) found) (λ m. IsCrafterKind m.kind)
      by_found None h = absurd h
      by_found (Some m) h = kind_crafts m.kind h

  -- ---- each record
  recipe_sound : (recipe : Recipe) → IsSoundRecipe g recipe → All IsGiven (filter_map (product_made g) recipe.products) → IsSoundRecipe new (new_recipe g numbering recipe)
  recipe_sound recipe h given = record {
    ingredients = All-map (λ (part : Part). IsGood new part.good.0) (new_part numbering) recipe.ingredients (All-weaker (λ (part : Part). IsGood g part.good.0) (λ part. IsGood new (new_part numbering part).good.0) part_sound recipe.ingredients h.ingredients);
    products = products_sound recipe.products h.products given;
    launch = if_some (IsCrafter g) (IsCrafter new) crafter_sound recipe.launch h.launch;
  }

  source_sound : (source : Source) → IsSoundSource g source → All IsGiven (filter_map (product_made g) source.products) → IsSoundSource new (new_source g numbering source)
  source_sound source h given = record {
    products = products_sound source.products h.products given;
    fluid = if_some_map (λ (f : GoodId × Fraction). IsFluid g f.0.0) (λ (f : GoodId × Fraction). IsFluid new f.0.0) (λ fluid. (numbering.taken fluid.0, fluid.1)) (λ f is. n.fluid f.0 is) source.fluid h.fluid;
  }

  taken_fluid : (fluid : Option GoodId) → IfSome fluid (λ f. IsFluid g f.0) → IfSome (option_map numbering.taken fluid) (λ f. IsFluid new f.0)
  taken_fluid fluid h = if_some_map (λ (f : GoodId). IsFluid g f.0) (λ (f : GoodId). IsFluid new f.0) numbering.taken n.fluid fluid h

  kind_sound : (kind : MachineKind) → IsSoundKind g kind → IfSome (machine_made g kind) IsGiven → IsSoundKind new (new_kind g numbering kind)
  unfolding machine_made
  kind_sound (Crafter speed categories fixed) h given = (h.0, if_some (λ (r : RecipeId). r.0 < length g.recipes) (λ (r : RecipeId). r.0 < length new.recipes) (λ r is. still_recipe r.0 is) fixed h.1)
  kind_sound (Drill speed categories fluid_box) h given = h
  kind_sound (Pump fluid speed) h given = (given, h.1)
  kind_sound (Boiler input None target) h given = (taken_fluid input h.0, tt)
  kind_sound (Boiler input (Some output) target) h given = (taken_fluid input h.0, given)
  kind_sound (Generator input effectivity per_tick max_temperature burns output) h given = (taken_fluid input h.0, h.1)
  kind_sound (BurnerGenerator output) h given = tt
  kind_sound (Solar production) h given = tt
  kind_sound Reactor h given = tt
  kind_sound (Lab inputs speed) h given = (All-weaker (λ (good : GoodId). IsItem g good.0) (λ (good : GoodId). IsItem new good.0) (λ good is. still_item good.0 is) inputs h.0, h.1)
  kind_sound (Beacon effectivity) h given = tt

  energy_sound : (source : Energy) → IsSoundEnergy g source → IsSoundEnergy new (new_energy numbering source)
  energy_sound energy.Electric h = tt
  energy_sound (energy.Burner categories effectivity) h = h
  energy_sound energy.Heat h = tt
  energy_sound (energy.Fluid filter effectivity) h = (taken_fluid filter h.0, h.1)
  energy_sound energy.Void h = tt

  burning_sound : (kind : MachineKind) (source : Energy) → IsSoundBurning kind source → IsSoundBurning (new_kind g numbering kind) (new_energy numbering source)
  burning_sound (BurnerGenerator output) (energy.Burner categories effectivity) h = tt
  burning_sound (BurnerGenerator output) energy.Electric h = absurd h
  burning_sound (BurnerGenerator output) energy.Heat h = absurd h
  burning_sound (BurnerGenerator output) (energy.Fluid filter effectivity) h = absurd h
  burning_sound (BurnerGenerator output) energy.Void h = absurd h
  burning_sound (Crafter speed categories fixed) source h = tt
  burning_sound (Drill speed categories fluid_box) source h = tt
  burning_sound (Pump fluid speed) source h = tt
  burning_sound (Boiler input None target) source h = tt
  burning_sound (Boiler input (Some output) target) source h = tt
  burning_sound (Generator input effectivity per_tick max_temperature burns output) source h = tt
  burning_sound (Solar production) source h = tt
  burning_sound Reactor source h = tt
  burning_sound (Lab inputs speed) source h = tt
  burning_sound (Beacon effectivity) source h = tt

  machine_sound : (machine : Machine) → IsSoundMachine g machine → IfSome (machine_made g machine.kind) IsGiven → IsSoundMachine new (new_machine g numbering machine)
  machine_sound machine h given = record {
    kind = kind_sound machine.kind h.kind given;
    energy = energy_sound machine.energy h.energy;
    burning = burning_sound machine.kind machine.energy h.burning;
    slots = h.slots;
  }

  module_sound : (m : Module) → IsSoundModule g m → IsSoundModule new m
  module_sound m h = record {
    bonus = h.bonus;
    limitation = All-weaker (λ (r : RecipeId). r.0 < length g.recipes) (λ (r : RecipeId). r.0 < length new.recipes) (λ r. still_recipe r.0) m.limitation h.limitation;
    blacklist = All-weaker (λ (r : RecipeId). r.0 < length g.recipes) (λ (r : RecipeId). r.0 < length new.recipes) (λ r. still_recipe r.0) m.blacklist h.blacklist;
  }

  item_sound : (item : Item) → IsSoundItem g item → IsSoundItem new item
  item_sound item h = record {
    place = if_some (λ (m : EntityId). m.0 < length g.machines) (λ (m : EntityId). m.0 < length new.machines) (λ m is. let s = same_machines in omega (arith, s, is)) item.place h.place;
    burnt = if_some (λ (good : GoodId). IsItem g good.0) (λ (good : GoodId). IsItem new good.0) (λ good. still_item good.0) item.burnt h.burnt;
    module_ = if_some (IsSoundModule g) (IsSoundModule new) module_sound item.module h.module_;
    launch = All-weaker (λ (product : Product). IsItem g product.good.0) (λ (product : Product). IsItem new product.good.0) (λ product. still_item product.good.0) item.launch h.launch;
  }

  tech_sound : (tech : Tech) → IsSoundTech g tech → IsSoundTech new tech
  tech_sound tech h = record {
    prerequisites = subst (λ (techs : List Tech). All (λ (t : TechId). t.0 < length techs) tech.prerequisites) (sym n.techs) h.prerequisites;
    unlocks = All-weaker (λ (r : RecipeId). r.0 < length g.recipes) (λ (r : RecipeId). r.0 < length new.recipes) (λ r. still_recipe r.0) tech.unlocks h.unlocks;
    ingredients = All-weaker (λ (part : GoodId × Fraction). IsItem g part.0.0) (λ (part : GoodId × Fraction). IsItem new part.0.0) (λ part. still_item part.0.0) tech.ingredients h.ingredients;
  }

  -- ---- all of them: what is made by recipes, by sources and by machines stands in this order
  abbrev recipes_made : List Made
  recipes_made = flat_map (λ recipe. filter_map (product_made g) recipe.products) g.recipes

  abbrev sources_made : List Made
  sources_made = flat_map (λ source. filter_map (product_made g) source.products) g.sources

  abbrev machines_made : List Made
  machines_made = filter_map (λ machine. machine_made g machine.kind) g.machines

  given_parts : All IsGiven recipes_made × All IsGiven sources_made × All IsGiven machines_made
  unfolding all_made
  given_parts =
      let both = all_left IsGiven (recipes_made ++ sources_made) machines_made n.given in
      (all_left IsGiven recipes_made sources_made both, all_right IsGiven recipes_made sources_made both, all_right IsGiven (recipes_made ++ sources_made) machines_made n.given)

  pub recipes_sound : All (IsSoundRecipe g) g.recipes → All (IsSoundRecipe new) (map (new_recipe g numbering) g.recipes)
  recipes_sound h =
      let given = each_of_flat IsGiven (λ recipe. filter_map (product_made g) recipe.products) g.recipes given_parts.0 in
      All-map (IsSoundRecipe new) (new_recipe g numbering) g.recipes (λ k d within. recipe_sound (get_or g.recipes k d) (h k d within) (given k d within))

  pub sources_sound : All (IsSoundSource g) g.sources → All (IsSoundSource new) (map (new_source g numbering) g.sources)
  sources_sound h =
      let given = each_of_flat IsGiven (λ source. filter_map (product_made g) source.products) g.sources given_parts.1 in
      All-map (IsSoundSource new) (new_source g numbering) g.sources (λ k d within. source_sound (get_or g.sources k d) (h k d within) (given k d within))

  pub machines_sound : All (IsSoundMachine g) g.machines → All (IsSoundMachine new) (map (new_machine g numbering) g.machines)
  machines_sound h =
      let given = each_found IsGiven (λ machine. machine_made g machine.kind) g.machines given_parts.2 in
      All-map (IsSoundMachine new) (new_machine g numbering) g.machines (λ k d within. machine_sound (get_or g.machines k d) (h k d within) (given k d within))

  pub renumbered_sound : IsSound g → length new.fluid_names ≡ length new.fluids → node_count (shape_of new) ≤ node_limit → All (IsSoundFluid new) new.fluids → AreApart new.fluids
      → new.item_names ≡ g.item_names → new.recipe_names ≡ g.recipe_names → new.source_names ≡ g.source_names → new.machine_names ≡ g.machine_names → new.tech_names ≡ g.tech_names → IsSound new
  renumbered_sound h fluid_names nodes fluids apart items recipes sources machines techs = record {
    item_names = ap length items ∙ h.item_names ∙ sym same_items;
    fluid_names = fluid_names;
    recipe_names = ap length recipes ∙ h.recipe_names ∙ sym same_recipes;
    source_names = ap length sources ∙ h.source_names ∙ sym (ap length n.sources ∙ length-map g.sources (new_source g numbering));
    machine_names = ap length machines ∙ h.machine_names ∙ sym same_machines;
    tech_names = ap length techs ∙ h.tech_names ∙ sym (ap length n.techs);
    nodes = nodes;
    items = subst (λ (xs : List Item). All (IsSoundItem new) xs) (sym n.items) (All-weaker (IsSoundItem g) (IsSoundItem new) item_sound g.items h.items);
    fluids = fluids;
    apart = apart;
    recipes = subst (λ (xs : List Recipe). All (IsSoundRecipe new) xs) (sym n.recipes) (recipes_sound h.recipes);
    sources = subst (λ (xs : List Source). All (IsSoundSource new) xs) (sym n.sources) (sources_sound h.sources);
    machines = subst (λ (xs : List Machine). All (IsSoundMachine new) xs) (sym n.machines) (machines_sound h.machines);
    techs = subst (λ (xs : List Tech). All (IsSoundTech new) xs) (sym n.techs) (All-weaker (IsSoundTech g) (IsSoundTech new) tech_sound g.techs h.techs);
  }
