-- What is linked of a sound first pass is a sound game.
use Rattle.std.proofs.Common.{◌≡◌, ◌∙◌, ℕ, ◌+◌, ◌<◌, ◌≤◌, List, [], ◌∷◌, Option, Some, None, Ok, Err, Result, Bool, true, false, length, refl, sym, subst, arith}
use Rattle.std.specs.Prelude.{All, IfOk, IfSome, if◌then◌else◌, option_map, slice_get}
use Rattle.std.specs.List.{cons_option, filter_map}
use Rattle.std.proofs.lemmas.List.Elements.{All-nil, All-cons, All-head, All-tail}
use Rattle.std.proofs.lemmas.Option.{get_or_from_slice_get, slice_get_within}
use Rattle.fractions.specs.Fraction.{Fraction}
use Rattle.plan_base.specs.declared.ids.GoodId.{GoodId}
use Rattle.plan_base.specs.declared.ids.RecipeId.{RecipeId}
use Rattle.name_table.specs.Names.{place_of}
use Rattle.name_table.proofs.NamesLemmas.{named_at}
use Rattle.prototype_fields.specs.declared.names.Key.{Key}
use Rattle.prototype_fields.specs.declared.names.Key.TheVariants.{BurntResult, RequiredFluid, FixedRecipe, Filter, Inputs, Prerequisites, Name, Recipe as RecipeKey, Fluid as FluidKey}
use Rattle.prototype_fields.specs.declared.names.Within.{Within}
use Rattle.prototype_fields.specs.declared.names.Within.TheVariants as within
use Rattle.prototype_fields.specs.Values.{Reading, ◌▸◌, each}
use Rattle.craft_reader.specs.declared.fault.DumpFault.{DumpFault}
use Rattle.craft_reader.specs.declared.goods.GoodKind.{GoodKind}
use Rattle.craft_reader.specs.declared.goods.GoodKind.TheVariants as good_kind
use Rattle.craft_reader.specs.declared.goods.NamedGood.{NamedGood}
use Rattle.craft_reader.specs.declared.goods.RawPack.{RawPack}
use Rattle.craft_reader.specs.declared.goods.RawPart.{RawPart}
use Rattle.craft_reader.specs.declared.given.RawProduct.{RawProduct}
use Rattle.craft_reader.specs.declared.recipes.RawRecipe.{RawRecipe}
use Rattle.craft_reader.specs.declared.technologies.RawTech.{RawTech}
use Rattle.craft_reader.specs.Faults.{GivesDump, in_prototype}
use Rattle.game_types.specs.Nodes.{node_limit}
use Rattle.game_types.specs.declared.games.Game.{Game}
use Rattle.game_types.specs.declared.goods.Fluid.{Fluid}
use Rattle.game_types.specs.declared.goods.Item.{Item}
use Rattle.game_types.specs.declared.machinery.Energy.{Energy}
use Rattle.game_types.specs.declared.machinery.Machine.{Machine}
use Rattle.game_types.specs.declared.recipes.Recipe.{Recipe}
use Rattle.game_types.specs.declared.recipes.Source.{Source}
use Rattle.game_types.specs.declared.research.Tech.{Tech}
use Rattle.game_types.specs.Sound.{ArePlain, AreApart, IsBase, IsItem, IsGood, IsFluid, IsSound, IsSoundFluid, IsSoundItem, IsSoundModule, IsSoundRecipe, IsSoundSource, IsSoundKind, IsSoundEnergy, IsSoundBurning, IsSoundMachine, IsSoundTech, IsBurner, IsSoundBonus}
use Rattle.machine_reader.specs.declared.raw.RawEnergy.{RawEnergy}
use Rattle.machine_reader.specs.declared.raw.RawEnergy.TheVariants as raw_energy
use Rattle.dump_reader.specs.declared.raw.RawItem.{RawItem}
use Rattle.machine_reader.specs.declared.raw.RawKind.{RawKind}
use Rattle.machine_reader.specs.declared.raw.RawKind.TheVariants as raw_kind
use Rattle.machine_reader.specs.declared.raw.RawMachine.{RawMachine}
use Rattle.dump_reader.specs.declared.raw.RawModule.{RawModule}
use Rattle.dump_reader.specs.declared.raw.RawSource.{RawSource}
use Rattle.machine_reader.specs.declared.sections.Section.{Section}
use Rattle.machine_reader.specs.declared.sections.Section.TheVariants as section
use Rattle.dump_reader.specs.Draft.{RawGame}
use Rattle.dump_reader.specs.Dump.{◌▷◌}
use Rattle.machine_reader.specs.Sections.{section_text}
use Rattle.machine_reader.specs.Sound.{IsSoundRawKind, IsSoundRawEnergy, IsRawBurner, IsSoundRawBurning, IsSoundRawMachine}
use Rattle.dump_reader.specs.Sound.{IsSoundRawItem, IsSoundDraft}
use Rattle.game_reader.specs.declared.families.Families.{Families}
use Rattle.game_reader.specs.Links.{Working, each_linked, families_of, fluid_named, good_at, good_by, if_given, item_named, known_machine, known_recipes, linked, linked_energy, linked_fluid, linked_good, linked_item, linked_kind, linked_launch, linked_machine, linked_module, linked_pack, linked_part, linked_product, linked_recipe, linked_source, linked_tech, linked_working, machine_at, or_unknown, recipe_at, recipe_named, tech_at, tech_named}

-- ---- what holds of a value that is read
sure : {A B : Type 0} (P : A → Type 0) (Q : B → Type 0) (r : Reading A) (next : A → Reading B) → IfOk r P → ((value : A) → P value → IfOk (next value) Q) → IfOk (r ▸ next) Q
sure P Q (Ok value) next holds later = later value holds
sure P Q (Err fault) next holds later = tt

each_sure : {A B : Type 0} (P : B → Type 0) (read : A → Reading B) → ((x : A) → IfOk (read x) P) → (xs : List A) → IfOk (each read xs) (All P)
each_sure P read one [] = All-nil P
each_sure P read one (x ∷ xs) =
    sure P (All P) (read x) (λ first. each read xs ▸ λ rest. Ok (first ∷ rest)) (one x)
    (λ first holds. sure (All P) (All P) (each read xs) (λ rest. Ok (first ∷ rest)) (each_sure P read one xs) (λ rest hold. All-cons P first rest holds hold))

given_sure : {A B : Type 0} (P : B → Type 0) (link : A → Reading B) → ((x : A) → IfOk (link x) P) → (o : Option A) → IfOk (if_given link o) (λ found. IfSome found P)
given_sure P link one None = tt
given_sure P link one (Some x) = sure P (λ found. IfSome found P) (link x) (λ found. Ok (Some found)) (one x) (λ found holds. holds)

known_sure : {A : Type 0} (P : A → Type 0) (within : Within) (key : Key) (found : Option A) → IfSome found P → IfOk (or_unknown within key found) P
known_sure P within key None holds = tt
known_sure P within key (Some number) holds = holds

-- a place is below the number of names
place_below : {A : Type 0} (P : A → Type 0) (number : ℕ → A) (names : List (List ℕ)) (name : List ℕ) → ((k : ℕ) → k < length names → P (number k)) → IfSome (option_map number (place_of names name)) P
place_below {A = A} P number names name below = by_place (place_of names name) refl
  where
    by_place : (place : Option ℕ) → place_of names name ≡ place → IfSome (option_map number place) P
    by_place None is = tt
    by_place (Some k) is = below k (slice_get_within names k name (named_at names name k is))

-- ---- a game of which the numbers of prototypes are those of the names
pub record HasCounts (names : Families) (game : Game) : Type 0 where
  pub items : length names.items ≡ length game.items
  pub fluids : length names.fluids ≡ length game.fluids
  pub recipes : length names.recipes ≡ length game.recipes
  pub machines : length names.machines ≡ length game.machines
  pub techs : length names.techs ≡ length game.techs

module _ (names : Families) (game : Game) (counts : HasCounts names game) where
  item_sure : (within : Within) (key : Key) (name : List ℕ) → IfOk (item_named names within key name) (λ good. IsItem game good.0)
  unfolding item_named
  item_sure within key name = known_sure (λ good. IsItem game good.0) within key (option_map good_at (place_of names.items name))
      (place_below (λ good. IsItem game good.0) good_at names.items name (λ k below. subst (λ (n : ℕ). k < n) counts.items below))

  fluid_sure : (within : Within) (key : Key) (name : List ℕ) → IfOk (fluid_named names within key name) (λ good. IsFluid game good.0)
  unfolding fluid_named
  fluid_sure within key name = known_sure (λ good. IsFluid game good.0) within key (option_map (λ place. good_at (length names.items + place)) (place_of names.fluids name))
      (place_below (λ good. IsFluid game good.0) (λ place. good_at (length names.items + place)) names.fluids name (λ k below. let items = counts.items in let fluids = counts.fluids in (omega arith, omega arith)))

  recipe_sure : (within : Within) (key : Key) (name : List ℕ) → IfOk (recipe_named names within key name) (λ r. r.0 < length game.recipes)
  unfolding recipe_named
  recipe_sure within key name = known_sure (λ r. r.0 < length game.recipes) within key (option_map recipe_at (place_of names.recipes name))
      (place_below (λ r. r.0 < length game.recipes) recipe_at names.recipes name (λ k below. subst (λ (n : ℕ). k < n) counts.recipes below))

  tech_sure : (within : Within) (key : Key) (name : List ℕ) → IfOk (tech_named names within key name) (λ t. t.0 < length game.techs)
  unfolding tech_named
  tech_sure within key name = known_sure (λ t. t.0 < length game.techs) within key (option_map tech_at (place_of names.techs name))
      (place_below (λ t. t.0 < length game.techs) tech_at names.techs name (λ k below. subst (λ (n : ℕ). k < n) counts.techs below))

  machine_sure : (name : Option (List ℕ)) → IfSome (known_machine names name) (λ m. m.0 < length game.machines)
  unfolding known_machine
  machine_sure None = tt
  machine_sure (Some name) = place_below (λ m. m.0 < length game.machines) machine_at names.machines name (λ k below. subst (λ (n : ℕ). k < n) counts.machines below)

  recipes_sure : (given : List (List ℕ)) → All (λ r. r.0 < length game.recipes) (known_recipes names given)
  unfolding known_recipes
  recipes_sure [] = All-nil (λ r. r.0 < length game.recipes)
  recipes_sure (name ∷ given) =
      by_found (recipes_sure given) (option_map recipe_at (place_of names.recipes name)) (place_below (λ r. r.0 < length game.recipes) recipe_at names.recipes name (λ k below. subst (λ (n : ℕ). k < n) counts.recipes below))
    where
      rest : List RecipeId
      rest = filter_map (λ one. option_map recipe_at (place_of names.recipes one)) given

      by_found : All (λ r. r.0 < length game.recipes) rest → (found : Option RecipeId) → IfSome found (λ r. r.0 < length game.recipes) → All (λ r. r.0 < length game.recipes) (cons_option found rest)
      by_found others None holds = others
      by_found others (Some recipe) holds = All-cons (λ r. r.0 < length game.recipes) recipe rest holds others

  -- ---- goods
  is_good : (good : ℕ) → IsItem game good → IsGood game good
  is_good good below = omega arith

  good_by_sure : (which : GoodKind) (within : Within) (key : Key) (name : List ℕ) → IfOk (good_by names which within key name) (λ good. IsGood game good.0)
  good_by_sure good_kind.Item within key name = item_good (item_named names within key name) (item_sure within key name)
    where
      item_good : (r : Reading GoodId) → IfOk r (λ good. IsItem game good.0) → IfOk r (λ good. IsGood game good.0)
      item_good (Ok good) holds = is_good good.0 holds
      item_good (Err fault) holds = tt
  good_by_sure good_kind.Fluid within key name = fluid_good (fluid_named names within key name) (fluid_sure within key name)
    where
      fluid_good : (r : Reading GoodId) → IfOk r (λ good. IsFluid game good.0) → IfOk r (λ good. IsGood game good.0)
      fluid_good (Ok good) holds = holds.1
      fluid_good (Err fault) holds = tt

  good_sure : (good : NamedGood) → IfOk (linked_good names good) (λ found. IsGood game found.0)
  unfolding linked_good
  good_sure good = good_by_sure good.kind good.within good.key good.name

  part_sure : (part : RawPart) → IfOk (linked_part names part) (λ found. IsGood game found.good.0)
  unfolding linked_part
  part_sure part = sure (λ good. IsGood game good.0) (λ found. IsGood game found.good.0) (linked_good names part.good) _ (good_sure part.good) (λ good holds. holds)

  product_sure : (product : RawProduct) → IfOk (linked_product names product) (λ found. IsGood game found.good.0)
  unfolding linked_product
  product_sure product = sure (λ good. IsGood game good.0) (λ found. IsGood game found.good.0) (linked_good names product.good) _ (good_sure product.good) (λ good holds. holds)

  launch_sure : (product : RawProduct) → IfOk (linked_launch names product) (λ found. IsItem game found.good.0)
  unfolding linked_launch
  launch_sure product = sure (λ good. IsItem game good.0) (λ found. IsItem game found.good.0) (item_named names product.good.within product.good.key product.good.name) _ (item_sure product.good.within product.good.key product.good.name) (λ good holds. holds)

  pack_sure : (pack : RawPack) → IfOk (linked_pack names pack) (λ found. IsItem game found.0.0)
  unfolding linked_pack
  pack_sure pack = sure (λ good. IsItem game good.0) (λ found. IsItem game found.0.0) (item_named names within.UnitIngredients Name pack.name) _ (item_sure within.UnitIngredients Name pack.name) (λ good holds. holds)

  -- ---- prototypes
  module_sure : (found : Option RawModule) → IfSome found (λ m. IsSoundBonus m.bonus) → IfSome (option_map (linked_module names) found) (IsSoundModule game)
  unfolding linked_module
  module_sure None bonus = tt
  module_sure (Some found) bonus = record { bonus = bonus; limitation = recipes_sure found.limitation; blacklist = recipes_sure found.blacklist }

  pub item_sound : (item : RawItem) → IsSoundRawItem item → IfOk (linked_item names item) (IsSoundItem game)
  unfolding linked_item
  item_sound item sound =
      sure (λ found. IfSome found (λ good. IsItem game good.0)) (IsSoundItem game) (if_given (item_named names within.Prototype BurntResult) item.burnt) _
      (given_sure (λ good. IsItem game good.0) (item_named names within.Prototype BurntResult) (item_sure within.Prototype BurntResult) item.burnt)
      (λ burnt holds. sure (All (λ product. IsItem game product.good.0)) (IsSoundItem game) (each (linked_launch names) item.launch) _ (each_sure (λ product. IsItem game product.good.0) (linked_launch names) launch_sure item.launch)
      (λ launch given. record { place = machine_sure item.place; burnt = holds; module_ = module_sure item.module sound; launch = given }))

  pub recipe_sound : (recipe : RawRecipe) → IfOk (linked_recipe names recipe) (IsSoundRecipe game)
  unfolding linked_recipe
  recipe_sound recipe =
      sure (All (λ part. IsGood game part.good.0)) (IsSoundRecipe game) (each (linked_part names) recipe.ingredients) _ (each_sure (λ part. IsGood game part.good.0) (linked_part names) part_sure recipe.ingredients)
      (λ ingredients parts. sure (All (λ product. IsGood game product.good.0)) (IsSoundRecipe game) (each (linked_product names) recipe.products) _ (each_sure (λ product. IsGood game product.good.0) (linked_product names) product_sure recipe.products)
      (λ products given. record { ingredients = parts; products = given; launch = tt }))

  taken_sure : (taken : List ℕ × Fraction) → IfOk (linked_fluid names taken) (λ f. IsFluid game f.0.0)
  unfolding linked_fluid
  taken_sure taken = sure (λ good. IsFluid game good.0) (λ f. IsFluid game f.0.0) (fluid_named names within.Minable RequiredFluid taken.0) _ (fluid_sure within.Minable RequiredFluid taken.0) (λ good holds. holds)

  pub source_sound : (source : RawSource) → IfOk (linked_source names source) (IsSoundSource game)
  unfolding linked_source
  source_sound source =
      sure (All (λ product. IsGood game product.good.0)) (IsSoundSource game) (each (linked_product names) source.products) _ (each_sure (λ product. IsGood game product.good.0) (linked_product names) product_sure source.products)
      (λ products given. sure (λ found. IfSome found (λ f. IsFluid game f.0.0)) (IsSoundSource game) (if_given (linked_fluid names) source.fluid) _ (given_sure (λ f. IsFluid game f.0.0) (linked_fluid names) taken_sure source.fluid)
      (λ fluid taken. record { products = given; fluid = taken }))

  pub tech_sound : (tech : RawTech) → IfOk (linked_tech names tech) (IsSoundTech game)
  unfolding linked_tech
  tech_sound tech =
      sure (All (λ t. t.0 < length game.techs)) (IsSoundTech game) (each (tech_named names within.Prototype Prerequisites) tech.prerequisites) _ (each_sure (λ t. t.0 < length game.techs) (tech_named names within.Prototype Prerequisites) (tech_sure within.Prototype Prerequisites) tech.prerequisites)
      (λ prerequisites techs. sure (All (λ part. IsItem game part.0.0)) (IsSoundTech game) (each (linked_pack names) tech.ingredients) _ (each_sure (λ part. IsItem game part.0.0) (linked_pack names) pack_sure tech.ingredients)
      (λ ingredients packs. sure (All (λ r. r.0 < length game.recipes)) (IsSoundTech game) (each (recipe_named names within.Effects RecipeKey) tech.unlocks) _ (each_sure (λ r. r.0 < length game.recipes) (recipe_named names within.Effects RecipeKey) (recipe_sure within.Effects RecipeKey) tech.unlocks)
      (λ unlocks recipes. record { prerequisites = techs; unlocks = recipes; ingredients = packs })))

  -- ---- machines

  energy_sound : (source : RawEnergy) → IsSoundRawEnergy source → IfOk (linked_energy names source) (λ power. IsSoundEnergy game power × (IsRawBurner source → IsBurner power))
  unfolding linked_energy
  energy_sound raw_energy.Electric sound = (tt, λ h. absurd h)
  energy_sound (raw_energy.Burner categories effectivity) sound = (sound, λ h. tt)
  energy_sound raw_energy.Heat sound = (tt, λ h. absurd h)
  energy_sound (raw_energy.Fluid filter effectivity) sound =
      sure (λ found. IfSome found (λ f. IsFluid game f.0)) (λ power. IsSoundEnergy game power × (⊥ → IsBurner power)) (if_given (fluid_named names within.EnergySourceFluidBox Filter) filter) _
      (given_sure (λ f. IsFluid game f.0) (fluid_named names within.EnergySourceFluidBox Filter) (fluid_sure within.EnergySourceFluidBox Filter) filter) (λ found holds. ((holds, sound), λ h. absurd h))
  energy_sound raw_energy.Void sound = (tt, λ h. absurd h)

  abbrev IsSoundWorking : Working → Type 0
  IsSoundWorking working = IsSoundKind game working.0 × IsSoundEnergy game working.1 × IsSoundBurning working.0 working.1

  abbrev Power : RawEnergy → Energy → Type 0
  Power source power = IsSoundEnergy game power × (IsRawBurner source → IsBurner power)

  fluids_sure : (within : Within) (name : Option (List ℕ)) → IfOk (if_given (fluid_named names within Filter) name) (λ found. IfSome found (λ f. IsFluid game f.0))
  fluids_sure within name = given_sure (λ f. IsFluid game f.0) (fluid_named names within Filter) (fluid_sure within Filter) name

  chosen_fluid : (inside : Bool) (taken given : Option GoodId) → IfSome taken (λ f. IsFluid game f.0) → IfSome given (λ f. IsFluid game f.0) → IfSome (if inside then taken else given) (λ f. IsFluid game f.0)
  chosen_fluid true taken given first second = first
  chosen_fluid false taken given first second = second

  working_sound : (what : RawKind) (source : RawEnergy) → IsSoundRawKind what → IsSoundRawEnergy source → IsSoundRawBurning what source → IfOk (linked_working names what source) IsSoundWorking
  working_sound (raw_kind.Crafter speed categories fixed) source fast sound burning =
      sure (Power source) IsSoundWorking (linked_energy names source) _ (energy_sound source sound)
      (λ power p. sure (λ found. IfSome found (λ r. r.0 < length game.recipes)) IsSoundWorking (if_given (recipe_named names within.Prototype FixedRecipe) fixed) _
      (given_sure (λ r. r.0 < length game.recipes) (recipe_named names within.Prototype FixedRecipe) (recipe_sure within.Prototype FixedRecipe) fixed) (λ recipe holds. ((fast, holds), p.0, tt)))
  working_sound (raw_kind.Drill speed categories fluid_box) source fast sound burning =
      sure (Power source) IsSoundWorking (linked_energy names source) _ (energy_sound source sound) (λ power p. (fast, p.0, tt))
  working_sound (raw_kind.Pump fluid speed) source fast sound burning =
      sure (λ f. IsFluid game f.0) IsSoundWorking (fluid_named names within.Prototype FluidKey fluid) _ (fluid_sure within.Prototype FluidKey fluid)
      (λ good holds. sure (Power source) IsSoundWorking (linked_energy names source) _ (energy_sound source sound) (λ power p. ((holds, fast), p.0, tt)))
  working_sound (raw_kind.Boiler input output inside temperature) source fast sound burning =
      sure (Power source) IsSoundWorking (linked_energy names source) _ (energy_sound source sound)
      (λ power p. sure (λ found. IfSome found (λ f. IsFluid game f.0)) IsSoundWorking (if_given (fluid_named names within.FluidBox Filter) input) _ (fluids_sure within.FluidBox input)
      (λ taken first. sure (λ found. IfSome found (λ f. IsFluid game f.0)) IsSoundWorking (if_given (fluid_named names within.OutputFluidBox Filter) output) _ (fluids_sure within.OutputFluidBox output)
      (λ given second. ((first, chosen_fluid inside taken given first second), p.0, tt))))
  working_sound (raw_kind.Generator input effectivity per_tick max_temperature burns output) source fast sound burning =
      sure (λ found. IfSome found (λ f. IsFluid game f.0)) IsSoundWorking (if_given (fluid_named names within.FluidBox Filter) input) _ (fluids_sure within.FluidBox input)
      (λ taken first. sure (Power source) IsSoundWorking (linked_energy names source) _ (energy_sound source sound) (λ power p. ((first, fast), p.0, tt)))
  working_sound (raw_kind.BurnerGenerator output) source fast sound burning =
      sure (Power source) IsSoundWorking (linked_energy names source) _ (energy_sound source sound) (λ power p. (tt, p.0, p.1 burning))
  working_sound (raw_kind.Solar production) source fast sound burning =
      sure (Power source) IsSoundWorking (linked_energy names source) _ (energy_sound source sound) (λ power p. (tt, p.0, tt))
  working_sound raw_kind.Reactor source fast sound burning =
      sure (Power source) IsSoundWorking (linked_energy names source) _ (energy_sound source sound) (λ power p. (tt, p.0, tt))
  working_sound (raw_kind.Lab inputs speed) source fast sound burning =
      sure (All (λ good. IsItem game good.0)) IsSoundWorking (each (item_named names within.Prototype Inputs) inputs) _ (each_sure (λ good. IsItem game good.0) (item_named names within.Prototype Inputs) (item_sure within.Prototype Inputs) inputs)
      (λ goods hold. sure (Power source) IsSoundWorking (linked_energy names source) _ (energy_sound source sound) (λ power p. ((hold, fast), p.0, tt)))
  working_sound (raw_kind.Beacon effectivity) source fast sound burning =
      sure (Power source) IsSoundWorking (linked_energy names source) _ (energy_sound source sound) (λ power p. (tt, p.0, tt))

  kind_sound : (what : RawKind) (source : RawEnergy) → IsSoundRawKind what → IsSoundRawEnergy source → IsSoundRawBurning what source → IfOk (linked_kind names what source) IsSoundWorking
  unfolding linked_kind
  kind_sound what source fast sound burning = working_sound what source fast sound burning

  pub machine_sound : (machine : RawMachine) → IsSoundRawMachine machine → IfOk (linked_machine names machine) (IsSoundMachine game)
  unfolding linked_machine
  machine_sound machine sound =
      sure IsSoundWorking (IsSoundMachine game) (linked_kind names machine.kind machine.energy) _ (kind_sound machine.kind machine.energy sound.kind sound.energy sound.burning)
      (λ working holds. record { kind = holds.0; energy = holds.1; burning = holds.2; slots = sound.slots })

-- ---- lists of prototypes
abbrev Count : {A B : Type 0} → List A → (B → Type 0) → List B → Type 0
Count raws P found = (length found ≡ length raws) × All P found

then_sure : {A B : Type 0} (P : A → Type 0) (Q : B → Type 0) (r : Result A DumpFault) (next : A → Result B DumpFault) → IfOk r P → ((value : A) → P value → IfOk (next value) Q) → IfOk (r ▷ next) Q
then_sure P Q (Ok value) next holds later = later value holds
then_sure P Q (Err fault) next holds later = tt

in_prototype_sure : {B : Type 0} (P : B → Type 0) (section name : List ℕ) (read : Reading B) → IfOk read P → IfOk (in_prototype section name read) P
in_prototype_sure P section name (Ok value) holds = holds
in_prototype_sure P section name (Err fault) holds = tt

linked_sure : {A B : Type 0} (P : A → Type 0) (Q : B → Type 0) (section_of : A → Section) (link : A → Reading B) → ((raw : A) → P raw → IfOk (link raw) Q)
    → (raws : List A) (names : List (List ℕ)) → All P raws → length names ≡ length raws → IfOk (each_linked section_of link raws names) (Count raws Q)
linked_sure P Q section_of link one [] names hold same = (refl, All-nil Q)
linked_sure P Q section_of link one (raw ∷ raws) [] hold same = absurd (omega (arith, same))
linked_sure P Q section_of link one (raw ∷ raws) (name ∷ names) hold same =
    then_sure Q (Count (raw ∷ raws) Q) (in_prototype (section_text (section_of raw)) name (link raw)) (λ first. each_linked section_of link raws names ▷ λ rest. Ok (first ∷ rest))
    (in_prototype_sure Q (section_text (section_of raw)) name (link raw) (one raw (All-head P raw raws hold)))
    (λ first holds. then_sure (Count raws Q) (Count (raw ∷ raws) Q) (each_linked section_of link raws names) (λ rest. Ok (first ∷ rest)) (linked_sure P Q section_of link one raws names (All-tail P raw raws hold) (grind (arith, same)))
    (λ rest h. (grind (arith, h.0), All-cons Q first rest holds h.1)))

-- the same where what holds speaks of the game that is made of all
abbrev Later : {A B : Type 0} → Families → (Game → B → Type 0) → List A → List B → Type 0
Later names Q raws found = (length found ≡ length raws) × ((game : Game) → HasCounts names game → All (Q game) found)

linked_later : {A B : Type 0} (names : Families) (P : A → Type 0) (Q : Game → B → Type 0) (section_of : A → Section) (link : A → Reading B)
    → ((game : Game) → HasCounts names game → (raw : A) → P raw → IfOk (link raw) (Q game))
    → (raws : List A) (own : List (List ℕ)) → All P raws → length own ≡ length raws → IfOk (each_linked section_of link raws own) (Later names Q raws)
linked_later {A = A} {B = B} names P Q section_of link one raws own hold same = both (each_linked section_of link raws own)
    (linked_sure P (λ _. Unit {0}) section_of link (λ raw h. any (link raw)) raws own hold same)
    (λ game counts. linked_sure P (Q game) section_of link (one game counts) raws own hold same)
  where
    any : (r : Reading B) → IfOk r (λ _. Unit {0})
    any (Ok value) = tt
    any (Err fault) = tt

    both : (r : Result (List B) DumpFault) → IfOk r (Count raws (λ _. Unit {0})) → ((game : Game) → HasCounts names game → IfOk r (Count raws (Q game))) → IfOk r (Later names Q raws)
    both (Ok found) counted holds = (counted.0, λ game counts. (holds game counts).1)
    both (Err fault) counted holds = tt

-- ---- the game
abbrev made : RawGame → List Item → List Recipe → List Source → List Machine → List Tech → Game
made g items recipes sources machines techs = record {
  items = items;
  fluids = g.fluids;
  recipes = recipes;
  sources = sources;
  machines = machines;
  techs = techs;
  character = record { crafting = g.crafting; mining = g.mining };
  item_names = g.item_names;
  fluid_names = g.fluid_names;
  recipe_names = g.recipe_names;
  source_names = g.source_names;
  machine_names = g.machine_names;
  tech_names = g.tech_names;
  categories = g.categories;
}

any_holds : {A : Type 0} (xs : List A) → All (λ _. Unit {0}) xs
any_holds xs = λ k d below. tt

plain_sound : (game : Game) (fluids : List Fluid) → ArePlain fluids → All (IsSoundFluid game) fluids
plain_sound game fluids plain = λ k d below. subst (λ (of : Option GoodId). IfSome of (IsBase game)) (sym (plain k d below)) tt

plain_at : (fluids : List Fluid) (i : ℕ) (one : Fluid) → ArePlain fluids → slice_get fluids i ≡ Some one → one.of ≡ None
plain_at fluids i one plain is = subst (λ (f : Fluid). f.of ≡ None) (get_or_from_slice_get fluids i one one is) (plain i one (slice_get_within fluids i one is))

plain_apart : (fluids : List Fluid) → ArePlain fluids → AreApart fluids
plain_apart fluids plain = λ i j one other base first second of_one of_other same. let none : one.of ≡ None = plain_at fluids i one plain first in absurd (cc)

made_sound : (g : RawGame) → IsSoundDraft g → (items : List Item) (recipes : List Recipe) (sources : List Source) (machines : List Machine) (techs : List Tech)
    → Later (families_of g) IsSoundItem g.items items → Later (families_of g) IsSoundRecipe g.recipes recipes → Later (families_of g) IsSoundSource g.sources sources → Later (families_of g) IsSoundMachine g.machines machines → Later (families_of g) IsSoundTech g.techs techs
    → IsSound (made g items recipes sources machines techs)
made_sound g sound items recipes sources machines techs a b c d e =
    let game : Game = made g items recipes sources machines techs in
    let counts : HasCounts (families_of g) game = record {
      items = sound.item_names ∙ sym a.0;
      fluids = sound.fluid_names;
      recipes = sound.recipe_names ∙ sym b.0;
      machines = sound.machine_names ∙ sym d.0;
      techs = sound.tech_names ∙ sym e.0;
    } in
    let h0 : length items ≡ length g.items = a.0 in
    let h1 : length recipes ≡ length g.recipes = b.0 in
    let h2 : length sources ≡ length g.sources = c.0 in
    let h3 : length machines ≡ length g.machines = d.0 in
    let h4 : length techs ≡ length g.techs = e.0 in
    let counted : g.nodes ≡ 3 + length g.items + length g.fluids + length g.recipes + length g.sources + length g.machines + length g.techs = sound.counted in
    let few : g.nodes ≤ node_limit = sound.few in
    record {
      item_names = sound.item_names ∙ sym a.0;
      fluid_names = sound.fluid_names;
      recipe_names = sound.recipe_names ∙ sym b.0;
      source_names = sound.source_names ∙ sym c.0;
      machine_names = sound.machine_names ∙ sym d.0;
      tech_names = sound.tech_names ∙ sym e.0;
      nodes = omega arith;
      items = a.1 game counts;
      fluids = plain_sound game g.fluids sound.fluids;
      apart = plain_apart g.fluids sound.fluids;
      recipes = b.1 game counts;
      sources = c.1 game counts;
      machines = d.1 game counts;
      techs = e.1 game counts;
    }

pub linked_fluids : (g : RawGame) → IfOk (linked g) (λ game. game.fluids ≡ g.fluids)
unfolding linked
linked_fluids g =
    let names : Families = families_of g in
    after (each_linked (λ item. item.section) (linked_item names) g.items g.item_names) _ λ items.
    after (each_linked (λ _. section.Recipe) (linked_recipe names) g.recipes g.recipe_names) _ λ recipes.
    after (each_linked (λ source. source.section) (linked_source names) g.sources g.source_names) _ λ sources.
    after (each_linked (λ machine. machine.section) (linked_machine names) g.machines g.machine_names) _ λ machines.
    after (each_linked (λ _. section.Technology) (linked_tech names) g.techs g.tech_names) _ λ techs.
    refl
  where
    after : {A : Type 0} (r : Result A DumpFault) (next : A → Result Game DumpFault) → ((value : A) → IfOk (next value) (λ game. game.fluids ≡ g.fluids)) → IfOk (r ▷ next) (λ game. game.fluids ≡ g.fluids)
    after (Ok value) next later = later value
    after (Err fault) next later = tt

pub answer_plain : (g : RawGame) → IsSoundDraft g → (answer : Result Game DumpFault) → GivesDump (linked g) answer → IfOk answer (λ game. ArePlain game.fluids)
answer_plain g sound (Ok game) gives = subst ArePlain (sym (subst (λ (r : Result Game DumpFault). IfOk r (λ game. game.fluids ≡ g.fluids)) gives (linked_fluids g))) sound.fluids
answer_plain g sound (Err fault) gives = tt

pub linked_sound : (g : RawGame) → IsSoundDraft g → IfOk (linked g) IsSound
unfolding linked
linked_sound g sound =
    let names : Families = families_of g in
    then_sure (Later names IsSoundItem g.items) IsSound (each_linked (λ item. item.section) (linked_item names) g.items g.item_names) _
    (linked_later names IsSoundRawItem IsSoundItem (λ item. item.section) (linked_item names) (λ game counts raw h. item_sound names game counts raw h) g.items g.item_names sound.items sound.item_names)
    (λ items a. then_sure (Later names IsSoundRecipe g.recipes) IsSound (each_linked (λ _. section.Recipe) (linked_recipe names) g.recipes g.recipe_names) _
    (linked_later names (λ _. Unit {0}) IsSoundRecipe (λ _. section.Recipe) (linked_recipe names) (λ game counts raw h. recipe_sound names game counts raw) g.recipes g.recipe_names (any_holds g.recipes) sound.recipe_names)
    (λ recipes b. then_sure (Later names IsSoundSource g.sources) IsSound (each_linked (λ source. source.section) (linked_source names) g.sources g.source_names) _
    (linked_later names (λ _. Unit {0}) IsSoundSource (λ source. source.section) (linked_source names) (λ game counts raw h. source_sound names game counts raw) g.sources g.source_names (any_holds g.sources) sound.source_names)
    (λ sources c. then_sure (Later names IsSoundMachine g.machines) IsSound (each_linked (λ machine. machine.section) (linked_machine names) g.machines g.machine_names) _
    (linked_later names IsSoundRawMachine IsSoundMachine (λ machine. machine.section) (linked_machine names) (λ game counts raw h. machine_sound names game counts raw h) g.machines g.machine_names sound.machines sound.machine_names)
    (λ machines d. then_sure (Later names IsSoundTech g.techs) IsSound (each_linked (λ _. section.Technology) (linked_tech names) g.techs g.tech_names) _
    (linked_later names (λ _. Unit {0}) IsSoundTech (λ _. section.Technology) (linked_tech names) (λ game counts raw h. tech_sound names game counts raw) g.techs g.tech_names (any_holds g.techs) sound.tech_names)
    (λ techs e. made_sound g sound items recipes sources machines techs a b c d e)))))

-- what a call answers that means this
pub answer_sound : (g : RawGame) → IsSoundDraft g → (answer : Result Game DumpFault) → GivesDump (linked g) answer → IfOk answer IsSound
answer_sound g sound (Ok game) gives = subst (λ (r : Result Game DumpFault). IfOk r IsSound) gives (linked_sound g sound)
answer_sound g sound (Err fault) gives = tt
