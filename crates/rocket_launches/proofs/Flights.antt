-- The flights of a sound game are of silos and items that are there, and their launches are sound recipes.
use Rattle.std.proofs.Common.{◌≡◌, ◌∙◌, ◌<◌, ◌≤◌, ◌+◌, ◌++◌, ◌⊎◌, ℕ, Bool, true, false, List, [], ◌∷◌, Option, Some, None, length, drop, get_or, map, refl, sym, ap, subst, arith, inl, inr}
use Rattle.std.specs.Prelude.{All, IfSome, IsSomeAnd, pos, slice_get, slice_index_or, ◌==◌, if◌then◌else◌}
use Rattle.std.specs.List.{cons_option, flat_map}
use Rattle.std.proofs.lemmas.Grind.{common_steps}
use Rattle.std.proofs.lemmas.List.{get_or-drop, drop_more}
use Rattle.std.proofs.lemmas.List.Elements.{All-nil, All-cons, All-append, All-head, All-tail, All-map, All-get_or, All-weaker}
use Rattle.std.proofs.lemmas.Option.{get_or_from_slice_get, slice_get_cases, slice_get_within, slice_get-get_or}
use Rattle.fractions.specs.Fraction.{one_fraction, whole_fraction}
use Rattle.plan_base.specs.declared.ids.EntityId.{EntityId}
use Rattle.plan_base.specs.declared.ids.GoodId.{GoodId}
use Rattle.plan_base.specs.declared.ids.RecipeId.{RecipeId}
use Rattle.game_types.specs.Lookups.{item_at, no_item, no_recipe, recipe_at}
use Rattle.game_types.specs.Sound.{IsCrafter, IsCrafterKind, IsGood, IsItem, IsSound, IsSoundItem, IsSoundKind, IsSoundMachine, IsSoundRecipe}
use Rattle.game_types.specs.declared.games.Game.{Game}
use Rattle.game_types.specs.declared.goods.Item.{Item}
use Rattle.game_types.specs.declared.machinery.Machine.{Machine}
use Rattle.game_types.specs.declared.machinery.MachineKind.{MachineKind}
use Rattle.game_types.specs.declared.machinery.MachineKind.TheVariants.{Crafter, Drill, Pump, Boiler, Generator, BurnerGenerator, Solar, Reactor, Lab, Beacon}
use Rattle.game_types.specs.declared.recipes.Part.{Part}
use Rattle.game_types.specs.declared.recipes.Product.{Product}
use Rattle.game_types.specs.declared.recipes.Recipe.{Recipe}
use Rattle.rocket_launches.specs.declared.silos.Flight.{Flight}
use Rattle.rocket_launches.specs.declared.silos.Silo.{Silo}
use Rattle.rocket_launches.specs.Launches.{IsThere, as_catalyst, cargo_in, cargo_of, fixed_recipe, flight, flights, found_from, launch_recipe, one_part, recipe_with, silo_fixed_to, silo_of, silo_with, silos_in}

-- ---- what is found of the things of a list, each at its place
first_of_rest : {A : Type 0} (whole : List A) (number : ℕ) (x : A) (xs : List A) → drop number whole ≡ x ∷ xs → slice_get whole number ≡ Some x
first_of_rest whole number x xs is =
    let within : number < length whole = grind (arith, common_steps, ap length is) in
    let at : get_or whole number x ≡ x = grind (arith, common_steps, sym (get_or-drop number whole 0 x), is) in
    slice_get-get_or whole number x within ∙ ap Some at

tails : {A : Type 0} (a b : A) (xs ys : List A) → a ∷ xs ≡ b ∷ ys → xs ≡ ys
tails a b xs ys e = cc

next_rest : {A : Type 0} (whole : List A) (number : ℕ) (x : A) (xs : List A) → drop number whole ≡ x ∷ xs → drop (number + 1) whole ≡ xs
next_rest whole number x xs is =
    let within : number < length whole = grind (arith, common_steps, ap length is) in
    tails (get_or whole number x) x (drop (number + 1) whole) xs (sym (drop_more whole number x within) ∙ is)

pub found_hold : {A B : Type 0} (find : ℕ → A → Option B) (P : B → Type 0) (whole : List A) → ((k : ℕ) (x : A) → slice_get whole k ≡ Some x → IfSome (find k x) P)
    → (number : ℕ) → (rest : List A) → drop number whole ≡ rest → All P (found_from find number rest)
unfolding found_from
found_hold find P whole one number [] is = All-nil P
found_hold {A = A} {B = B} find P whole one number (x ∷ xs) is =
    by_found (find number x) (one number x (first_of_rest whole number x xs is)) (found_hold find P whole one (number + 1) xs (next_rest whole number x xs is))
  where
    by_found : (found : Option B) → IfSome found P → All P (found_from find (number + 1) xs) → All P (cons_option found (found_from find (number + 1) xs))
    by_found None holds rest = rest
    by_found (Some value) holds rest = All-cons P value (found_from find (number + 1) xs) holds rest

pub some_within : {A : Type 0} (P : A → Type 0) (xs : List A) (k : ℕ) → IsSomeAnd (slice_get xs k) P → k < length xs
some_within {A = A} P xs k holds = by_cases (slice_get_cases xs k).1
  where
    by_cases : ((x : A) × (k < length xs) × (slice_get xs k ≡ Some x) × (get_or xs k x ≡ x)) ⊎ ((length xs ≤ k) × (slice_get xs k ≡ None)) → k < length xs
    by_cases (inl (x, within, found, same)) = within
    by_cases (inr (past, none)) = absurd (subst (λ (o : Option A). IsSomeAnd o P) none holds)

-- ---- silos and cargo
module _ (g : Game) (sound : IsSound g) where
  abbrev IsSiloThere : Silo → Type 0
  IsSiloThere silo = IsCrafter g silo.machine × IsGood g silo.part.0

  part_there : (machine : EntityId) (parts : ℕ) (recipe : Recipe) (products : List Product) → IsCrafter g machine → All (λ product. IsGood g product.good.0) products → IfSome (silo_with machine parts recipe products) IsSiloThere
  part_there machine parts recipe [] crafter goods = tt
  part_there machine parts recipe (first ∷ rest) crafter goods = (crafter, All-head (λ (product : Product). IsGood g product.good.0) first rest goods)

  fixed_there : (machine : EntityId) (parts : ℕ) (fixed : Option RecipeId) → IsCrafter g machine → IfSome fixed (λ r. r.0 < length g.recipes) → IfSome (silo_fixed_to g machine parts fixed) IsSiloThere
  unfolding recipe_at
  fixed_there machine parts None crafter within = tt
  fixed_there machine parts (Some fixed) crafter within =
      let recipe : IsSoundRecipe g (recipe_at g fixed) = All-get_or (IsSoundRecipe g) g.recipes fixed.0 no_recipe within sound.recipes in
      part_there machine parts (recipe_at g fixed) (recipe_at g fixed).products crafter recipe.products

  crafts : (machine : EntityId) (m : Machine) → slice_get g.machines machine.0 ≡ Some m → IsCrafterKind m.kind → IsCrafter g machine
  crafts machine m is kind = subst (λ (o : Option Machine). IsSomeAnd o (λ m. IsCrafterKind m.kind)) (sym is) kind

  kind_there : (machine : EntityId) (m : Machine) (parts : ℕ) → slice_get g.machines machine.0 ≡ Some m → (kind : MachineKind) → m.kind ≡ kind → IsSoundKind g kind → IfSome (silo_fixed_to g machine parts (fixed_recipe kind)) IsSiloThere
  kind_there machine m parts is (Crafter speed categories fixed) same h = fixed_there machine parts fixed (crafts machine m is (subst IsCrafterKind (sym same) tt)) h.1
  kind_there machine m parts is (Drill speed categories fluid_box) same h = tt
  kind_there machine m parts is (Pump fluid speed) same h = tt
  kind_there machine m parts is (Boiler input output temperature) same h = tt
  kind_there machine m parts is (Generator input effectivity per_tick max_temperature burns output) same h = tt
  kind_there machine m parts is (BurnerGenerator output) same h = tt
  kind_there machine m parts is (Solar production) same h = tt
  kind_there machine m parts is Reactor same h = tt
  kind_there machine m parts is (Lab inputs speed) same h = tt
  kind_there machine m parts is (Beacon effectivity) same h = tt

  silo_there : (k : ℕ) (m : Machine) → slice_get g.machines k ≡ Some m → IfSome (silo_of g k m) IsSiloThere
  unfolding silo_of
  silo_there k m is = by_parts (m.parts == 0)
    where
      machine : IsSoundMachine g m
      machine = subst (IsSoundMachine g) (get_or_from_slice_get g.machines k m m is) (sound.machines k m (slice_get_within g.machines k m is))

      by_parts : (b : Bool) → IfSome (if b then None else silo_fixed_to g (record { 0 = k }) m.parts (fixed_recipe m.kind)) IsSiloThere
      by_parts true = tt
      by_parts false = kind_there (record { 0 = k }) m m.parts is m.kind refl machine.kind

  cargo_there : (k : ℕ) (item : Item) → slice_get g.items k ≡ Some item → IfSome (cargo_of k item) (λ cargo. IsItem g cargo.0)
  unfolding cargo_of
  cargo_there k item is = by_launch (length item.launch == 0)
    where
      by_launch : (b : Bool) → IfSome (if b then None else Some (record { 0 = k })) (λ (cargo : GoodId). IsItem g cargo.0)
      by_launch true = tt
      by_launch false = slice_get_within g.items k item is

  -- ---- flights
  flights_there : (silos : List Silo) (cargo : List GoodId) → All IsSiloThere silos → All (λ (good : GoodId). IsItem g good.0) cargo → All (IsThere g) (flat_map (λ silo. map (flight silo) cargo) silos)
  flights_there [] cargo silos_there cargo_is = All-nil (IsThere g)
  flights_there (silo ∷ silos) cargo silos_there cargo_is =
      let first : IsSiloThere silo = All-head IsSiloThere silo silos silos_there in
      All-append (IsThere g) (map (flight silo) cargo) (flat_map (λ silo. map (flight silo) cargo) silos)
      (All-map (IsThere g) (flight silo) cargo (All-weaker (λ (good : GoodId). IsItem g good.0) (λ good. IsThere g (flight silo good)) (λ good is. record { silo = first.0; part = first.1; cargo = is }) cargo cargo_is))
      (flights_there silos cargo (All-tail IsSiloThere silo silos silos_there) cargo_is)

  all_silos : All IsSiloThere (silos_in g)
  all_silos = found_hold (silo_of g) IsSiloThere g.machines silo_there 0 g.machines refl

  all_cargo : All (λ (cargo : GoodId). IsItem g cargo.0) (cargo_in g)
  all_cargo = found_hold cargo_of (λ (cargo : GoodId). IsItem g cargo.0) g.items cargo_there 0 g.items refl

  pub all_there : All (IsThere g) (flights g)
  unfolding flights
  all_there = flights_there (silos_in g) (cargo_in g) all_silos all_cargo

  pub silos_named : All (λ (silo : Silo). silo.machine.0 < length g.machine_names) (silos_in g)
  silos_named =
      All-weaker IsSiloThere (λ (silo : Silo). silo.machine.0 < length g.machine_names)
      (λ silo there. subst (λ (n : ℕ). silo.machine.0 < n) (sym sound.machine_names) (some_within (λ m. IsCrafterKind m.kind) g.machines silo.machine.0 there.0)) (silos_in g) all_silos

  pub cargo_named : All (λ (good : GoodId). good.0 < length g.item_names) (cargo_in g)
  cargo_named =
      All-weaker (λ (good : GoodId). IsItem g good.0) (λ (good : GoodId). good.0 < length g.item_names)
      (λ good there. subst (λ (n : ℕ). good.0 < n) (sym sound.item_names) there) (cargo_in g) all_cargo

  abbrev IsPart : Part → Type 0
  IsPart part = IsGood g part.good.0

  -- ---- launches
  launch_sound : (one : Flight) → IsThere g one → IsSoundRecipe g (launch_recipe g one)
  unfolding launch_recipe recipe_with item_at
  launch_sound one there =
      let item : IsSoundItem g (item_at g one.cargo) = All-get_or (IsSoundItem g) g.items one.cargo.0 no_item there.cargo sound.items in
      let cargo : one.cargo.0 < length g.items = there.cargo in
      record {
        ingredients = All-cons IsPart (one_part one.cargo one_fraction) (one_part one.silo.part (whole_fraction (pos one.silo.parts)) ∷ []) (omega (arith, cargo))
            (All-cons IsPart (one_part one.silo.part (whole_fraction (pos one.silo.parts))) [] there.part (All-nil IsPart));
        products = All-map (λ (product : Product). IsGood g product.good.0) as_catalyst (item_at g one.cargo).launch
            (All-weaker (λ (product : Product). IsItem g product.good.0) (λ (product : Product). IsGood g product.good.0) (λ product is. omega (arith, is)) (item_at g one.cargo).launch item.launch);
        launch = there.silo;
      }

  pub launches_sound : All (IsSoundRecipe g) (map (launch_recipe g) (flights g))
  launches_sound = All-map (IsSoundRecipe g) (launch_recipe g) (flights g) (All-weaker (IsThere g) (λ one. IsSoundRecipe g (launch_recipe g one)) launch_sound (flights g) all_there)
