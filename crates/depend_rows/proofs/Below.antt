-- The members of the rows of a sound game are nodes.
use Rattle.std.proofs.Common.{◌≡◌, ◌∙◌, ◌<◌, ◌≤◌, ◌+◌, ◌-◌, ◌++◌, ℕ, zero, suc, Bool, true, false, cond, List, [], ◌∷◌, length, map, refl, ap, sym, subst, arith}
use Rattle.std.specs.Prelude.{◌==◌, All, IfSome, Option, Some, None, filter, if◌then◌else◌, nat_lt, not}
use Rattle.std.specs.List.{cons_option, filter_map, list_any, range_with_len, AllByRecursion}
use Rattle.std.proofs.lemmas.Bool.Decides.{nat_tests}
use Rattle.fractions.specs.Fraction.{Fraction}
use Rattle.plan_base.specs.Shape.{node_count}
use Rattle.plan_base.specs.declared.ids.NodeId.{NodeId}
use Rattle.plan_base.specs.declared.ids.EntityId.{EntityId}
use Rattle.plan_base.specs.declared.ids.GoodId.{GoodId}
use Rattle.graph_store.specs.declared.Group.{Group}
use Rattle.graph_store.specs.declared.Row.{Row}
use Rattle.graph_store.specs.Rows.{AreMembersBelow, HasMembersBelow}
use Rattle.game_types.specs.Lookups.{machine_at, recipe_at, source_at, no_machine, no_source}
use Rattle.game_types.specs.Nodes.{shape_of}
use Rattle.game_types.specs.Sound.{IsSound, IsFluid, IsSoundSource, IsSoundMachine, IsSoundKind, IsSoundEnergy}
use Rattle.game_types.specs.declared.games.Game.{Game}
use Rattle.game_types.specs.declared.machinery.Energy.{Energy}
use Rattle.game_types.specs.declared.machinery.Energy.TheVariants.{Electric, Burner, Heat, Fluid, Void}
use Rattle.game_types.specs.declared.machinery.Machine.{Machine}
use Rattle.game_types.specs.declared.machinery.MachineKind.{MachineKind}
use Rattle.game_types.specs.declared.machinery.MachineKind.TheVariants.{Crafter, Drill, Pump, Boiler, Generator, BurnerGenerator, Solar, Reactor, Lab, Beacon}
use Rattle.game_types.specs.Temperatures.{fits_alone, fluid_at, is_base, is_fit_variant}
use Rattle.game_types.specs.declared.recipes.Part.{Part}
use Rattle.game_types.specs.declared.recipes.Recipe.{Recipe}
use Rattle.game_types.specs.declared.recipes.Source.{Source}
use Rattle.game_types.specs.declared.research.Tech.{Tech}
use Rattle.graph_store.specs.Members.{named, node, those}
use Rattle.depend_rows.specs.Members.{all_of, any_of, character_where, good_node, group_where, row_with}
use Rattle.depend_index.specs.Goods.{first_recipe, first_source, first_machine, first_tech, good_count, leavers, putters, variants, unlockers}
use Rattle.depend_rows.specs.Goods.{bounded_group, bounded_groups, crafters_by, fits, free_good, givers, good_row, ingredients, is_free, makers, crafters, recipe_row, miners, fluid_group, source_row}
use Rattle.depend_index.specs.Machines.{placers, burning_fluids}
use Rattle.depend_rows.specs.Machines.{fuels_taken, fluid_or_burning, energy_groups, given_input, input_groups, machine_row, labs, prerequisites, science_packs, tech_row, electricity_row, heat_row, makes_electricity, makes_heat}
use Rattle.depend_rows.specs.Rows.{row_of, rows_of, special_row, tech_at}

all_from : {X : Type 0} (P : X → Type 0) → (xs : List X) → AllByRecursion P xs → All P xs
all_from P [] each k d within = absurd (omega (arith, within))
all_from P (x ∷ xs) each zero d within = each.0
all_from P (x ∷ xs) each (suc k) d within = all_from P xs each.1 k d (omega (arith, within))

both_parts : {X : Type 0} (P : X → Type 0) → (xs ys : List X) → AllByRecursion P xs → AllByRecursion P ys → AllByRecursion P (xs ++ ys)
both_parts P [] ys first second = second
both_parts P (x ∷ xs) ys first second = (first.0, both_parts P xs ys first.1 second)

chosen : {X : Type 0} (P : X → Type 0) (x : X) (xs : List X) → P x → AllByRecursion P xs → (b : Bool) → AllByRecursion P (cond b (x ∷ xs) xs)
chosen P x xs first rest true = (first, rest)
chosen P x xs first rest false = rest

abbrev Below : ℕ → List NodeId → Type 0
Below high nodes = AllByRecursion (λ (m : NodeId). m.0 < high) nodes

below_range : (p : ℕ → Bool) (high : ℕ) → (n low : ℕ) → low + n ≤ high → AllByRecursion (λ i. i < high) (filter p (range_with_len low n))
below_range p high zero low within = tt
below_range p high (suc n) low within = chosen (λ i. i < high) low (filter p (range_with_len (low + 1) n)) (omega (arith, within)) (below_range p high n (low + 1) (omega (arith, within))) (p low)

below_numbers : (first count high : ℕ) → (numbers : List ℕ) → first + count ≤ high → AllByRecursion (λ i. i < count) numbers → Below high (map (λ k. node (first + k)) numbers)
below_numbers first count high [] enough each = tt
below_numbers first count high (k ∷ numbers) enough (below, rest) = (omega (arith, below, enough), below_numbers first count high numbers enough rest)

below_named : (high first count : ℕ) (numbers : List ℕ) → first + count ≤ high → Below high (named first count numbers)
below_named high first count numbers enough =
    below_numbers first count high (filter (λ k. list_any (λ j. j == k) numbers) (range_with_len 0 count)) enough (below_range (λ k. list_any (λ j. j == k) numbers) count count 0 (omega arith))

below_those : {A : Type 0} (high : ℕ) (test : A → Bool) (first : ℕ) (xs : List A) → first + length xs ≤ high → Below high (those test first xs)
below_those high test first [] enough = tt
below_those high test first (x ∷ xs) enough = chosen (λ (m : NodeId). m.0 < high) (node first) (those test (first + 1) xs) (omega (arith, enough)) (below_those high test (first + 1) xs (omega (arith, enough))) (test x)

below_character : (high : ℕ) (does : Bool) → 0 < high → Below high (character_where does)
below_character high does some = chosen (λ (m : NodeId). m.0 < high) (node 0) [] some tt does

abbrev BelowGroup : ℕ → Group → Type 0
BelowGroup high group = All (λ m. m.0 < high) group.members

abbrev BelowGroups : ℕ → List Group → Type 0
BelowGroups high groups = AllByRecursion (BelowGroup high) groups

abbrev BelowRow : ℕ → Row → Type 0
BelowRow high row = All (BelowGroup high) row.groups

group : (high : ℕ) (members : List NodeId) → Below high members → All (λ (m : NodeId). m.0 < high) members
group high members below = all_from (λ (m : NodeId). m.0 < high) members below

row : (high : ℕ) (groups : List Group) → BelowGroups high groups → BelowRow high (row_with groups)
row high groups below = all_from (BelowGroup high) groups below

below_where : (high : ℕ) (holds : Bool) (g : Group) → BelowGroup high g → BelowGroups high (group_where holds g)
below_where high holds g below = chosen (BelowGroup high) g [] below tt holds

nobody : (high : ℕ) → BelowGroup high (any_of [])
nobody high = group high [] tt

module _ (g : Game) (sound : IsSound g) (high : ℕ) (enough : node_count (shape_of g) ≤ high) where
  one_fluid : (fluid : GoodId) → IsFluid g fluid.0 → BelowGroup high (all_of (good_node fluid ∷ []))
  one_fluid fluid is = group high (good_node fluid ∷ []) (omega (arith, is.1, enough), tt)

  good_below : (good : ℕ) → BelowRow high (good_row g good)
  unfolding good_row givers makers variants leavers putters
  good_below good = row high (any_of (givers g good) ∷ []) (group high (givers g good) (by_base (is_base g good)), tt)
    where
      made : Below high (makers g good)
      made = both_parts (λ (m : NodeId). m.0 < high) _ _ (below_those high _ (first_recipe g) g.recipes (omega (arith, enough))) (below_those high _ (first_source g) g.sources (omega (arith, enough)))

      by_base : (b : Bool) → Below high (if b then variants g good ++ makers g good else leavers g good ++ makers g good ++ putters g good)
      by_base true = both_parts (λ (m : NodeId). m.0 < high) _ _ (below_those high _ (3 + length g.items) g.fluids (omega (arith, enough))) made
      by_base false =
          both_parts (λ (m : NodeId). m.0 < high) _ _
          (both_parts (λ (m : NodeId). m.0 < high) _ _ (below_those high _ 3 g.items (omega (arith, enough))) made)
          (below_those high _ (first_machine g) g.machines (omega (arith, enough)))

  fits_below : (part : Part) → Below high (fits g part)
  unfolding fits
  fits_below part = by_tests (is_base g part.good.0) (fits_alone part.low part.high (fluid_at g part.good.0))
    where
      by_tests : (base alone : Bool) → Below high (if base then those (is_fit_variant part.good.0 part.low part.high) (3 + length g.items) g.fluids else if alone then named 3 (good_count g) (part.good.0 ∷ []) else [])
      by_tests true alone = below_those high _ (3 + length g.items) g.fluids (omega (arith, enough))
      by_tests false true = below_named high 3 (good_count g) (part.good.0 ∷ []) (omega (arith, enough))
      by_tests false false = tt

  bounded_below : (parts : List Part) → BelowGroups high (filter_map (bounded_group g) parts)
  bounded_below [] = tt
  bounded_below (part ∷ parts) = by_free (is_free part) (bounded_below parts)
    where
      by_free : (b : Bool) → BelowGroups high (filter_map (bounded_group g) parts) → BelowGroups high (cons_option (if b then None else Some (any_of (fits g part))) (filter_map (bounded_group g) parts))
      by_free true rest = rest
      by_free false rest = (group high (fits g part) (fits_below part), rest)

  crafters_below : (number : ℕ) (recipe : Recipe) → (launch : Option EntityId) → Below high (crafters_by g number recipe launch)
  crafters_below number recipe None = both_parts (λ (m : NodeId). m.0 < high) _ _ (below_character high _ (omega (arith, enough))) (below_those high _ (first_machine g) g.machines (omega (arith, enough)))
  crafters_below number recipe (Some silo) = below_named high (first_machine g) (length g.machines) (silo.0 ∷ []) (omega (arith, enough))

  recipe_below : (number : ℕ) (recipe : Recipe) → BelowRow high (recipe_row g number recipe)
  unfolding recipe_row ingredients bounded_groups crafters unlockers
  recipe_below number recipe = row high (all_of (ingredients g recipe) ∷ (bounded_groups g recipe ++ (any_of (crafters g number recipe) ∷ group_where (not recipe.enabled) (any_of (unlockers g number))))) (
    group high (ingredients g recipe) (below_named high 3 (good_count g) (filter_map free_good recipe.ingredients) (omega (arith, enough))),
    both_parts (BelowGroup high) _ _ (bounded_below recipe.ingredients) (
      group high (crafters g number recipe) (crafters_below number recipe recipe.launch),
      below_where high (not recipe.enabled) (any_of (unlockers g number)) (group high (unlockers g number) (below_those high _ (first_tech g) g.techs (omega (arith, enough)))),
    ),
  )

  fluid_below : (fluid : Option (GoodId × Fraction)) → IfSome fluid (λ f. IsFluid g f.0.0) → BelowGroups high (fluid_group fluid)
  fluid_below None is = tt
  fluid_below (Some (fluid, amount)) is = (one_fluid fluid is, tt)

  source_below : (source : Source) → IsSoundSource g source → BelowRow high (source_row g source)
  unfolding source_row miners
  source_below source is = row high (any_of (miners g source) ∷ (fluid_group source.fluid ++ group_where (not source.placed) (any_of []))) (
    group high (miners g source) (both_parts (λ (m : NodeId). m.0 < high) _ _ (below_character high _ (omega (arith, enough))) (below_those high _ (first_machine g) g.machines (omega (arith, enough)))),
    both_parts (BelowGroup high) _ _ (fluid_below source.fluid is.fluid) (below_where high (not source.placed) (any_of []) (nobody high)),
  )

  filter_below : (fluid : Option GoodId) → IfSome fluid (λ f. IsFluid g f.0) → BelowGroup high (fluid_or_burning g fluid)
  unfolding fluid_or_burning burning_fluids
  filter_below None is = group high (burning_fluids g) (below_those high _ (3 + length g.items) g.fluids (omega (arith, enough)))
  filter_below (Some fluid) is = one_fluid fluid is

  energy_below : (energy : Energy) → IsSoundEnergy g energy → BelowGroups high (energy_groups g energy)
  unfolding energy_groups fuels_taken
  energy_below Electric is = (group high (node 1 ∷ []) (omega (arith, enough), tt), tt)
  energy_below (Burner categories effectivity) is = (group high (fuels_taken g (Burner categories effectivity)) (below_those high _ 3 g.items (omega (arith, enough))), tt)
  energy_below Heat is = (group high (node 2 ∷ []) (omega (arith, enough), tt), tt)
  energy_below (Fluid filter effectivity) is = (filter_below filter is.0, tt)
  energy_below Void is = tt

  given_below : (input : Option GoodId) → IfSome input (λ f. IsFluid g f.0) → BelowGroups high (given_input input)
  given_below None is = tt
  given_below (Some fluid) is = (one_fluid fluid is, tt)

  input_below : (kind : MachineKind) → IsSoundKind g kind → BelowGroups high (input_groups g kind)
  unfolding input_groups
  input_below (Boiler input output temperature) is = given_below input is.0
  input_below (Generator input effectivity per_tick max_temperature burns output) is = (filter_below input is.0, tt)
  input_below (Crafter speed categories fixed) is = tt
  input_below (Drill speed categories fluid_box) is = tt
  input_below (Pump fluid speed) is = tt
  input_below (BurnerGenerator output) is = tt
  input_below (Solar production) is = tt
  input_below Reactor is = tt
  input_below (Lab inputs speed) is = tt
  input_below (Beacon effectivity) is = tt

  machine_below : (number : ℕ) (machine : Machine) → IsSoundMachine g machine → BelowRow high (machine_row g number machine)
  unfolding machine_row placers
  machine_below number machine is = row high (any_of (placers g number) ∷ (energy_groups g machine.energy ++ input_groups g machine.kind)) (
    group high (placers g number) (below_those high _ 3 g.items (omega (arith, enough))),
    both_parts (BelowGroup high) (energy_groups g machine.energy) (input_groups g machine.kind) (energy_below machine.energy is.energy) (input_below machine.kind is.kind),
  )

  tech_below : (tech : Tech) → BelowRow high (tech_row g tech)
  unfolding tech_row prerequisites science_packs labs
  tech_below tech = row high (all_of (prerequisites g tech) ∷ all_of (science_packs g tech) ∷ any_of (labs g tech) ∷ group_where (not tech.enabled) (any_of [])) (
    group high (prerequisites g tech) (below_named high (first_tech g) (length g.techs) (map (λ t. t.0) tech.prerequisites) (omega (arith, enough))),
    (
      group high (science_packs g tech) (below_named high 3 (good_count g) (map (λ part. part.0.0) tech.ingredients) (omega (arith, enough))),
      (
        group high (labs g tech) (below_those high _ (first_machine g) g.machines (omega (arith, enough))),
        below_where high (not tech.enabled) (any_of []) (nobody high),
      ),
    ),
  )

  electricity_below : BelowRow high (electricity_row g)
  unfolding electricity_row
  electricity_below = row high (any_of (those (λ machine. makes_electricity machine.kind) (first_machine g) g.machines) ∷ []) (group high (those (λ machine. makes_electricity machine.kind) (first_machine g) g.machines) (below_those high (λ machine. makes_electricity machine.kind) (first_machine g) g.machines (omega (arith, enough))), tt)

  heat_below : BelowRow high (heat_row g)
  unfolding heat_row
  heat_below = row high (any_of (those (λ machine. makes_heat machine.kind) (first_machine g) g.machines) ∷ []) (group high (those (λ machine. makes_heat machine.kind) (first_machine g) g.machines) (below_those high (λ machine. makes_heat machine.kind) (first_machine g) g.machines (omega (arith, enough))), tt)

  either : (b : Bool) (x y : Row) → (b ≡ true → BelowRow high x) → (b ≡ false → BelowRow high y) → BelowRow high (if b then x else y)
  either true x y where_true where_false = where_true refl
  either false x y where_true where_false = where_false refl

  special_below : (n : ℕ) → BelowRow high (special_row g n)
  special_below n = either (n == 0) (row_with []) (if n == 1 then electricity_row g else heat_row g) (λ _. row high [] tt) (λ _. either (n == 1) (electricity_row g) (heat_row g) (λ _. electricity_below) (λ _. heat_below))

  row_below : (n : ℕ) → n < node_count (shape_of g) → BelowRow high (row_of g n)
  unfolding row_of machine_at source_at
  row_below n within =
      either (nat_lt n 3) _ _ (λ _. special_below n) (λ a.
      either (nat_lt n (first_recipe g)) _ _ (λ _. good_below (n - 3)) (λ b.
      either (nat_lt n (first_source g)) _ _ (λ _. recipe_below (n - first_recipe g) (recipe_at g (record { 0 = n - first_recipe g }))) (λ c.
      either (nat_lt n (first_machine g)) _ _ (λ d. source_below (source_at g (record { 0 = n - first_source g })) (sound.sources (n - first_source g) no_source (grind (arith, nat_tests, c, d)))) (λ d.
      either (nat_lt n (first_tech g)) _ _ (λ e. machine_below (n - first_machine g) (machine_at g (record { 0 = n - first_machine g })) (sound.machines (n - first_machine g) no_machine (grind (arith, nat_tests, d, e)))) (λ _.
      tech_below (tech_at g (n - first_tech g)))))))

each_row : (P : Row → Type 0) (f : ℕ → Row) → (n low : ℕ) → ((k : ℕ) → k < low + n → P (f k)) → AllByRecursion P (map f (range_with_len low n))
each_row P f zero low holds = tt
each_row P f (suc n) low holds = (holds low (omega arith), each_row P f n (low + 1) (λ k within. holds k (omega (arith, within))))

pub rows_below : (g : Game) → IsSound g → AreMembersBelow (node_count (shape_of g)) (rows_of g)
unfolding rows_of
rows_below g sound = all_from (BelowRow (node_count (shape_of g))) (rows_of g) (each_row (BelowRow (node_count (shape_of g))) (row_of g) (node_count (shape_of g)) 0 (λ k within. row_below g sound (node_count (shape_of g)) (omega arith) k (omega (arith, within))))

range_long : (low n : ℕ) → length (range_with_len low n) ≡ n
range_long low zero = refl
range_long low (suc n) = ap suc (range_long (low + 1) n)

as_long : {X Y : Type 0} (f : X → Y) → (xs : List X) → length (map f xs) ≡ length xs
as_long f [] = refl
as_long f (x ∷ xs) = ap suc (as_long f xs)

pub length-rows_of : (g : Game) → length (rows_of g) ≡ node_count (shape_of g)
unfolding rows_of
length-rows_of g = as_long (row_of g) (range_with_len 0 (node_count (shape_of g))) ∙ range_long 0 (node_count (shape_of g))

-- rows that are those of the game, with what is known of them
pub are_rows : (g : Game) (rows : List Row) → IsSound g → rows ≡ rows_of g → (length rows ≡ node_count (shape_of g)) × AreMembersBelow (length rows) rows
are_rows g rows sound is =
    let long : length rows ≡ node_count (shape_of g) = ap length is ∙ length-rows_of g in
    let P : ℕ → Type 0 = λ n. AreMembersBelow n rows in
    let Q : List Row → Type 0 = λ l. AreMembersBelow (node_count (shape_of g)) l in
    (long, subst P (sym long) (subst Q (sym is) (rows_below g sound)))

-- so it is for one row
pub row_members_below : (g : Game) → IsSound g → (n : ℕ) → n < node_count (shape_of g) → (r : Row) → r ≡ row_of g n → HasMembersBelow (node_count (shape_of g)) r
row_members_below g sound n within r is =
    let below : Row → Type 0 = λ r. HasMembersBelow (node_count (shape_of g)) r in
    subst below (sym is) (row_below g sound (node_count (shape_of g)) (omega arith) n within)
