-- What an edit leaves as it was.
use Rattle.std.proofs.Common.{◌≡◌, ◌≢◌, ◌∙◌, ◌<◌, ◌≤◌, ◌+◌, ◌-◌, ◌++◌, ℕ, zero, suc, Bool, true, false, List, [], ◌∷◌, length, get_or, refl, ap, sym, subst, arith}
use Rattle.std.specs.Prelude.{◌==◌, ◌||◌, ◌&&◌, not, if◌then◌else◌, nat_lt, Option, Some, None, slice_get}
use Rattle.std.specs.List.{list_any}
use Rattle.std.proofs.lemmas.List.Folds.{list_any-append}
use Rattle.fractions.specs.Fraction.{Fraction}
use Rattle.game_types.specs.declared.machinery.Energy.{Energy}
use Rattle.game_types.specs.declared.machinery.Energy.TheVariants.{Electric, Burner, Heat, Fluid, Void}
use Rattle.game_types.specs.declared.machinery.MachineKind.{MachineKind}
use Rattle.game_types.specs.declared.machinery.MachineKind.TheVariants.{Crafter, Drill, Pump, Boiler, Generator, BurnerGenerator, Solar, Reactor, Lab, Beacon}
use Rattle.std.proofs.lemmas.Bool.Decides.{nat_tests}
use Rattle.std.proofs.lemmas.Bool.{or_parts}
use Rattle.plan_base.specs.Shape.{first_of}
use Rattle.plan_base.specs.declared.ids.EntityId.{EntityId}
use Rattle.plan_base.specs.declared.ids.GoodId.{GoodId}
use Rattle.game_types.specs.Temperatures.{fluid_at, is_base}
use Rattle.plan_base.specs.declared.ids.NodeId.{NodeId}
use Rattle.plan_base.specs.declared.ids.RecipeId.{RecipeId}
use Rattle.plan_base.specs.declared.ids.TechId.{TechId}
use Rattle.plan_base.specs.declared.shape.Shape.{Shape}
use Rattle.plan_base.specs.declared.shape.Kind.TheVariants.{Recipe as RecipeKind}
use Rattle.graph_store.specs.Rows.{has_node}
use Rattle.game_types.specs.Lookups.{machine_at, recipe_at, source_at, no_recipe}
use Rattle.game_types.specs.Making.{gives, expected_amount, kind_crafts}
use Rattle.fractions.specs.Signs.{is_positive}
use Rattle.game_types.specs.Nodes.{shape_of}
use Rattle.game_types.specs.declared.games.Game.{Game}
use Rattle.game_types.specs.declared.recipes.Product.{Product}
use Rattle.game_types.specs.declared.recipes.Recipe.{Recipe}
use Rattle.game_types.specs.declared.recipes.Source.{Source}
use Rattle.game_types.specs.declared.machinery.Machine.{Machine}
use Rattle.game_types.specs.declared.research.Tech.{Tech}
use Rattle.data_edit.specs.CarriedOut.{carried_out, with_recipe, with_tech}
use Rattle.data_edit.specs.Edits.{unlocks_switched}
use Rattle.plan_base.specs.Places.{with_at}
use Rattle.data_edit.specs.Lists.{part_key, plain_part, plain_product, product_key, unlock_key, with_entry, without}
use Rattle.data_edit.specs.declared.books.Book.{Book}
use Rattle.data_edit.specs.declared.edits.Edit.{Edit}
use Rattle.data_edit.specs.declared.edits.Edit.TheVariants.{SetIngredient, DropIngredient, SetProduct, DropProduct, SetUnlock, SetTime, SetEnabled, Forbid, Permit, Grant, Revoke}
use Rattle.data_edit.proofs.EffectLaw.{effect_law}
use Rattle.plan_base.proofs.Places.{with_at-nil, with_at-zero, with_at-suc, length-with_at}
use Rattle.graph_store.proofs.OrderLemmas.{those_same}
use Rattle.graph_store.specs.Members.{node, those}
use Rattle.depend_index.specs.Goods.{first_recipe, first_source, first_machine, first_tech, leavers, putters, variants, unlockers}
use Rattle.depend_rows.specs.Goods.{bounded_groups, crafters_by, fits, givers, good_row, ingredients, makers, crafters, recipe_row, miners, source_row}
use Rattle.depend_index.specs.Machines.{placers, burning_fluids}
use Rattle.depend_rows.specs.Machines.{fuels_taken, fluid_or_burning, energy_groups, input_groups, machine_row, labs, prerequisites, science_packs, tech_row, electricity_row, heat_row}
use Rattle.depend_rows.specs.Rows.{row_of, special_row, tech_at, no_tech}
use Rattle.depend_rows.specs.Touched.{good_node_in, recipe_node, touched_by, StaysAs, TouchesAll}
use Rattle.game_types.specs.Fitting.{names_recipe}

-- ---- a list with one element changed
those-with_at : {A : Type 0} (test : A → Bool) (f : A → A) → ((x : A) → test (f x) ≡ test x) → (p : ℕ) (xs : List A) (first : ℕ) → those test first (with_at f p xs) ≡ those test first xs
those-with_at test f same p [] first = ap (those test first) (with_at-nil f p)
those-with_at test f same zero (x ∷ xs) first = ap (those test first) (with_at-zero f x xs) ∙ ap (λ b. if b then node first ∷ those test (first + 1) xs else those test (first + 1) xs) (same x)
those-with_at test f same (suc p) (x ∷ xs) first = ap (those test first) (with_at-suc f p x xs) ∙ ap (λ l. if test x then node first ∷ l else l) (those-with_at test f same p xs (first + 1))

slice_get-with_at : {A : Type 0} (f : A → A) (p n : ℕ) → n ≢ p → (xs : List A) → slice_get (with_at f p xs) n ≡ slice_get xs n
slice_get-with_at f p n other [] = ap (λ l. slice_get l n) (with_at-nil f p)
slice_get-with_at f zero zero other (x ∷ xs) = absurd (other refl)
slice_get-with_at f zero (suc n) other (x ∷ xs) = ap (λ l. slice_get l (suc n)) (with_at-zero f x xs)
slice_get-with_at f (suc p) zero other (x ∷ xs) = ap (λ l. slice_get l zero) (with_at-suc f p x xs)
slice_get-with_at f (suc p) (suc n) other (x ∷ xs) = ap (λ l. slice_get l (suc n)) (with_at-suc f p x xs) ∙ slice_get-with_at f p n (λ is. other (ap suc is)) xs

-- what is read at a place, where the change doesn't show at that place
read-with_at : {A B : Type 0} (read : A → B) (f : A → A) (p n : ℕ) (d : A) → (xs : List A) → (n ≡ p → n < length xs → (x : A) → read (f x) ≡ read x) → read (get_or (with_at f p xs) n d) ≡ read (get_or xs n d)
read-with_at read f p n d [] same = ap (λ l. read (get_or l n d)) (with_at-nil f p)
read-with_at read f zero zero d (x ∷ xs) same = ap (λ l. read (get_or l zero d)) (with_at-zero f x xs) ∙ same refl (omega arith) x
read-with_at read f zero (suc n) d (x ∷ xs) same = ap (λ l. read (get_or l (suc n) d)) (with_at-zero f x xs)
read-with_at read f (suc p) zero d (x ∷ xs) same = ap (λ l. read (get_or l zero d)) (with_at-suc f p x xs)
read-with_at read f (suc p) (suc n) d (x ∷ xs) same = ap (λ l. read (get_or l (suc n) d)) (with_at-suc f p x xs) ∙ read-with_at read f p n d xs (λ is within. same (ap suc is) (omega (arith, within)))

-- ---- tests of lists that an edit changed
pub any-without : {E : Type 0} (test : E → Bool) (key : E → ℕ) (number : ℕ) → ((e : E) → key e ≡ number → test e ≡ false) → (entries : List E) → list_any test (without key number entries) ≡ list_any test entries
any-without test key number fails [] = refl
any-without test key number fails (e ∷ entries) = by_key (key e == number) refl (any-without test key number fails entries)
  where
    by_key : (b : Bool) → (key e == number) ≡ b → list_any test (without key number entries) ≡ list_any test entries → list_any test (if not b then e ∷ without key number entries else without key number entries) ≡ (test e || list_any test entries)
    by_key true is rest = rest ∙ ap (λ b. b || list_any test entries) (sym (fails e (grind (arith, is))))
    by_key false is rest = ap (λ b. test e || b) rest

pub any-with_entry : {E : Type 0} (test : E → Bool) (key : E → ℕ) (entry : E) → test entry ≡ false → ((e : E) → key e ≡ key entry → test e ≡ false) → (entries : List E) → list_any test (with_entry key entry entries) ≡ list_any test entries
any-with_entry test key entry none fails [] = ap (λ b. b || false) none
any-with_entry test key entry none fails (e ∷ entries) = by_key (key e == key entry) refl (any-with_entry test key entry none fails entries)
  where
    by_key : (b : Bool) → (key e == key entry) ≡ b → list_any test (with_entry key entry entries) ≡ list_any test entries
        → list_any test (if b then entry ∷ without key (key entry) entries else e ∷ with_entry key entry entries) ≡ (test e || list_any test entries)
    by_key true is rest = ap (λ b. b || list_any test (without key (key entry) entries)) none ∙ any-without test key (key entry) fails entries ∙ ap (λ b. b || list_any test entries) (sym (fails e (grind (arith, is))))
    by_key false is rest = ap (λ b. test e || b) rest

any-end : {E : Type 0} (test : E → Bool) (e : E) → test e ≡ false → (entries : List E) → list_any test (entries ++ e ∷ []) ≡ list_any test entries
any-end test e none [] = ap (λ b. b || false) none
any-end test e none (x ∷ entries) = ap (λ b. test x || b) (any-end test e none entries)

-- ---- games that differ in their recipes
if_same : {A : Type 0} (b : Bool) (x y x' y' : A) → (b ≡ true → x ≡ x') → (b ≡ false → y ≡ y') → (if b then x else y) ≡ (if b then x' else y')
if_same true x y x' y' first second = first refl
if_same false x y x' y' first second = second refl

abbrev with_recipes : Game → List Recipe → Game
with_recipes g rs = record g { recipes = rs }

module _ (g : Game) (rs : List Recipe) (long : length rs ≡ length g.recipes) where
  electricity_same : electricity_row (with_recipes g rs) ≡ electricity_row g
  unfolding electricity_row
  electricity_same = rw long

  heat_same : heat_row (with_recipes g rs) ≡ heat_row g
  unfolding heat_row
  heat_same = rw long

  special_same : (n : ℕ) → special_row (with_recipes g rs) n ≡ special_row g n
  special_same n = if_same (n == 0) _ _ _ _ (λ _. refl) (λ _. if_same (n == 1) _ _ _ _ (λ _. electricity_same) (λ _. heat_same))

  good_same : (good : ℕ) → those (λ recipe. gives recipe.products good) (first_recipe g) rs ≡ those (λ recipe. gives recipe.products good) (first_recipe g) g.recipes → good_row (with_recipes g rs) good ≡ good_row g good
  unfolding good_row givers is_base leavers variants makers putters
  good_same good same = rw (same, long)

  crafters_same : (k : ℕ) (recipe : Recipe) (launch : Option EntityId) → crafters_by (with_recipes g rs) k recipe launch ≡ crafters_by g k recipe launch
  crafters_same k recipe None = rw long
  crafters_same k recipe (Some silo) = rw long

  recipe_same : (k : ℕ) (recipe : Recipe) → recipe_row (with_recipes g rs) k recipe ≡ recipe_row g k recipe
  unfolding recipe_row ingredients bounded_groups fits is_base fluid_at crafters unlockers
  recipe_same k recipe = rw (crafters_same k recipe recipe.launch, long)

  source_same : (source : Source) → source_row (with_recipes g rs) source ≡ source_row g source
  unfolding source_row miners
  source_same source = rw long

  filter_same : (fluid : Option GoodId) → fluid_or_burning (with_recipes g rs) fluid ≡ fluid_or_burning g fluid
  unfolding fluid_or_burning burning_fluids
  filter_same None = refl
  filter_same (Some fluid) = refl

  energy_same : (energy : Energy) → energy_groups (with_recipes g rs) energy ≡ energy_groups g energy
  unfolding energy_groups fuels_taken
  energy_same Electric = refl
  energy_same (Burner categories effectivity) = refl
  energy_same Heat = refl
  energy_same (Fluid filter effectivity) = ap (λ group. group ∷ []) (filter_same filter)
  energy_same Void = refl

  input_same : (kind : MachineKind) → input_groups (with_recipes g rs) kind ≡ input_groups g kind
  unfolding input_groups
  input_same (Generator input effectivity per_tick max_temperature burns output) = ap (λ group. group ∷ []) (filter_same input)
  input_same (Boiler input output temperature) = refl
  input_same (Crafter speed categories fixed) = refl
  input_same (Drill speed categories fluid_box) = refl
  input_same (Pump fluid speed) = refl
  input_same (BurnerGenerator output) = refl
  input_same (Solar production) = refl
  input_same Reactor = refl
  input_same (Lab inputs speed) = refl
  input_same (Beacon effectivity) = refl

  machine_same : (k : ℕ) (machine : Machine) → machine_row (with_recipes g rs) k machine ≡ machine_row g k machine
  unfolding machine_row placers
  machine_same k machine = rw (energy_same machine.energy, input_same machine.kind)

  tech_same : (tech : Tech) → tech_row (with_recipes g rs) tech ≡ tech_row g tech
  unfolding tech_row prerequisites science_packs labs
  tech_same tech = rw long

  rows_same : (n : ℕ) → (3 ≤ n → n < first_recipe g → those (λ recipe. gives recipe.products (n - 3)) (first_recipe g) rs ≡ those (λ recipe. gives recipe.products (n - 3)) (first_recipe g) g.recipes)
      → (first_recipe g ≤ n → n < first_source g → recipe_row g (n - first_recipe g) (get_or rs (n - first_recipe g) no_recipe) ≡ recipe_row g (n - first_recipe g) (get_or g.recipes (n - first_recipe g) no_recipe))
      → row_of (with_recipes g rs) n ≡ row_of g n
  unfolding row_of recipe_at machine_at source_at tech_at
  rows_same n goods recipes =
      rw long
      (if_same (nat_lt n 3) _ _ _ _ (λ _. special_same n) (λ a.
      if_same (nat_lt n (first_recipe g)) _ _ _ _ (λ b. good_same (n - 3) (goods (grind (arith, nat_tests, a)) (grind (arith, nat_tests, b)))) (λ b.
      if_same (nat_lt n (first_source g)) _ _ _ _
      (λ c. recipe_same (n - first_recipe g) (get_or rs (n - first_recipe g) no_recipe) ∙ recipes (grind (arith, nat_tests, b)) (grind (arith, nat_tests, c))) (λ c.
      if_same (nat_lt n (first_machine g)) _ _ _ _ (λ _. source_same (source_at g (record { 0 = n - first_source g }))) (λ d.
      if_same (nat_lt n (first_tech g)) _ _ _ _ (λ _. machine_same (n - first_machine g) (machine_at g (record { 0 = n - first_machine g }))) (λ _.
      tech_same (tech_at g (n - first_tech g))))))))

-- ---- games that differ in their technologies
abbrev with_techs : Game → List Tech → Game
with_techs g ts = record g { techs = ts }

module _ (g : Game) (ts : List Tech) (long : length ts ≡ length g.techs) where
  unlocked_same : (k : ℕ) (recipe : Recipe) → those (λ tech. list_any (λ r. r.0 == k) tech.unlocks) (first_tech g) ts ≡ those (λ tech. list_any (λ r. r.0 == k) tech.unlocks) (first_tech g) g.techs
      → recipe_row (with_techs g ts) k recipe ≡ recipe_row g k recipe
  unfolding recipe_row ingredients bounded_groups fits is_base fluid_at crafters unlockers
  unlocked_same k recipe same = rw same

  good_kept : (good : ℕ) → good_row (with_techs g ts) good ≡ good_row g good
  unfolding good_row givers is_base leavers variants makers putters
  good_kept good = refl

  source_kept : (source : Source) → source_row (with_techs g ts) source ≡ source_row g source
  unfolding source_row miners
  source_kept source = refl

  filter_kept : (fluid : Option GoodId) → fluid_or_burning (with_techs g ts) fluid ≡ fluid_or_burning g fluid
  unfolding fluid_or_burning burning_fluids
  filter_kept None = refl
  filter_kept (Some fluid) = refl

  energy_kept : (energy : Energy) → energy_groups (with_techs g ts) energy ≡ energy_groups g energy
  unfolding energy_groups fuels_taken
  energy_kept Electric = refl
  energy_kept (Burner categories effectivity) = refl
  energy_kept Heat = refl
  energy_kept (Fluid filter effectivity) = ap (λ group. group ∷ []) (filter_kept filter)
  energy_kept Void = refl

  input_kept : (kind : MachineKind) → input_groups (with_techs g ts) kind ≡ input_groups g kind
  unfolding input_groups
  input_kept (Generator input effectivity per_tick max_temperature burns output) = ap (λ group. group ∷ []) (filter_kept input)
  input_kept (Boiler input output temperature) = refl
  input_kept (Crafter speed categories fixed) = refl
  input_kept (Drill speed categories fluid_box) = refl
  input_kept (Pump fluid speed) = refl
  input_kept (BurnerGenerator output) = refl
  input_kept (Solar production) = refl
  input_kept Reactor = refl
  input_kept (Lab inputs speed) = refl
  input_kept (Beacon effectivity) = refl

  machine_kept : (k : ℕ) (machine : Machine) → machine_row (with_techs g ts) k machine ≡ machine_row g k machine
  unfolding machine_row placers
  machine_kept k machine = rw (energy_kept machine.energy, input_kept machine.kind)

  tech_kept : (tech : Tech) → tech_row (with_techs g ts) tech ≡ tech_row g tech
  unfolding tech_row prerequisites science_packs labs
  tech_kept tech = rw long

  electricity_kept : electricity_row (with_techs g ts) ≡ electricity_row g
  unfolding electricity_row
  electricity_kept = refl

  heat_kept : heat_row (with_techs g ts) ≡ heat_row g
  unfolding heat_row
  heat_kept = refl

  special_kept : (n : ℕ) → special_row (with_techs g ts) n ≡ special_row g n
  special_kept n = if_same (n == 0) _ _ _ _ (λ _. refl) (λ _. if_same (n == 1) _ _ _ _ (λ _. electricity_kept) (λ _. heat_kept))

  rows_kept : (n : ℕ) → (first_recipe g ≤ n → n < first_source g → those (λ tech. list_any (λ r. r.0 == n - first_recipe g) tech.unlocks) (first_tech g) ts ≡ those (λ tech. list_any (λ r. r.0 == n - first_recipe g) tech.unlocks) (first_tech g) g.techs)
      → tech_row g (get_or ts (n - first_tech g) no_tech) ≡ tech_row g (get_or g.techs (n - first_tech g) no_tech)
      → row_of (with_techs g ts) n ≡ row_of g n
  unfolding row_of recipe_at machine_at source_at tech_at
  rows_kept n recipes techs =
      if_same (nat_lt n 3) _ _ _ _ (λ _. special_kept n) (λ a.
      if_same (nat_lt n (first_recipe g)) _ _ _ _ (λ b. good_kept (n - 3)) (λ b.
      if_same (nat_lt n (first_source g)) _ _ _ _
      (λ c. unlocked_same (n - first_recipe g) (recipe_at g (record { 0 = n - first_recipe g })) (recipes (grind (arith, nat_tests, b)) (grind (arith, nat_tests, c)))) (λ c.
      if_same (nat_lt n (first_machine g)) _ _ _ _ (λ _. source_kept (source_at g (record { 0 = n - first_source g }))) (λ d.
      if_same (nat_lt n (first_tech g)) _ _ _ _ (λ _. machine_kept (n - first_machine g) (machine_at g (record { 0 = n - first_machine g }))) (λ _.
      tech_kept (get_or ts (n - first_tech g) no_tech) ∙ techs)))))

-- ---- what is not touched
not_recipe : (shape : Shape) (recipe : RecipeId) (n k : ℕ) → has_node (recipe_node shape recipe) n ≡ false → k ≡ recipe.0 → k < shape.recipes → n ≡ first_of shape RecipeKind + k → ⊥
not_recipe shape recipe n k untouched is within at =
    let there : nat_lt recipe.0 shape.recipes ≡ true = grind (arith, nat_tests, is, within) in
    let same : (first_of shape RecipeKind + recipe.0 == n) ≡ true = grind (arith, is, at) in
    let found : has_node (recipe_node shape recipe) n ≡ true = ap (λ b. has_node (if b then node (first_of shape RecipeKind + recipe.0) ∷ [] else []) n) there ∙ ap (λ b. b || false) same in
    let impossible : true ≡ false = sym found ∙ untouched in
    cc

not_good : (shape : Shape) (good : GoodId) (n k : ℕ) → has_node (good_node_in shape good) n ≡ false → k ≡ good.0 → k < shape.items + shape.fluids → n ≡ 3 + k → ⊥
not_good shape good n k untouched is within at =
    let there : nat_lt good.0 (shape.items + shape.fluids) ≡ true = grind (arith, nat_tests, is, within) in
    let same : (3 + good.0 == n) ≡ true = grind (arith, is, at) in
    let found : has_node (good_node_in shape good) n ≡ true = ap (λ b. has_node (if b then node (3 + good.0) ∷ [] else []) n) there ∙ ap (λ b. b || false) same in
    let impossible : true ≡ false = sym found ∙ untouched in
    cc

not_mark : (mark : NodeId) (n : ℕ) → has_node (mark ∷ []) n ≡ false → n ≢ mark.0
not_mark mark n untouched at =
    let same : (mark.0 == n) ≡ true = grind (arith, at) in
    let impossible : true ≡ false = sym (ap (λ b. b || false) same) ∙ untouched in
    cc

-- an edit of a recipe
recipe_stays : (book : Book) (recipe : RecipeId) (change : Recipe → Recipe) (n : ℕ)
    → (3 ≤ n → n < first_recipe book.game → (old : Recipe) → gives (change old).products (n - 3) ≡ gives old.products (n - 3))
    → ((k : ℕ) → k ≡ recipe.0 → k < length book.game.recipes → n ≡ first_recipe book.game + k → (old : Recipe) → recipe_row book.game k (change old) ≡ recipe_row book.game k old)
    → StaysAs book (with_recipe change recipe book) n
recipe_stays book recipe change n goods rows = record {
  row = rows_same g (with_at change recipe.0 g.recipes) (length-with_at change recipe.0 g.recipes) n
      (λ low high. those-with_at (λ (recipe : Recipe). gives recipe.products (n - 3)) change (goods low high) recipe.0 g.recipes (first_recipe g))
      (λ low high. read-with_at (recipe_row g (n - first_recipe g)) change recipe.0 (n - first_recipe g) no_recipe g.recipes (λ is within. rows (n - first_recipe g) is within (omega (arith, low))));
  barred = refl;
  granted = refl;
}
  where
    g : Game
    g = book.game

unlock_stays : (book : Book) (tech : TechId) (change : Tech → Tech) (n : ℕ)
    → (first_recipe book.game ≤ n → n < first_source book.game → (old : Tech) → list_any (λ r. r.0 == n - first_recipe book.game) (change old).unlocks ≡ list_any (λ r. r.0 == n - first_recipe book.game) old.unlocks)
    → ((old : Tech) → tech_row book.game (change old) ≡ tech_row book.game old)
    → StaysAs book (with_tech change tech book) n
unlock_stays book tech change n recipes rows = record {
  row = rows_kept book.game (with_at change tech.0 book.game.techs) (length-with_at change tech.0 book.game.techs) n
      (λ low high. those-with_at (λ (tech : Tech). list_any (λ r. r.0 == n - first_recipe book.game) tech.unlocks) change (recipes low high) tech.0 book.game.techs (first_tech book.game))
      (read-with_at (tech_row book.game) change tech.0 (n - first_tech book.game) no_tech book.game.techs (λ _ _. rows));
  barred = refl;
  granted = refl;
}

-- products of another good
pub other_product : (good k : ℕ) → k ≢ good → (product : Product) → product.good.0 ≡ good → ((product.good.0 == k) && is_positive (expected_amount product)) ≡ false
other_product good k other product is = let differs : (product.good.0 == k) ≡ false = grind (arith, other, is) in ap (λ b. b && is_positive (expected_amount product)) differs

pub switched : (recipe : RecipeId) (k : ℕ) → k ≢ recipe.0 → (on : Bool) (unlocks : List RecipeId) → list_any (λ r. r.0 == k) (unlocks_switched recipe on unlocks) ≡ list_any (λ r. r.0 == k) unlocks
switched recipe k other true unlocks = by_names (names_recipe unlocks recipe)
  where
    by_names : (b : Bool) → list_any (λ r. r.0 == k) (if b then unlocks else unlocks ++ recipe ∷ []) ≡ list_any (λ r. r.0 == k) unlocks
    by_names true = refl
    by_names false = any-end (λ (r : RecipeId). r.0 == k) recipe (grind (arith, other)) unlocks
switched recipe k other false unlocks = any-without (λ (r : RecipeId). r.0 == k) unlock_key recipe.0 (λ r is. grind (arith, other, is)) unlocks

crafts_unseen : (k : ℕ) (time : Fraction) (old : Recipe) (kind : MachineKind) → kind_crafts kind k (record old { time = time }) ≡ kind_crafts kind k old
crafts_unseen k time old (Crafter speed categories fixed) = refl
crafts_unseen k time old (Drill speed categories fluid_box) = refl
crafts_unseen k time old (Pump fluid speed) = refl
crafts_unseen k time old (Boiler input output temperature) = refl
crafts_unseen k time old (Generator input effectivity per_tick max_temperature burns output) = refl
crafts_unseen k time old (BurnerGenerator output) = refl
crafts_unseen k time old (Solar production) = refl
crafts_unseen k time old Reactor = refl
crafts_unseen k time old (Lab inputs speed) = refl
crafts_unseen k time old (Beacon effectivity) = refl

time_unseen : (g : Game) (k : ℕ) (time : Fraction) (old : Recipe) → recipe_row g k (record old { time = time }) ≡ recipe_row g k old
unfolding recipe_row ingredients bounded_groups crafters unlockers
time_unseen g k time old = rw (by_launch old.launch) refl
  where
    by_launch : (launch : Option EntityId) → crafters_by g k (record old { time = time }) launch ≡ crafters_by g k old launch
    by_launch None =
        let machines = those_same (λ (machine : Machine). kind_crafts machine.kind k (record old { time = time })) (λ (machine : Machine). kind_crafts machine.kind k old) (λ machine. crafts_unseen k time old machine.kind) g.machines (first_machine g) in
        rw machines
    by_launch (Some silo) = refl

unlocks_unseen : (g : Game) (list : List RecipeId) (old : Tech) → tech_row g (record old { unlocks = list }) ≡ tech_row g old
unfolding tech_row prerequisites science_packs labs
unlocks_unseen g list old = refl

stays : (edit : Edit) (book : Book) (n : ℕ) → has_node (touched_by (shape_of book.game) edit) n ≡ false → StaysAs book (carried_out edit book) n
stays (SetIngredient recipe good amount) book n untouched = recipe_stays book recipe (λ old. record old { ingredients = with_entry part_key (plain_part good amount) old.ingredients }) n (λ _ _ old. refl)
    (λ k is within at. absurd (not_recipe (shape_of book.game) recipe n k untouched is within at))
stays (DropIngredient recipe good) book n untouched = recipe_stays book recipe (λ old. record old { ingredients = without part_key good.0 old.ingredients }) n (λ _ _ old. refl)
    (λ k is within at. absurd (not_recipe (shape_of book.game) recipe n k untouched is within at))
stays (SetProduct recipe good amount) book n untouched =
    let both = sym (list_any-append (λ (m : NodeId). m.0 == n) (recipe_node (shape_of book.game) recipe) (good_node_in (shape_of book.game) good)) ∙ untouched in
    let parts = or_parts (has_node (recipe_node (shape_of book.game) recipe) n) (has_node (good_node_in (shape_of book.game) good) n) both in
    let away = parts.0 in
    let apart = parts.1 in
    recipe_stays book recipe (λ old. record old { products = with_entry product_key (plain_product good amount) old.products }) n
    (λ low high old.
    let other : (n - 3) ≢ good.0 = λ is. not_good (shape_of book.game) good n (n - 3) apart is (omega (arith, low, high)) (omega (arith, low)) in
    any-with_entry (λ (product : Product). (product.good.0 == n - 3) && is_positive (expected_amount product)) product_key (plain_product good amount) (other_product good.0 (n - 3) other (plain_product good amount) refl) (other_product good.0 (n - 3) other) old.products)
    (λ k is within at. absurd (not_recipe (shape_of book.game) recipe n k away is within at))
stays (DropProduct recipe good) book n untouched =
    let both = sym (list_any-append (λ (m : NodeId). m.0 == n) (recipe_node (shape_of book.game) recipe) (good_node_in (shape_of book.game) good)) ∙ untouched in
    let parts = or_parts (has_node (recipe_node (shape_of book.game) recipe) n) (has_node (good_node_in (shape_of book.game) good) n) both in
    let away = parts.0 in
    let apart = parts.1 in
    recipe_stays book recipe (λ old. record old { products = without product_key good.0 old.products }) n
    (λ low high old.
    let other : (n - 3) ≢ good.0 = λ is. not_good (shape_of book.game) good n (n - 3) apart is (omega (arith, low, high)) (omega (arith, low)) in
    any-without (λ (product : Product). (product.good.0 == n - 3) && is_positive (expected_amount product)) product_key good.0 (other_product good.0 (n - 3) other) old.products)
    (λ k is within at. absurd (not_recipe (shape_of book.game) recipe n k away is within at))
stays (SetUnlock tech recipe on) book n untouched = unlock_stays book tech (λ old. record old { unlocks = unlocks_switched recipe on old.unlocks }) n
    (λ low high old. switched recipe (n - first_recipe book.game) (λ is. not_recipe (shape_of book.game) recipe n (n - first_recipe book.game) untouched is (omega (arith, low, high)) (omega (arith, low))) on old.unlocks)
    (λ old. unlocks_unseen book.game (unlocks_switched recipe on old.unlocks) old)
stays (SetTime recipe time) book n untouched = recipe_stays book recipe (λ old. record old { time = time }) n (λ _ _ old. refl) (λ k is within at old. time_unseen book.game k time old)
stays (SetEnabled recipe on) book n untouched = recipe_stays book recipe (λ old. record old { enabled = on }) n (λ _ _ old. refl)
    (λ k is within at. absurd (not_recipe (shape_of book.game) recipe n k untouched is within at))
stays (Forbid mark) book n untouched = record { row = refl; barred = slice_get-with_at (λ old. true) mark.0 n (not_mark mark n untouched) book.barred; granted = refl }
stays (Permit mark) book n untouched = record { row = refl; barred = slice_get-with_at (λ old. false) mark.0 n (not_mark mark n untouched) book.barred; granted = refl }
stays (Grant mark) book n untouched = record { row = refl; barred = refl; granted = slice_get-with_at (λ old. true) mark.0 n (not_mark mark n untouched) book.granted }
stays (Revoke mark) book n untouched = record { row = refl; barred = refl; granted = slice_get-with_at (λ old. false) mark.0 n (not_mark mark n untouched) book.granted }

pub touches_all : (edit : Edit) (book : Book) → TouchesAll edit book
touches_all edit book new accepted n untouched =
    let Kept : Book → Type 0 = λ after. StaysAs book after n in
    subst Kept (sym ((effect_law edit book).0 new accepted).0) (stays edit book n untouched)
