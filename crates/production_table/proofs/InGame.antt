-- The goods of a table's linear form are goods of the game.
use Rattle.std.proofs.Common.{◌≡◌, ◌<◌, ◌≤◌, ◌+◌, ◌++◌, ℕ, List, [], ◌∷◌, length, sym, subst, arith}
use Rattle.std.specs.Prelude.{map, All, IfSome, Bool, true, false, nat_lt, ◌==◌, Option, Some, None, Result, Ok, option_map, if◌then◌else◌}
use Rattle.std.proofs.lemmas.List.Elements.{All-nil, All-cons, All-head, All-tail, All-get_or}
use Rattle.fractions.specs.Fraction.{Fraction, negated}
use Rattle.plan_base.specs.declared.ids.GoodId.{GoodId}
use Rattle.game_types.specs.declared.effects.Rates.{Rates}
use Rattle.game_types.specs.declared.effects.Wide.{Wide}
use Rattle.game_types.specs.declared.games.Game.{Game}
use Rattle.game_types.specs.declared.goods.Fluid.{Fluid}
use Rattle.game_types.specs.declared.machinery.MachineKind.{MachineKind}
use Rattle.game_types.specs.declared.machinery.MachineKind.TheVariants.{Crafter, Drill, Pump as PumpKind, Boiler, Generator, BurnerGenerator, Solar, Reactor, Lab, Beacon}
use Rattle.game_types.specs.declared.recipes.Part.{Part}
use Rattle.game_types.specs.declared.recipes.Product.{Product}
use Rattle.game_types.specs.declared.setups.Activity.{Activity}
use Rattle.game_types.specs.declared.setups.Activity.TheVariants.{Craft, Mine, Pump, Generate, Boil, Research}
use Rattle.game_types.specs.declared.setups.Setup.{Setup}
use Rattle.game_types.specs.Beacons.{beacon_power_of}
use Rattle.game_types.specs.Goods.{electricity, good_count, solid_and_fluid, units_good}
use Rattle.game_types.specs.Lookups.{item_at, machine_at, no_item, no_machine, no_recipe, no_source, recipe_at, source_at}
use Rattle.game_types.specs.Sound.{IsFluid, IsGood, IsItem, IsSound, IsSoundActivity, IsSoundItem, IsSoundKind, IsSoundMachine, IsSoundRecipe, IsSoundSetup, IsSoundSource, IsSoundTech}
use Rattle.game_types.specs.Steps.{◌▸◌, added}
use Rattle.game_types.specs.Temperatures.{choice_of, coolest, coolest_fit, cooler_of, first_where, fits_alone, fluid_at, is_base, is_cooler, is_fit, is_fit_variant, or_else}
use Rattle.power_rows.specs.declared.inputs.Input.{Input}
use Rattle.power_rows.specs.declared.inputs.Input.TheVariants.{None as NoInput, Fluid as OfFluid, Missing}
use Rattle.power_rows.specs.Inputs.{filtered, first_own, input_of, or_good, taken_in}
use Rattle.power_rows.specs.Power.{draw_of}
use Rattle.research_rows.specs.Research.{no_tech, tech_at}
use Rattle.table_rows.specs.declared.rates.RowRates.{RowRates}
use Rattle.table_rows.specs.Columns.{activity_parts, burnt_parts, column_of, contributed, contributions, drawn, drawn_where, fuel_parts, given, input_taken, pack_taken, row_rates_of, source_fluid, summed, taken, with_part, Contribution}
use Rattle.table_rows.specs.Setups.{IsFitting}
use Rattle.production_table.specs.declared.tables.Table.{Table}
use Rattle.production_table.specs.declared.tables.TableRow.{TableRow}
use Rattle.production_table.specs.Linear.{columns_of, of_row, table_goods, with_columns, with_good, with_goods}
use Rattle.production_table.specs.Tables.{IsOfGame}
use Rattle.production_table.proofs.Columns.{of_row_is, through}

-- ---- goods below a number
abbrev GoodsBelow : ℕ → List GoodId → Type 0
GoodsBelow n [] = Unit {0}
GoodsBelow n (g ∷ goods) = (g.0 < n) × GoodsBelow n goods

abbrev PairsBelow : ℕ → List (GoodId × Fraction) → Type 0
PairsBelow n [] = Unit {0}
PairsBelow n (p ∷ ps) = (p.0.0 < n) × PairsBelow n ps

abbrev EachBelow : ℕ → List (List (GoodId × Fraction)) → Type 0
EachBelow n [] = Unit {0}
EachBelow n (column ∷ columns) = PairsBelow n column × EachBelow n columns

abbrev pub AddedBelow : ℕ → List Contribution → Type 0
AddedBelow n [] = Unit {0}
AddedBelow n (c ∷ cs) = (c.0.0 < n) × AddedBelow n cs

good_cases : (n : ℕ) (good g : GoodId) (goods rest : List GoodId) (b c : Bool) → good.0 < n → GoodsBelow n (g ∷ goods) → GoodsBelow n rest → GoodsBelow n (if b then good ∷ g ∷ goods else if c then g ∷ goods else g ∷ rest)
good_cases n good g goods rest true c h below more = (h, below)
good_cases n good g goods rest false true h below more = below
good_cases n good g goods rest false false h below more = (below.0, more)

good_below : (n : ℕ) (good : GoodId) (goods : List GoodId) → good.0 < n → GoodsBelow n goods → GoodsBelow n (with_good good goods)
unfolding with_good
good_below n good [] h below = (h, tt)
good_below n good (g ∷ goods) h below = good_cases n good g goods (with_good good goods) (nat_lt good.0 g.0) (g.0 == good.0) h below (good_below n good goods h below.1)

goods_below : (n : ℕ) (goods : List GoodId) (ps : List (GoodId × Fraction)) → GoodsBelow n goods → PairsBelow n ps → GoodsBelow n (with_goods goods ps)
unfolding with_goods
goods_below n goods [] below each = below
goods_below n goods (p ∷ ps) below each = goods_below n (with_good p.0 goods) ps (good_below n p.0 goods each.0 below) each.1

columns_goods_below : (n : ℕ) (goods : List GoodId) (columns : List (List (GoodId × Fraction))) → GoodsBelow n goods → EachBelow n columns → GoodsBelow n (with_columns goods columns)
unfolding with_columns
columns_goods_below n goods [] below each = below
columns_goods_below n goods (column ∷ columns) below each = columns_goods_below n (with_goods goods column) columns (goods_below n goods column below each.0) each.1

pairs_of_all : (n : ℕ) (ps : List (GoodId × Fraction)) → All (λ pair. pair.0.0 < n) ps → PairsBelow n ps
pairs_of_all n [] each = tt
pairs_of_all n (p ∷ ps) each = (All-head (λ (pair : GoodId × Fraction). pair.0.0 < n) p ps each, pairs_of_all n ps (All-tail (λ (pair : GoodId × Fraction). pair.0.0 < n) p ps each))

all_of_goods : (n : ℕ) (goods : List GoodId) → GoodsBelow n goods → All (λ good. good.0 < n) goods
all_of_goods n [] below = All-nil (λ (good : GoodId). good.0 < n)
all_of_goods n (g ∷ goods) below = All-cons (λ (good : GoodId). good.0 < n) g goods below.0 (all_of_goods n goods below.1)

-- ---- sums
part_cases : (n step : ℕ) (good : GoodId) (amount : Fraction) (p : GoodId × Fraction) (ps : List (GoodId × Fraction)) (rest : Result (List (GoodId × Fraction)) Wide) (more : List (GoodId × Fraction)) (b c : Bool)
    → good.0 < n → PairsBelow n (p ∷ ps) → ((r : List (GoodId × Fraction)) → rest ≡ Ok r → PairsBelow n r)
    → (if b then Ok ((good, amount) ∷ p ∷ ps) else if c then (added step p.1 amount ▸ λ sum. Ok ((good, sum) ∷ ps)) else (rest ▸ λ others. Ok (p ∷ others))) ≡ Ok more → PairsBelow n more
part_cases n step good amount p ps rest more true c h below keep e =
    let same : (good, amount) ∷ p ∷ ps ≡ more = cc in subst (PairsBelow n) same (h, below)
part_cases n step good amount p ps rest more false true h below keep e =
    let one = through (added step p.1 amount) (λ sum. Ok ((good, sum) ∷ ps)) more e in
    let last : Ok ((good, one.0) ∷ ps) ≡ Ok more = one.2 in
    let same : (good, one.0) ∷ ps ≡ more = cc in
    subst (PairsBelow n) same (h, below.1)
part_cases n step good amount p ps rest more false false h below keep e =
    let one = through rest (λ others. Ok (p ∷ others)) more e in
    let last : Ok (p ∷ one.0) ≡ Ok more = one.2 in
    let same : p ∷ one.0 ≡ more = cc in
    subst (PairsBelow n) same (below.0, keep one.0 one.1)

part_below : (n step : ℕ) (good : GoodId) (amount : Fraction) (column more : List (GoodId × Fraction)) → good.0 < n → PairsBelow n column → with_part step good amount column ≡ Ok more → PairsBelow n more
unfolding with_part
part_below n step good amount [] more h below e = let same : (good, amount) ∷ [] ≡ more = cc in subst (PairsBelow n) same (h, tt)
part_below n step good amount (p ∷ ps) more h below e =
    part_cases n step good amount p ps (with_part step good amount ps) more (nat_lt good.0 p.0.0) (good.0 == p.0.0) h below (λ r f. part_below n step good amount ps r h below.1 f) e

added_below : (n : ℕ) (c : Contribution) (column more : List (GoodId × Fraction)) → c.0.0 < n → PairsBelow n column → contributed c column ≡ Ok more → PairsBelow n more
unfolding contributed
added_below n c column more h below e = let one = through c.1 (λ amount. with_part 8 c.0 amount column) more e in part_below n 8 c.0 one.0 column more h below one.2

summed_below : (n : ℕ) (column : List (GoodId × Fraction)) (cs : List Contribution) (more : List (GoodId × Fraction)) → PairsBelow n column → AddedBelow n cs → summed column cs ≡ Ok more → PairsBelow n more
unfolding summed
summed_below n column [] more below each e = let same : column ≡ more = cc in subst (PairsBelow n) same below
summed_below n column (c ∷ cs) more below each e =
    let one = through (contributed c column) (λ next. summed next cs) more e in summed_below n one.0 cs more (added_below n c column one.0 each.0 below one.1) each.1 one.2

electricity_below : (g : Game) → (electricity g).0 < good_count g
unfolding electricity
electricity_below g = omega arith

drawn_below : (power : Bool) (g : Game) (rates : Rates) (beacons : Fraction) (column more : List (GoodId × Fraction)) → PairsBelow (good_count g) column → drawn_where power g rates beacons column ≡ Ok more → PairsBelow (good_count g) more
unfolding drawn
drawn_below true g rates beacons column more below e =
    let one = through (draw_of rates.power rates.machines rates.drain beacons) (λ draw. with_part 18 (electricity g) (negated draw) column) more e in
    part_below (good_count g) 18 (electricity g) (negated one.0) column more (electricity_below g) below one.2
drawn_below false g rates beacons column more below e = let same : column ≡ more = cc in subst (PairsBelow (good_count g)) same below

-- ---- choices
first_good : (g : Game) (test : GoodId → Bool) (at : List GoodId) → All (λ good. IsFluid g good.0) at → IfSome (first_where test at) (λ good. IsGood g good.0)
first_good g test [] each = tt
first_good g test (x ∷ at) each = by_test (test x) (All-head (λ (good : GoodId). IsFluid g good.0) x at each).1 (first_good g test at (All-tail (λ (good : GoodId). IsFluid g good.0) x at each))
  where
    by_test : (b : Bool) → IsGood g x.0 → IfSome (first_where test at) (λ good. IsGood g good.0) → IfSome (if b then Some x else first_where test at) (λ good. IsGood g good.0)
    by_test true h rest = h
    by_test false h rest = rest

abbrev BestBelow : ℕ → Option (GoodId × Fraction) → Type 0
BestBelow n None = Unit {0}
BestBelow n (Some best) = best.0.0 < n

cooler_below : (n : ℕ) (best : Option (GoodId × Fraction)) (first : ℕ) (at : Fraction) → first < n → BestBelow n best → BestBelow n (cooler_of best first at)
cooler_below n None first at h below = h
cooler_below n (Some best) first at h below = by_test (is_cooler at best.1)
  where
    by_test : (b : Bool) → BestBelow n (if b then Some (record { 0 = first }, at) else Some best)
    by_test true = h
    by_test false = below

best_test : (n : ℕ) (b : Bool) (best other : Option (GoodId × Fraction)) → BestBelow n best → BestBelow n other → BestBelow n (if b then best else other)
best_test n true best other h k = h
best_test n false best other h k = k

coolest_below : (n : ℕ) (test : Fluid → Bool) (best : Option (GoodId × Fraction)) (first : ℕ) (fluids : List Fluid) → first + length fluids ≤ n → BestBelow n best → BestBelow n (coolest test best first fluids)
unfolding coolest
coolest_below n test best first [] h below = below
coolest_below n test best first (fluid ∷ fluids) h below =
    coolest_below n test (if test fluid then cooler_of best first fluid.at else best) (first + 1) fluids (omega arith)
    (best_test n (test fluid) (cooler_of best first fluid.at) best (cooler_below n best first fluid.at (omega arith) below) below)

mapped_below : (n : ℕ) (o : Option (GoodId × Fraction)) → BestBelow n o → IfSome (option_map (λ best. best.0) o) (λ good. good.0 < n)
mapped_below n None below = tt
mapped_below n (Some best) below = below

fit_test : (n : ℕ) (b c : Bool) (good : ℕ) (o : Option GoodId) → IfSome o (λ best. best.0 < n) → good < n → IfSome (if b then o else if c then Some (record { 0 = good }) else None) (λ best. best.0 < n)
fit_test n true c good o h k = h
fit_test n false true good o h k = k
fit_test n false false good o h k = tt

fit_good : (g : Game) (good : ℕ) (low high : Option Fraction) → IsGood g good → IfSome (coolest_fit g good low high) (λ best. IsGood g best.0)
unfolding coolest_fit
fit_good g good low high h =
    fit_test (solid_and_fluid g) (is_base g good) (fits_alone low high (fluid_at g good)) good (option_map (λ best. best.0) (coolest (is_fit_variant good low high) None (length g.items) g.fluids))
    (mapped_below (solid_and_fluid g) (coolest (is_fit_variant good low high) None (length g.items) g.fluids) (coolest_below (solid_and_fluid g) (is_fit_variant good low high) None (length g.items) g.fluids (omega arith) tt)) h

either : (P : GoodId → Type 0) (o p : Option GoodId) → IfSome o P → IfSome p P → IfSome (or_else o p) P
either P (Some x) p h k = h
either P None p h k = k

pub choice_good : (g : Game) (at : List GoodId) (good : ℕ) (low high : Option Fraction) → All (λ own. IsFluid g own.0) at → IsGood g good → IfSome (choice_of g at good low high) (λ best. IsGood g best.0)
unfolding choice_of
choice_good g at good low high each h =
    either (λ (best : GoodId). IsGood g best.0) (first_where (λ own. is_fit g good low high own.0) at) (coolest_fit g good low high) (first_good g (λ own. is_fit g good low high own.0) at each) (fit_good g good low high h)

pub chosen_good : (g : Game) (good : GoodId) (o : Option GoodId) → IsGood g good.0 → IfSome o (λ best. IsGood g best.0) → IsGood g (or_good good o).0
chosen_good g good (Some best) h k = k
chosen_good g good None h k = h

-- ---- what comes in
abbrev pub InputGood : Game → Input → Type 0
InputGood g (OfFluid good) = IsGood g good.0
InputGood g NoInput = Unit {0}
InputGood g Missing = Unit {0}

own_good : (g : Game) (at : List GoodId) → All (λ own. IsFluid g own.0) at → InputGood g (first_own at)
own_good g [] each = tt
own_good g (x ∷ at) each = (All-head (λ (own : GoodId). IsFluid g own.0) x at each).1

filtered_good : (g : Game) (at : List GoodId) (filter : Option GoodId) → All (λ own. IsFluid g own.0) at → IfSome filter (λ f. IsFluid g f.0) → InputGood g (filtered g at filter)
filtered_good g at (Some filter) each h = chosen_good g filter (choice_of g at filter.0 None None) h.1 (choice_good g at filter.0 None None each h.1)
filtered_good g at None each h = own_good g at each

taken_good : (g : Game) (at : List GoodId) (kind : MachineKind) → All (λ own. IsFluid g own.0) at → IsSoundKind g kind → InputGood g (taken_in g at kind)
taken_good g at (Boiler input output temperature) each h = filtered_good g at input each h.0
taken_good g at (Generator input effectivity per_tick max_temperature burns output) each h = filtered_good g at input each h.0
taken_good g at (Crafter speed categories fixed) each h = tt
taken_good g at (Drill speed categories fluid_box) each h = tt
taken_good g at (PumpKind fluid speed) each h = tt
taken_good g at (BurnerGenerator output) each h = tt
taken_good g at (Solar production) each h = tt
taken_good g at Reactor each h = tt
taken_good g at (Lab inputs speed) each h = tt
taken_good g at (Beacon effectivity) each h = tt

pub input_good : (g : Game) (setup : Setup) → IsSound g → IsSoundSetup g setup → InputGood g (input_of g setup)
unfolding input_of machine_at
input_good g setup sound s = taken_good g setup.at (machine_at g setup.machine).kind s.at (All-get_or (IsSoundMachine g) g.machines setup.machine.0 no_machine s.machine sound.machines).kind

-- ---- contributions
up : (g : Game) (n : ℕ) → IsGood g n → n < good_count g
up g n h = omega arith

item_up : (g : Game) (n : ℕ) → IsItem g n → n < good_count g
item_up g n h = omega arith

pub added_append : (n : ℕ) (xs ys : List Contribution) → AddedBelow n xs → AddedBelow n ys → AddedBelow n (xs ++ ys)
added_append n [] ys h k = k
added_append n (x ∷ xs) ys h k = (h.0, added_append n xs ys h.1 k)

pub added_map : {X : Type 0} (n : ℕ) (share : X → Contribution) (P : X → Type 0) (xs : List X) → ((x : X) → P x → (share x).0.0 < n) → All P xs → AddedBelow n (map share xs)
added_map n share P [] h each = tt
added_map n share P (x ∷ xs) h each = (h x (All-head P x xs each), added_map n share P xs h (All-tail P x xs each))

input_below : (g : Game) (amount : Fraction) (input : Input) → InputGood g input → AddedBelow (good_count g) (input_taken amount input)
input_below g amount (OfFluid good) h = (up g good.0 h, tt)
input_below g amount NoInput h = tt
input_below g amount Missing h = tt

pub recipe_sound : (g : Game) (n : ℕ) → IsSound g → n < length g.recipes → IsSoundRecipe g (recipe_at g (record { 0 = n }))
unfolding recipe_at
recipe_sound g n sound h = All-get_or (IsSoundRecipe g) g.recipes n no_recipe h sound.recipes

pub source_sound : (g : Game) (n : ℕ) → IsSound g → n < length g.sources → IsSoundSource g (source_at g (record { 0 = n }))
unfolding source_at
source_sound g n sound h = All-get_or (IsSoundSource g) g.sources n no_source h sound.sources

pub tech_sound : (g : Game) (n : ℕ) → IsSound g → n < length g.techs → IsSoundTech g (tech_at g (record { 0 = n }))
unfolding tech_at
tech_sound g n sound h = All-get_or (IsSoundTech g) g.techs n no_tech h sound.techs

pub item_sound : (g : Game) (n : ℕ) → IsSound g → n < length g.items → IsSoundItem g (item_at g (record { 0 = n }))
unfolding item_at
item_sound g n sound h = All-get_or (IsSoundItem g) g.items n no_item h sound.items

units_below : (g : Game) (n : ℕ) → n < length g.techs → (units_good g (record { 0 = n })).0 < good_count g
unfolding units_good
units_below g n h = omega arith

fluid_below : (g : Game) (setup : Setup) (fluid : Option (GoodId × Fraction)) → IsSoundSetup g setup → IfSome fluid (λ f. IsFluid g f.0.0) → AddedBelow (good_count g) (source_fluid g setup fluid)
fluid_below g setup None s h = tt
fluid_below g setup (Some fluid) s h =
    let chosen = chosen_good g fluid.0 (choice_of g setup.at fluid.0.0 None None) h.1 (choice_good g setup.at fluid.0.0 None None s.at h.1) in
    (up g (or_good fluid.0 (choice_of g setup.at fluid.0.0 None None)).0 chosen, tt)

taken_below : (g : Game) (setup : Setup) (part : Part) → IsSoundSetup g setup → IsGood g part.good.0 → (taken g setup part).0.0 < good_count g
taken_below g setup part s h =
    let chosen = chosen_good g part.good (choice_of g setup.at part.good.0 part.low part.high) h (choice_good g setup.at part.good.0 part.low part.high s.at h) in
    up g (or_good part.good (choice_of g setup.at part.good.0 part.low part.high)).0 chosen

activity_below : (g : Game) (setup : Setup) (row : RowRates) (activity : Activity) → IsSound g → IsSoundSetup g setup → IsSoundActivity g activity → AddedBelow (good_count g) (activity_parts g setup row activity)
activity_below g setup row (Craft recipe) sound s h =
    let is = recipe_sound g recipe.0 sound h in
    added_append (good_count g) (map (given row.effects.productivity) (recipe_at g recipe).products) (map (taken g setup) (recipe_at g recipe).ingredients)
    (added_map (good_count g) (given row.effects.productivity) (λ (product : Product). IsGood g product.good.0) (recipe_at g recipe).products (λ product k. up g product.good.0 k) is.products)
    (added_map (good_count g) (taken g setup) (λ (part : Part). IsGood g part.good.0) (recipe_at g recipe).ingredients (λ part k. taken_below g setup part s k) is.ingredients)
activity_below g setup row (Mine source) sound s h =
    let is = source_sound g source.0 sound h in
    added_append (good_count g) (map (given row.effects.productivity) (source_at g source).products) (source_fluid g setup (source_at g source).fluid)
    (added_map (good_count g) (given row.effects.productivity) (λ (product : Product). IsGood g product.good.0) (source_at g source).products (λ product k. up g product.good.0 k) is.products)
    (fluid_below g setup (source_at g source).fluid s is.fluid)
activity_below g setup row (Pump good) sound s h = (up g good.0 h, tt)
activity_below g setup row Generate sound s h = (electricity_below g, input_below g row.input (input_of g setup) (input_good g setup sound s))
activity_below g setup row (Boil good) sound s h = (up g good.0 h, input_below g row.input (input_of g setup) (input_good g setup sound s))
activity_below g setup row (Research tech) sound s h = (
  units_below g tech.0 h,
  added_map (good_count g) pack_taken (λ (pack : GoodId × Fraction). IsItem g pack.0.0) (tech_at g tech).ingredients (λ pack k. item_up g pack.0.0 k) (tech_sound g tech.0 sound h).ingredients,
)

burnt_below : (g : Game) (burnt : Option GoodId) (amount : Fraction) → IfSome burnt (λ good. IsItem g good.0) → AddedBelow (good_count g) (burnt_parts burnt amount)
burnt_below g None amount h = tt
burnt_below g (Some good) amount h = (item_up g good.0 h, tt)

fuel_below : (g : Game) (fuel : Option GoodId) (amount : Fraction) → IsSound g → IfSome fuel (λ good. IsItem g good.0) → AddedBelow (good_count g) (fuel_parts g fuel amount)
fuel_below g None amount sound h = tt
fuel_below g (Some fuel) amount sound h = (item_up g fuel.0 h, burnt_below g (item_at g fuel).burnt amount (item_sound g fuel.0 sound h).burnt)

contributions_below : (g : Game) (setup : Setup) (row : RowRates) → IsSound g → IsSoundSetup g setup → AddedBelow (good_count g) (contributions g setup row)
contributions_below g setup row sound s =
    added_append (good_count g) (activity_parts g setup row setup.activity) (fuel_parts g setup.fuel row.rates.fuel) (activity_below g setup row setup.activity sound s s.activity)
    (fuel_below g setup.fuel row.rates.fuel sound s.fuel)

column_below : (g : Game) (power : Bool) (setup : Setup) (column : List (GoodId × Fraction)) → IsSound g → IsSoundSetup g setup → column_of g power setup ≡ Ok column → PairsBelow (good_count g) column
unfolding column_of
column_below g power setup column sound s e =
    let row = through (row_rates_of g setup) (λ row. summed [] (contributions g setup row) ▸ λ column. beacon_power_of g setup ▸ λ beacons. drawn_where power g row.rates beacons column) column e in
    let sum = through (summed [] (contributions g setup row.0)) (λ column. beacon_power_of g setup ▸ λ beacons. drawn_where power g row.0.rates beacons column) column row.2 in
    let beacons = through (beacon_power_of g setup) (λ beacons. drawn_where power g row.0.rates beacons sum.0) column sum.2 in
    drawn_below power g row.0.rates beacons.0 sum.0 column (summed_below (good_count g) [] (contributions g setup row.0) sum.0 tt (contributions_below g setup row.0 sound s) sum.1) beacons.2

-- ---- the whole
columns_below : (g : Game) (power : Bool) (rows : List TableRow) (columns : List (List (GoodId × Fraction))) → IsSound g → All (λ row. IsFitting g row.setup) rows → columns_of g power rows ≡ Ok columns → EachBelow (good_count g) columns
unfolding columns_of
columns_below g power [] columns sound fitting e = let same : [] ≡ columns = cc in subst (EachBelow (good_count g)) same tt
columns_below g power (row ∷ rows) columns sound fitting e =
    let one = through (of_row row (column_of g power row.setup)) (λ column. columns_of g power rows ▸ λ columns. Ok (column ∷ columns)) columns e in
    let two = through (columns_of g power rows) (λ rest. Ok (one.0 ∷ rest)) columns one.2 in
    let last : Ok (one.0 ∷ two.0) ≡ Ok columns = two.2 in
    let same : one.0 ∷ two.0 ≡ columns = cc in
    let fits : IsFitting g row.setup = All-head (λ (r : TableRow). IsFitting g r.setup) row rows fitting in
    subst (EachBelow (good_count g)) same (
      column_below g power row.setup one.0 sound fits.0 (of_row_is row (column_of g power row.setup) one.0 one.1),
      columns_below g power rows two.0 sound (All-tail (λ (r : TableRow). IsFitting g r.setup) row rows fitting) two.1,
    )

pub in_game : (g : Game) (t : Table) (columns : List (List (GoodId × Fraction))) (goods : List GoodId) → IsSound g → All (λ row. IsFitting g row.setup) t.rows → IsOfGame g t → columns_of g t.power t.rows ≡ Ok columns
    → goods ≡ table_goods t columns → All (λ good. good.0 < good_count g) goods
in_game g t columns goods sound fitting of_game e same =
    let a : List GoodId = with_columns [] columns in
    let b : List GoodId = with_goods a t.wants in
    let c : List GoodId = with_goods b t.imports in
    let n : ℕ = good_count g in
    subst (λ (gs : List GoodId). All (λ (good : GoodId). good.0 < n) gs) (sym same)
    (all_of_goods n (table_goods t columns)
    (goods_below n c t.surpluses
    (goods_below n b t.imports
    (goods_below n a t.wants (columns_goods_below n [] columns tt (columns_below g t.power t.rows columns sound fitting e)) (pairs_of_all n t.wants of_game.wants)) (pairs_of_all n t.imports of_game.imports))
    (pairs_of_all n t.surpluses of_game.surpluses)))
