-- Parts, products, items, fluids and machines leave the members of a thing plain, and no deeper than three.
use Rattle.std.proofs.Common.{ℕ, List, arith}
use Rattle.std.specs.Prelude.{ℤ, Option, None, Some, Result, Ok, Err}
use Rattle.fractions.specs.Compare.{are_same}
use Rattle.fractions.specs.Fraction.{Fraction, frac, one_fraction, zero_fraction}
use Rattle.fractions.specs.Signs.{is_zero}
use Rattle.plan_base.specs.declared.ids.EntityId.{EntityId}
use Rattle.plan_base.specs.declared.ids.GoodId.{GoodId}
use Rattle.plan_base.specs.declared.ids.NodeId.{NodeId}
use Rattle.game_types.specs.declared.effects.Bonus.{Bonus}
use Rattle.game_types.specs.declared.effects.Wide.{Wide}
use Rattle.game_types.specs.declared.games.Game.{Game}
use Rattle.game_types.specs.declared.goods.Fluid.{Fluid}
use Rattle.game_types.specs.declared.goods.Fuel.{Fuel}
use Rattle.game_types.specs.declared.goods.Item.{Item}
use Rattle.game_types.specs.declared.goods.Module.{Module}
use Rattle.game_types.specs.declared.machinery.Energy.{Energy}
use Rattle.game_types.specs.declared.machinery.Machine.{Machine}
use Rattle.game_types.specs.declared.machinery.MachineKind.{MachineKind}
use Rattle.game_types.specs.declared.recipes.Part.{Part}
use Rattle.game_types.specs.declared.recipes.Product.{Product}
use Rattle.game_types.specs.Lookups.{machine_at}
use Rattle.depend_index.specs.declared.index.Index.{Index}
use Rattle.serde_json.specs.Data.{Members, no_members}
use Rattle.catalog_things.specs.Choices.{fits_of}
use Rattle.catalog_things.specs.Goods.{good_node_where, machine_node_where, with_bonus, with_fluid, with_fluid_fuel, with_fuel, with_fuel_members, with_heat, with_hundredths, with_item, with_module, with_module_members, with_special}
use Rattle.catalog_things.specs.Machines.{distribution_of, efficiency_of, fixed_of, input_of, output_of, power_of, recipe_node_where, speed_of, temperature_of, with_effects, with_energy, with_flows, with_machine, with_machine_kind, with_machine_members, with_output, with_use, with_work}
use Rattle.catalog_things.specs.Nodes.{good_node}
use Rattle.catalog_things.specs.Parts.{free_of, good_value, is_alone, part_value, product_value, with_fits, with_good, with_goods, with_outcome, with_part, with_parts, with_product, with_products, with_range, with_unless_one, with_unless_zero, with_yield}
use Rattle.game_types.specs.Rates.{yield_of}
use Rattle.catalog_laws.proofs.Plain.{Fits, Holds, nothing_held, object_fits}
use Rattle.catalog_laws.proofs.Members.{amount_holds, amount_where_holds, count_holds, either_holds, id_holds, id_where_holds, ids_hold, object_holds, text_holds, tree_holds, words_hold}

-- ---- amounts
pub outcome_holds : {n : ℕ} (key : List ℕ) {ms : Members} (x : Result Fraction Wide) → Holds n ms → Holds n (with_outcome key x ms)
unfolding with_outcome
outcome_holds key (Ok x) h = amount_holds _ _ h
outcome_holds key (Err wide) h = text_holds _ _ h

pub unless_zero_holds : {n : ℕ} (key : List ℕ) {ms : Members} (x : Fraction) → Holds n ms → Holds n (with_unless_zero key x ms)
unfolding with_unless_zero
unless_zero_holds key x h = either_holds (is_zero x) h (amount_holds _ _ h)

pub unless_one_holds : {n : ℕ} (key : List ℕ) {ms : Members} (x : Fraction) → Holds n ms → Holds n (with_unless_one key x ms)
unfolding with_unless_one
unless_one_holds key x h = either_holds (are_same x one_fraction) h (amount_holds _ _ h)

good_holds : {n : ℕ} (g : Game) (good : GoodId) (amount : Fraction) {ms : Members} → Holds n ms → Holds n (with_good g good amount ms)
unfolding with_good
good_holds g good amount h = id_holds _ _ _ (amount_holds _ _ h)

good_fits : (g : Game) (part : GoodId × Fraction) → Fits 1 (good_value g part)
good_fits g part = object_fits 0 (with_good g part.0 part.1 no_members) (good_holds _ _ _ (nothing_held 0))

pub goods_hold : (key : List ℕ) (g : Game) (goods : List (GoodId × Fraction)) {ms : Members} → Holds 3 ms → Holds 3 (with_goods key g goods ms)
unfolding with_goods
goods_hold key g goods {ms} h = tree_holds 1 (good_value g) _ _ (omega arith) (good_fits g) h

-- ---- ingredients
fits_hold : (g : Game) {ms : Members} (good : GoodId) (fits : List NodeId) → Holds 1 ms → Holds 1 (with_fits g good fits ms)
unfolding with_fits
fits_hold g good fits h = either_holds (is_alone fits (good_node g good)) h (ids_hold _ _ _ (omega arith) h)

part_holds : (g : Game) (index : Index) (part : Part) {ms : Members} → Holds 1 ms → Holds 1 (with_part g index part ms)
unfolding with_part
part_holds g index part h = fits_hold _ part.good (fits_of g index part (good_node g part.good)) (amount_where_holds _ part.high (amount_where_holds _ part.low (good_holds _ _ _ h)))

part_fits : (g : Game) (index : Index) (part : Part) → Fits 2 (part_value g index part)
part_fits g index part = object_fits 1 (with_part g index part no_members) (part_holds g index part (nothing_held 1))

pub parts_hold : (g : Game) (index : Index) (parts : List Part) {ms : Members} → Holds 3 ms → Holds 3 (with_parts g index parts ms)
unfolding with_parts
parts_hold g index parts h = tree_holds 2 (part_value g index) _ _ (omega arith) (part_fits g index) h

-- ---- products
yield_holds : {n : ℕ} {ms : Members} (product : Product) → Holds n ms → Holds n (with_yield product ms)
unfolding with_yield
yield_holds product h = outcome_holds _ (free_of product) (outcome_holds _ (yield_of product zero_fraction) h)

range_holds : {n : ℕ} {ms : Members} (low high : Fraction) → Holds n ms → Holds n (with_range low high ms)
unfolding with_range
range_holds low high h = either_holds (are_same low high) h (amount_holds _ _ (amount_holds _ _ h))

product_holds : {n : ℕ} (g : Game) {ms : Members} (product : Product) → Holds n ms → Holds n (with_product g product ms)
unfolding with_product
product_holds g product h = amount_where_holds _ product.temperature (unless_one_holds _ product.probability (range_holds product.low product.high (id_holds _ _ _ (yield_holds product h))))

product_fits : (g : Game) (product : Product) → Fits 1 (product_value g product)
product_fits g product = object_fits 0 (with_product g product no_members) (product_holds _ product (nothing_held 0))

pub products_hold : (key : List ℕ) (g : Game) (products : List Product) {ms : Members} → Holds 3 ms → Holds 3 (with_products key g products ms)
unfolding with_products
products_hold key g products h = tree_holds 1 (product_value g) _ _ (omega arith) (product_fits g) h

-- ---- items
hundredths_hold : {n : ℕ} (key : List ℕ) {ms : Members} (hundredths : ℤ) → Holds n ms → Holds n (with_hundredths key hundredths ms)
unfolding with_hundredths
hundredths_hold key hundredths h = unless_zero_holds _ (frac hundredths 100) h

bonus_holds : {n : ℕ} {ms : Members} (bonus : Bonus) → Holds n ms → Holds n (with_bonus bonus ms)
unfolding with_bonus
bonus_holds bonus h = hundredths_hold _ bonus.pollution (hundredths_hold _ bonus.consumption (hundredths_hold _ bonus.productivity (hundredths_hold _ bonus.speed h)))

module_members_hold : (g : Game) {ms : Members} (installed : Module) → Holds 1 ms → Holds 1 (with_module_members g installed ms)
unfolding with_module_members
module_members_hold g installed h = ids_hold _ _ _ (omega arith) (ids_hold _ _ _ (omega arith) (bonus_holds installed.bonus h))

module_holds : (g : Game) {ms : Members} (module_ : Option Module) → Holds 3 ms → Holds 3 (with_module g module_ ms)
unfolding with_module
module_holds g None h = h
module_holds g (Some installed) h = object_holds {m = 1} _ (omega arith) (module_members_hold _ installed (nothing_held 1)) h

fuel_members_hold : {n : ℕ} {ms : Members} (fuel : Fuel) → Holds n ms → Holds n (with_fuel_members fuel ms)
unfolding with_fuel_members
fuel_members_hold fuel h = amount_holds _ _ (amount_holds _ _ h)

fuel_holds : {ms : Members} (fuel : Option Fuel) → Holds 3 ms → Holds 3 (with_fuel fuel ms)
unfolding with_fuel
fuel_holds None h = h
fuel_holds (Some fuel) h = object_holds {m = 0} _ (omega arith) (fuel_members_hold fuel (nothing_held 0)) h

pub item_holds : (g : Game) (item : Item) {ms : Members} → Holds 3 ms → Holds 3 (with_item g item ms)
unfolding with_item
item_holds g item h = products_hold _ _ _ (module_holds _ item.module (fuel_holds item.fuel (id_where_holds _ _ (good_node_where g item.burnt) (id_where_holds _ _ (machine_node_where g item.place) h))))

-- ---- fluids
fluid_fuel_holds : {ms : Members} (value : Fraction) → Holds 3 ms → Holds 3 (with_fluid_fuel value ms)
unfolding with_fluid_fuel
fluid_fuel_holds value h = either_holds (is_zero value) h (object_holds {m = 0} _ (omega arith) (amount_holds _ _ (nothing_held 0)) h)

heat_holds : {ms : Members} (fluid : Fluid) → Holds 3 ms → Holds 3 (with_heat fluid ms)
unfolding with_heat
heat_holds fluid h = fluid_fuel_holds fluid.fuel_value (amount_holds _ _ (amount_holds _ _ h))

pub fluid_holds : (g : Game) (good : GoodId) (fluid : Fluid) {ms : Members} → Holds 3 ms → Holds 3 (with_fluid g good fluid ms)
unfolding with_fluid
fluid_holds g good fluid h = ids_hold _ _ _ (omega arith) (ids_hold _ _ _ (omega arith) (heat_holds fluid (id_where_holds _ _ (good_node_where g fluid.of) h)))

pub special_holds : (g : Game) (number : ℕ) {ms : Members} → Holds 3 ms → Holds 3 (with_special g number ms)
unfolding with_special
special_holds g number h = ids_hold _ _ _ (omega arith) h

-- ---- machines
kind_holds : {n : ℕ} {ms : Members} (kind : MachineKind) → Holds n ms → Holds n (with_machine_kind kind ms)
unfolding with_machine_kind with_output with_work
kind_holds kind h = amount_where_holds _ (distribution_of kind) (amount_where_holds _ (power_of kind) (amount_where_holds _ (temperature_of kind) (amount_where_holds _ (speed_of kind) (text_holds _ _ h))))

flows_hold : (g : Game) (kind : MachineKind) {ms : Members} → Holds 3 ms → Holds 3 (with_flows g kind ms)
unfolding with_flows
flows_hold g kind h = ids_hold _ _ _ (omega arith) (id_where_holds _ _ (good_node_where g (output_of kind)) (id_where_holds _ _ (good_node_where g (input_of kind)) (id_where_holds _ _ (recipe_node_where g (fixed_of kind)) h)))

energy_holds : (g : Game) {ms : Members} (energy : Energy) → Holds 3 ms → Holds 3 (with_energy g energy ms)
unfolding with_energy
energy_holds g energy h = ids_hold _ _ _ (omega arith) (amount_where_holds _ (efficiency_of energy) (text_holds _ _ h))

use_holds : {n : ℕ} {ms : Members} (machine : Machine) → Holds n ms → Holds n (with_use machine ms)
unfolding with_use
use_holds machine h = amount_holds _ _ (amount_holds _ _ (amount_holds _ _ h))

effects_hold : (g : Game) {ms : Members} (machine : Machine) → Holds 3 ms → Holds 3 (with_effects g machine ms)
unfolding with_effects
effects_hold g machine h = unless_zero_holds _ machine.base_productivity (ids_hold _ _ _ (omega arith) (words_hold _ _ (omega arith) (count_holds _ _ h)))

machine_members_hold : (g : Game) {ms : Members} (machine : Machine) → Holds 3 ms → Holds 3 (with_machine_members g machine ms)
unfolding with_machine_members
machine_members_hold g machine h = effects_hold _ machine (use_holds machine (energy_holds _ machine.energy (flows_hold g machine.kind (kind_holds machine.kind h))))

pub machine_holds : (g : Game) (number : EntityId) {ms : Members} → Holds 3 ms → Holds 3 (with_machine g number ms)
unfolding with_machine
machine_holds g number h = ids_hold _ _ _ (omega arith) (machine_members_hold _ (machine_at g number) h)
