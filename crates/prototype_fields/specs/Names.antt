-- The names of the fields of prototypes that are read, and the paths of the objects that hold them. The names are those
-- of the prototype documentation of Factorio 1.1.
use Rattle.std.specs.Prelude.{ℕ, List, [], ◌∷◌, ◌++◌, Option, Some, None, codes}
use Rattle.prototype_fields.specs.declared.fault.FieldFault.{FieldFault}
use Rattle.prototype_fields.specs.declared.names.Key.{Key}
use Rattle.prototype_fields.specs.declared.names.Key.TheVariants as k
use Rattle.prototype_fields.specs.declared.names.Within.{Within}
use Rattle.prototype_fields.specs.declared.names.Within.TheVariants as w

-- a key as a dump spells it
abbrev pub key_text : Key → List ℕ
key_text k.PlaceResult = codes "place_result"
key_text k.FuelCategory = codes "fuel_category"
key_text k.FuelValue = codes "fuel_value"
key_text k.FuelEmissionsMultiplier = codes "fuel_emissions_multiplier"
key_text k.BurntResult = codes "burnt_result"
key_text k.Effect = codes "effect"
key_text k.Speed = codes "speed"
key_text k.Productivity = codes "productivity"
key_text k.Consumption = codes "consumption"
key_text k.Pollution = codes "pollution"
key_text k.Bonus = codes "bonus"
key_text k.Limitation = codes "limitation"
key_text k.LimitationBlacklist = codes "limitation_blacklist"
key_text k.RocketLaunchProducts = codes "rocket_launch_products"
key_text k.RocketLaunchProduct = codes "rocket_launch_product"
key_text k.HeatCapacity = codes "heat_capacity"
key_text k.DefaultTemperature = codes "default_temperature"
key_text k.Category = codes "category"
key_text k.Ingredients = codes "ingredients"
key_text k.Results = codes "results"
key_text k.ResultName = codes "result"
key_text k.ResultCount = codes "result_count"
key_text k.EnergyRequired = codes "energy_required"
key_text k.Enabled = codes "enabled"
key_text k.EmissionsMultiplier = codes "emissions_multiplier"
key_text k.Normal = codes "normal"
key_text k.Expensive = codes "expensive"
key_text k.Minable = codes "minable"
key_text k.Autoplace = codes "autoplace"
key_text k.MiningTime = codes "mining_time"
key_text k.Count = codes "count"
key_text k.RequiredFluid = codes "required_fluid"
key_text k.FluidAmount = codes "fluid_amount"
key_text k.CraftingSpeed = codes "crafting_speed"
key_text k.CraftingCategories = codes "crafting_categories"
key_text k.EnergyUsage = codes "energy_usage"
key_text k.EnergySource = codes "energy_source"
key_text k.ModuleSpecification = codes "module_specification"
key_text k.ModuleSlots = codes "module_slots"
key_text k.AllowedEffects = codes "allowed_effects"
key_text k.BaseProductivity = codes "base_productivity"
key_text k.FixedRecipe = codes "fixed_recipe"
key_text k.RocketPartsRequired = codes "rocket_parts_required"
key_text k.MiningSpeed = codes "mining_speed"
key_text k.ResourceCategories = codes "resource_categories"
key_text k.InputFluidBox = codes "input_fluid_box"
key_text k.Fluid = codes "fluid"
key_text k.PumpingSpeed = codes "pumping_speed"
key_text k.EnergyConsumption = codes "energy_consumption"
key_text k.Mode = codes "mode"
key_text k.TargetTemperature = codes "target_temperature"
key_text k.FluidBox = codes "fluid_box"
key_text k.Filter = codes "filter"
key_text k.OutputFluidBox = codes "output_fluid_box"
key_text k.Effectivity = codes "effectivity"
key_text k.FluidUsagePerTick = codes "fluid_usage_per_tick"
key_text k.MaximumTemperature = codes "maximum_temperature"
key_text k.BurnsFluid = codes "burns_fluid"
key_text k.MaxPowerOutput = codes "max_power_output"
key_text k.Burner = codes "burner"
key_text k.Production = codes "production"
key_text k.Inputs = codes "inputs"
key_text k.ResearchingSpeed = codes "researching_speed"
key_text k.DistributionEffectivity = codes "distribution_effectivity"
key_text k.MiningCategories = codes "mining_categories"
key_text k.Prerequisites = codes "prerequisites"
key_text k.Unit = codes "unit"
key_text k.Time = codes "time"
key_text k.Effects = codes "effects"
key_text k.TypeName = codes "type"
key_text k.Recipe = codes "recipe"
key_text k.Name = codes "name"
key_text k.Amount = codes "amount"
key_text k.Temperature = codes "temperature"
key_text k.MinimumTemperature = codes "minimum_temperature"
key_text k.AmountMin = codes "amount_min"
key_text k.AmountMax = codes "amount_max"
key_text k.Probability = codes "probability"
key_text k.CatalystAmount = codes "catalyst_amount"
key_text k.EmissionsPerMinute = codes "emissions_per_minute"
key_text k.Drain = codes "drain"
key_text k.FuelCategories = codes "fuel_categories"

-- the path of keys to an object, joined by dots
abbrev pub within_text : Within → List ℕ
within_text w.Prototype = []
within_text w.Effect = codes "effect"
within_text w.EffectSpeed = codes "effect.speed"
within_text w.EffectProductivity = codes "effect.productivity"
within_text w.EffectConsumption = codes "effect.consumption"
within_text w.EffectPollution = codes "effect.pollution"
within_text w.RocketLaunchProducts = codes "rocket_launch_products"
within_text w.RocketLaunchProduct = codes "rocket_launch_product"
within_text w.Ingredients = codes "ingredients"
within_text w.Results = codes "results"
within_text w.Minable = codes "minable"
within_text w.MinableResults = codes "minable.results"
within_text w.EnergySource = codes "energy_source"
within_text w.EnergySourceFluidBox = codes "energy_source.fluid_box"
within_text w.Burner = codes "burner"
within_text w.ModuleSpecification = codes "module_specification"
within_text w.FluidBox = codes "fluid_box"
within_text w.OutputFluidBox = codes "output_fluid_box"
within_text w.Unit = codes "unit"
within_text w.UnitIngredients = codes "unit.ingredients"
within_text w.Effects = codes "effects"

-- the path of keys to a field
abbrev pub joined : List ℕ → List ℕ → List ℕ
joined [] key = key
joined (c ∷ cs) key = (c ∷ cs) ++ (codes "." ++ key)

unfoldable pub path_of : Within → Key → List ℕ
path_of within key = joined (within_text within) (key_text key)

abbrev pub path_to : Within → Option Key → List ℕ
path_to within None = within_text within
path_to within (Some key) = path_of within key

-- the path of keys to what is wrong
abbrev pub fault_path : FieldFault → List ℕ
fault_path fault = path_to fault.within fault.key
