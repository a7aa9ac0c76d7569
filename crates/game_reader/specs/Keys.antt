-- The keys of a dump that are read: the sections, and the fields of their prototypes, by the prototype documentation of
-- Factorio 1.1. A value under another key is JSON of any form.
use Rattle.std.specs.Prelude.{ℕ, List, [], ◌∷◌, codes, map}
use Rattle.json_text.specs.Kept.{Wishes}
use Rattle.dump_reader.specs.Dump.{sections}
use Rattle.machine_reader.specs.Sections.{section_text}

-- the keys that are read within prototypes, whatever the section
abbrev pub field_keys : List (List ℕ)
field_keys =
    codes "place_result" ∷ codes "fuel_category" ∷ codes "fuel_value" ∷ codes "fuel_emissions_multiplier" ∷ codes "burnt_result" ∷ codes "effect"
    ∷ codes "speed" ∷ codes "productivity" ∷ codes "consumption" ∷ codes "pollution" ∷ codes "bonus" ∷ codes "limitation"
    ∷ codes "limitation_blacklist" ∷ codes "rocket_launch_products" ∷ codes "rocket_launch_product" ∷ codes "heat_capacity"
    ∷ codes "default_temperature" ∷ codes "category" ∷ codes "ingredients" ∷ codes "results" ∷ codes "result" ∷ codes "result_count"
    ∷ codes "energy_required" ∷ codes "enabled" ∷ codes "emissions_multiplier" ∷ codes "normal" ∷ codes "expensive" ∷ codes "minable"
    ∷ codes "autoplace" ∷ codes "mining_time" ∷ codes "count" ∷ codes "required_fluid" ∷ codes "fluid_amount" ∷ codes "crafting_speed"
    ∷ codes "crafting_categories" ∷ codes "energy_usage" ∷ codes "energy_source" ∷ codes "module_specification" ∷ codes "module_slots"
    ∷ codes "allowed_effects" ∷ codes "base_productivity" ∷ codes "fixed_recipe" ∷ codes "rocket_parts_required" ∷ codes "mining_speed"
    ∷ codes "resource_categories" ∷ codes "input_fluid_box" ∷ codes "fluid" ∷ codes "pumping_speed" ∷ codes "energy_consumption" ∷ codes "mode"
    ∷ codes "target_temperature" ∷ codes "fluid_box" ∷ codes "filter" ∷ codes "output_fluid_box" ∷ codes "effectivity" ∷ codes "fluid_usage_per_tick"
    ∷ codes "maximum_temperature" ∷ codes "burns_fluid" ∷ codes "max_power_output" ∷ codes "burner" ∷ codes "production" ∷ codes "inputs"
    ∷ codes "researching_speed" ∷ codes "distribution_effectivity" ∷ codes "mining_categories" ∷ codes "prerequisites" ∷ codes "unit" ∷ codes "time"
    ∷ codes "effects" ∷ codes "type" ∷ codes "recipe" ∷ codes "name" ∷ codes "amount" ∷ codes "temperature" ∷ codes "minimum_temperature"
    ∷ codes "amount_min" ∷ codes "amount_max" ∷ codes "probability" ∷ codes "catalyst_amount" ∷ codes "emissions_per_minute" ∷ codes "drain"
    ∷ codes "fuel_categories" ∷ []

abbrev pub dump_wishes : Wishes
dump_wishes = record { sections = map section_text sections; fields = field_keys }
