-- A game with a base and variants of each fluid that is made at several temperatures, and what faults that may have.
use Rattle.std.specs.Prelude.{ℕ, List, [], Option, Some, None, Result, Ok, Err, codes, is_some, nat_lt, if◌then◌else◌}
use Rattle.plan_base.specs.Shape.{node_count}
use Rattle.name_table.specs.Names.{place_of}
use Rattle.prototype_fields.specs.declared.fault.FieldCode.TheVariants.{Twice}
use Rattle.prototype_fields.specs.declared.names.Key.TheVariants.{Temperature}
use Rattle.prototype_fields.specs.declared.names.Within.TheVariants.{Prototype}
use Rattle.craft_reader.specs.Faults.{fault_in}
use Rattle.craft_reader.specs.declared.fault.DumpCode.TheVariants as d
use Rattle.craft_reader.specs.declared.fault.DumpFault.{DumpFault}
use Rattle.dump_reader.specs.Dump.{◌▷◌}
use Rattle.game_types.specs.Nodes.{node_limit, shape_of}
use Rattle.game_types.specs.Temperatures.{first_where}
use Rattle.game_types.specs.declared.games.Game.{Game}
use Rattle.fluid_variants.specs.Naming.{first_twice}
use Rattle.fluid_variants.specs.Temperatures.{temperature_lists}
use Rattle.fluid_variants.specs.Records.{all_variant_names}
use Rattle.fluid_variants.specs.Split.{split}

-- the first fluid of the dump that has the name of a variant, and after that more nodes than there may be. There
-- are fewer names of fluids than nodes, and two variants have different names, since no temperature is written with `@`
unfoldable pub first_variant_name : Game → Option (List ℕ)
first_variant_name g = first_where (λ name. is_some (place_of (all_variant_names g.fluid_names (temperature_lists g)) name)) g.fluid_names

abbrev pub name_fault : List ℕ → DumpFault
name_fault name = fault_in (codes "fluid") name (record { code = Twice; within = Prototype; key = Some Temperature })

abbrev pub unless_named : Option (List ℕ) → Result (Unit {0}) DumpFault
unless_named None = Ok tt
unless_named (Some name) = Err (name_fault name)

abbrev pub too_many_variants : DumpFault
too_many_variants = record { code = d.Limit; section = []; name = []; field = codes "variants" }

unfoldable pub within_limit : Game → Result Game DumpFault
within_limit g = if nat_lt node_limit (node_count (shape_of g)) then Err too_many_variants else Ok g

unfoldable pub with_variants : Game → Result Game DumpFault
with_variants g =
    unless_named (first_variant_name g) ▷ λ _.
    within_limit (split g) ▷ λ new.
    unless_named (first_twice [] new.fluid_names) ▷ λ _.
    Ok new
