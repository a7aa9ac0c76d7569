-- The dependency rows of a game: what each node needs. The rules of the game are those of Factorio 1.1 by its prototype
-- documentation; which groups a row has is this project's own.
use Rattle.std.specs.Prelude.{ℕ, ◌-◌, List, [], None, true, map, nat_lt, slice_index_or, ◌==◌, if◌then◌else◌}
use Rattle.std.specs.List.{range_with_len}
use Rattle.fractions.specs.Fraction.{zero_fraction}
use Rattle.plan_base.specs.Shape.{node_count}
use Rattle.plan_base.specs.declared.NodeId.{NodeId}
use Rattle.graph_store.specs.declared.Row.{Row}
use Rattle.game_types.specs.Lookups.{machine_at, recipe_at, source_at}
use Rattle.game_types.specs.Nodes.{shape_of}
use Rattle.game_types.specs.declared.games.Game.{Game}
use Rattle.game_types.specs.declared.research.Tech.{Tech}
use Rattle.depend_index.specs.Goods.{first_machine, first_recipe, first_source, first_tech}
use Rattle.depend_rows.specs.Goods.{good_row, recipe_row, source_row}
use Rattle.depend_rows.specs.Machines.{character_row, electricity_row, heat_row, machine_row, tech_row}

-- the technology with a number; where there is none, one that needs nothing
unfoldable pub no_tech : Tech
no_tech = record { enabled = true; prerequisites = []; unlocks = []; ingredients = []; count = None; time = zero_fraction }

unfoldable pub tech_at : Game → ℕ → Tech
tech_at g number = slice_index_or g.techs number no_tech

abbrev pub special_row : Game → ℕ → Row
special_row g n = if n == 0 then character_row else if n == 1 then electricity_row g else heat_row g

-- the row of a node, by its kind
unfoldable pub row_of : Game → ℕ → Row
row_of g n =
    if nat_lt n 3 then special_row g n
    else if nat_lt n (first_recipe g) then good_row g (n - 3)
    else if nat_lt n (first_source g) then recipe_row g (n - first_recipe g) (recipe_at g (record { 0 = n - first_recipe g }))
    else if nat_lt n (first_machine g) then source_row g (source_at g (record { 0 = n - first_source g }))
    else if nat_lt n (first_tech g) then machine_row g (n - first_machine g) (machine_at g (record { 0 = n - first_machine g }))
    else tech_row g (tech_at g (n - first_tech g))

-- the rows of all nodes, in order
unfoldable pub rows_of : Game → List Row
rows_of g = map (row_of g) (range_with_len 0 (node_count (shape_of g)))

-- a node and its row
abbrev pub row_beside : Game → NodeId → NodeId × Row
row_beside g n = (n, row_of g n.0)
