-- The base of a dump: its game, where the rows of the nodes have few enough members.
use Rattle.std.specs.Prelude.{◌≤◌, ◌<◌, ◌+◌, ◌*◌, ℕ, List, [], codes}
use Rattle.plan_base.specs.Shape.{node_count}
use Rattle.game_types.specs.Nodes.{shape_of}
use Rattle.game_types.specs.declared.games.Game.{Game}
use Rattle.graph_store.specs.Rows.{member_count}
use Rattle.craft_reader.specs.declared.fault.DumpCode.TheVariants.{Limit}
use Rattle.craft_reader.specs.declared.fault.DumpFault.{DumpFault}
use Rattle.depend_rows.specs.Rows.{rows_of}
use Rattle.game_reader.specs.Games.{HasGame}

-- the dump has this game, and its rows have few enough members
pub record HasBase (dump : List ℕ) (game : Game) : Type 0 where
  pub has : HasGame dump game
  pub few : member_count (rows_of game) ≤ 4_194_304

-- the dump has a game whose rows have too many members
pub record HasManyMembers (dump : List ℕ) : Type 0 where
  pub game : Game
  pub has : HasGame dump game
  pub many : 4_194_304 < member_count (rows_of game)

-- too many members are no fault of one prototype
abbrev pub members_fault : DumpFault
members_fault = record { code = Limit; section = []; name = []; field = codes "members" }

-- the most steps that it takes to load a game: eight for each node and for each member of the rows
abbrev pub load_work : Game → ℕ
load_work game = 8 * (node_count (shape_of game) + member_count (rows_of game))
