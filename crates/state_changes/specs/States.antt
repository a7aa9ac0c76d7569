-- What is planned in: a game with its marks, the milestones, and the production tables.
use Rattle.std.specs.Prelude.{ℕ, ◌<◌, ◌≤◌, ◌≢◌, ◌==◌, false, List, [], Option, All, AllPairs, length, replicate}
use Rattle.std.specs.List.{position}
use Rattle.plan_base.specs.Shape.{node_count}
use Rattle.plan_base.specs.declared.ids.NodeId.{NodeId}
use Rattle.game_types.specs.Nodes.{shape_of}
use Rattle.game_types.specs.declared.games.Game.{Game}
use Rattle.data_edit.specs.declared.books.Book.{Book}
use Rattle.data_edit.specs.Books.{IsSoundBook}
use Rattle.production_table.specs.declared.tables.Table.{Table}
use Rattle.planner_tables.specs.Effects.{AreSoundTables}

-- the milestones, and the tables, stand in the order in which they were added
pub record State : Type 0 where
  pub book : Book
  pub milestones : List NodeId
  pub tables : List Table

abbrev pub state_of : Book → List NodeId → List Table → State
state_of book milestones tables = record { book = book; milestones = milestones; tables = tables }

-- a game with no marks, no milestones and no tables
abbrev pub first_state : Game → State
first_state g = state_of (record { game = g; barred = replicate (node_count (shape_of g)) false; granted = replicate (node_count (shape_of g)) false }) [] []

-- the place of a milestone in their order
abbrev pub milestone_place : List NodeId → ℕ → Option ℕ
milestone_place milestones node = position (λ m. m.0 == node) milestones

-- the book is sound, and the milestones are nodes of it, each once, at most 256
pub record AreSoundMilestones (b : Book) (milestones : List NodeId) : Type 0 where
  pub book : IsSoundBook b
  pub nodes : All (λ m. m.0 < node_count (shape_of b.game)) milestones
  pub once : AllPairs (λ m n. m.0 ≢ n.0) milestones
  pub few : length milestones ≤ 256

-- the book and its milestones are sound, and so are the tables on the game
pub record IsSoundState (s : State) : Type 0 where
  pub milestones : AreSoundMilestones s.book s.milestones
  pub tables : AreSoundTables s.book.game s.tables
