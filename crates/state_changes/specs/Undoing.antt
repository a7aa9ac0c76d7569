-- How entries are taken back.
use Rattle.std.specs.Prelude.{◌≡◌, ℕ, ◌≤◌, Bool, true, false, List, [], ◌∷◌, Option, Some, None, Ok, insert, length, remove}
use Rattle.std.specs.List.{list_all}
use Rattle.plan_base.specs.declared.ids.NodeId.{NodeId}
use Rattle.data_edit.specs.declared.books.Book.{Book}
use Rattle.data_edit.specs.Edits.{restored}
use Rattle.data_edit.specs.Names.{KeepsNames}
use Rattle.game_types.specs.declared.games.Game.{Game}
use Rattle.plan_lines.specs.declared.change.Object.{Object}
use Rattle.plan_lines.specs.declared.change.Change.{Change}
use Rattle.plan_lines.specs.declared.change.Change.TheVariants.{Unmilestone}
use Rattle.production_table.specs.declared.tables.Table.{Table}
use Rattle.planner_tables.specs.Undoing.{tables_restored}
use Rattle.state_changes.specs.Actions.{can_be_held, node_named}
use Rattle.state_changes.specs.declared.undos.Undo.{Undo}
use Rattle.state_changes.specs.declared.undos.Undo.TheVariants.{Part, OfTables, Added, Taken}
use Rattle.state_changes.specs.States.{State, state_of, milestone_place, IsSoundState}

-- what is about milestones and about tables leaves the book
abbrev pub part_restored : Undo → Book → Book
part_restored (Part part) book = restored part book
part_restored (OfTables undo) book = book
part_restored (Added node) book = book
part_restored (Taken node place) book = book

-- the parts of the book are put back, the last one first
abbrev pub all_restored : List Undo → Book → Book
all_restored [] book = book
all_restored (undo ∷ undos) book = part_restored undo (all_restored undos book)

-- what is about milestones and about the book leaves the tables
abbrev pub table_part_restored : Undo → List Table → List Table
table_part_restored (Part part) tables = tables
table_part_restored (OfTables undo) tables = tables_restored undo tables
table_part_restored (Added node) tables = tables
table_part_restored (Taken node place) tables = tables

-- the parts of the tables are put back, the last one first
abbrev pub all_tables_restored : List Undo → List Table → List Table
all_tables_restored [] tables = tables
all_tables_restored (undo ∷ undos) tables = table_part_restored undo (all_tables_restored undos tables)

abbrev pub removed_at : List NodeId → Option ℕ → List NodeId
removed_at milestones None = milestones
removed_at milestones (Some place) = remove milestones place

-- the milestone that an entry added goes, the one that it took comes back at its place, or the parts of the book and those of
-- the tables are put back
abbrev pub taken_back : List Undo → State → State
taken_back (Added node ∷ []) s = state_of s.book (removed_at s.milestones (milestone_place s.milestones node.0)) s.tables
taken_back (Taken node place ∷ []) s = state_of s.book (insert s.milestones place node) s.tables
taken_back undos s = state_of (all_restored undos s.book) s.milestones (all_tables_restored undos s.tables)

-- whether the entry was one of milestones
abbrev pub is_of_milestone : List Undo → Bool
is_of_milestone (Added node ∷ []) = true
is_of_milestone (Taken node place ∷ []) = true
is_of_milestone undos = false

-- a milestone that was taken, by a change that names it, stood at a place where there is room
pub record FitsTaken (g : Game) (changes : List Change) (node : NodeId) (place count : ℕ) : Type 0 where
  pub object : Object
  pub change : changes ≡ Unmilestone object ∷ []
  pub named : node_named g object ≡ Ok node
  pub room : place ≤ count

-- what takes an entry back is of the kind of its changes
abbrev pub Fits : List Change → List Undo → State → Type 0
Fits changes (Added node ∷ []) after = Unit {0}
Fits changes (Taken node place ∷ []) after = FitsTaken after.book.game changes node place (length after.milestones)
Fits changes undos after = list_all can_be_held changes ≡ true

-- From the state after an entry these lead back to a sound state, in which things are named as they are after it.
pub record LeadsBack (after : State) (changes : List Change) (undos : List Undo) (before : State) : Type 0 where
  pub sound : IsSoundState before
  pub names : KeepsNames before.book.game after.book.game
  pub fits : Fits changes undos after
  pub back : taken_back undos after ≡ before
