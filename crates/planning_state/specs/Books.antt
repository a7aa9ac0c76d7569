-- Books whose rows and ranks are settled: where they come from, and what takes them back.
use Rattle.std.specs.Prelude.{◌≡◌, ℕ, ◌<◌, [], false, true, List, Some, if◌then◌else◌, length, slice_get}
use Rattle.std.specs.List.{list_all}
use Rattle.plan_base.specs.declared.ids.NodeId.{NodeId}
use Rattle.graph_store.specs.declared.Row.{Row}
use Rattle.graph_store.specs.Rows.{has_node}
use Rattle.data_edit.specs.declared.books.Book.{Book}
use Rattle.data_edit.specs.declared.edits.Edit.{Edit}
use Rattle.data_edit.specs.Books.{IsSoundBook}
use Rattle.data_edit.specs.Names.{KeepsNames}
use Rattle.depend_index.specs.Alike.{AlikeBut}
use Rattle.depend_rows.specs.Rows.{row_of}
use Rattle.depend_rows.specs.Touched.{StaysAs}
use Rattle.plan_lines.specs.declared.change.Change.{Change}
use Rattle.production_table.specs.declared.tables.Table.{Table}
use Rattle.planner_tables.specs.Effects.{AreSoundTables}
use Rattle.state_changes.specs.declared.undos.Undo.{Undo}
use Rattle.state_changes.specs.Actions.{edits_named}
use Rattle.state_changes.specs.Books.{is_of_mark, is_touched}
use Rattle.state_changes.specs.Undoing.{all_restored, all_tables_restored}

-- of the nodes that edits touch, those whose rows may be others: none where each of the edits sets a mark
abbrev pub with_rows : List Edit → List NodeId → List NodeId
with_rows edits nodes = if list_all is_of_mark edits then [] else nodes

-- the rows are those of the book, but for these nodes
pub record AreRowsBut (nodes : List NodeId) (book : Book) (rows : List Row) : Type 0 where
  pub others : (n : ℕ) → n < length rows → has_node nodes n ≡ false → slice_get rows n ≡ Some (row_of book.game n)

-- The book comes from another by these edits, or by what takes them back: its things are named as before, and each node
-- that none of the edits touches has the row and the marks that it had; but for what the edits name its game is the same. Where
-- each of the edits sets a mark, the game is as it was.
pub record ComesFrom (before : Book) (edits : List Edit) (after : Book) : Type 0 where
  pub names : KeepsNames before.game after.game
  pub stays : (n : ℕ) → is_touched before edits n ≡ false → StaysAs before after n
  pub alike : AlikeBut edits before.game after.game
  pub game : list_all is_of_mark edits ≡ true → after.game ≡ before.game

-- From the book and the tables after changes these lead back to sound ones.
pub record TakesBack (after : Book) (left : List Table) (changes : List Change) (undos : List Undo) (before : Book) (tables : List Table) : Type 0 where
  pub sound : IsSoundBook before
  pub fit : AreSoundTables before.game tables
  pub comes : ComesFrom after (edits_named after.game changes) before
  pub back : all_restored undos after ≡ before
  pub tables_back : all_tables_restored undos left ≡ tables
