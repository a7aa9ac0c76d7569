-- Books and tables that changes lead to, and what takes them back.
use Rattle.std.specs.Prelude.{◌≡◌, ℕ, ◌++◌, ◌∷◌, [], Bool, false, true, List, Ok, Some}
use Rattle.std.specs.List.{list_all, list_any}
use Rattle.plan_base.specs.declared.ids.NodeId.{NodeId}
use Rattle.graph_store.specs.Rows.{has_node}
use Rattle.game_types.specs.Nodes.{shape_of}
use Rattle.data_edit.specs.declared.books.Book.{Book}
use Rattle.data_edit.specs.declared.edits.Edit.{Edit}
use Rattle.data_edit.specs.declared.edits.Edit.TheVariants.{SetIngredient, DropIngredient, SetProduct, DropProduct, SetUnlock, SetTime, SetEnabled, Forbid, Permit, Grant, Revoke}
use Rattle.data_edit.specs.declared.parts.Inverse.{Inverse}
use Rattle.data_edit.specs.Books.{IsSoundBook}
use Rattle.data_edit.specs.Edits.{effect, restored}
use Rattle.data_edit.specs.Names.{KeepsNames}
use Rattle.depend_index.specs.Alike.{AlikeBut}
use Rattle.depend_rows.specs.Touched.{touched_by, StaysAs}
use Rattle.edit_undo.specs.Edits.{apply_edits}
use Rattle.plan_lines.specs.declared.change.Change.{Change}
use Rattle.production_table.specs.declared.tables.Table.{Table}
use Rattle.planner_tables.specs.Effects.{AreSoundTables}
use Rattle.state_changes.specs.declared.undos.Undo.{Undo}
use Rattle.state_changes.specs.declared.undos.Undo.TheVariants.{Part, OfTables, Added, Taken}
use Rattle.state_changes.specs.Actions.{edit_named, edits_named}
use Rattle.state_changes.specs.States.{state_of}
use Rattle.state_changes.specs.Effects.{effect_of}
use Rattle.state_changes.specs.Undoing.{all_restored, all_tables_restored, part_restored, table_part_restored}

-- a change of a book: the edit that it asks for, and the part that takes it back
pub record AppliesOne (before : Book) (change : Change) (edit : Edit) (part : Inverse) (after : Book) : Type 0 where
  pub named : edit_named before.game change ≡ Ok (Some edit)
  pub effect_is : effect edit before ≡ Ok after
  pub sound : IsSoundBook after
  pub back : restored part after ≡ before

-- whether one of the edits touches the node
abbrev pub is_touched : Book → List Edit → ℕ → Bool
is_touched book edits n = list_any (λ edit. has_node (touched_by (shape_of book.game) edit) n) edits

-- whether an edit sets a mark: it forbids a node or permits it, grants it or revokes it
abbrev pub is_of_mark : Edit → Bool
is_of_mark (SetIngredient recipe good amount) = false
is_of_mark (DropIngredient recipe good) = false
is_of_mark (SetProduct recipe good amount) = false
is_of_mark (DropProduct recipe good) = false
is_of_mark (SetUnlock tech recipe on) = false
is_of_mark (SetTime recipe time) = false
is_of_mark (SetEnabled recipe on) = false
is_of_mark (Forbid node) = true
is_of_mark (Permit node) = true
is_of_mark (Grant node) = true
is_of_mark (Revoke node) = true

-- whether what takes a change back is a part of the book or of the tables
abbrev pub is_part_undo : Undo → Bool
is_part_undo (Part part) = true
is_part_undo (OfTables undo) = true
is_part_undo (Added node) = false
is_part_undo (Taken node place) = false

-- One more change of a book and its tables: the edit that it asks for, where it asks for one, behind the others, and so what
-- takes it back.
pub record AppliesNext (before : Book) (tables : List Table) (change : Change) (edits : List Edit) (undos : List Undo) (after : Book) (left : List Table) (more_edits : List Edit) (more_undos : List Undo) : Type 0 where
  pub accepted : (milestones : List NodeId) → effect_of (state_of before milestones tables) change ≡ Ok (state_of after milestones left)
  pub sound : IsSoundBook after
  pub fit : AreSoundTables after.game left
  pub names : KeepsNames before.game after.game
  pub edits_are : more_edits ≡ edits ++ edits_named before.game (change ∷ [])
  pub parts : list_all is_part_undo undos ≡ true → list_all is_part_undo more_undos ≡ true
  pub back : all_restored more_undos after ≡ all_restored undos before
  pub tables_back : all_tables_restored more_undos left ≡ all_tables_restored undos tables
  pub stays : (n : ℕ) → is_touched before (edits_named before.game (change ∷ [])) n ≡ false → StaysAs before after n
  pub alike : AlikeBut (edits_named before.game (change ∷ [])) before.game after.game
  pub game : list_all is_of_mark (edits_named before.game (change ∷ [])) ≡ true → after.game ≡ before.game

-- changes of a book and its tables, all of them: the edits that they ask for, and what takes them back
pub record Applies (before : Book) (tables : List Table) (changes : List Change) (edits : List Edit) (undos : List Undo) (after : Book) (left : List Table) : Type 0 where
  pub accepted : (milestones : List NodeId) → apply_edits effect_of (state_of before milestones tables) changes ≡ Ok (state_of after milestones left)
  pub sound : IsSoundBook after
  pub fit : AreSoundTables after.game left
  pub names : KeepsNames before.game after.game
  pub edits_are : edits ≡ edits_named before.game changes
  pub parts : list_all is_part_undo undos ≡ true
  pub back : all_restored undos after ≡ before
  pub tables_back : all_tables_restored undos left ≡ tables
  pub stays : (n : ℕ) → is_touched before edits n ≡ false → StaysAs before after n
  pub alike : AlikeBut edits before.game after.game
  pub game : list_all is_of_mark edits ≡ true → after.game ≡ before.game

-- a part of the book put back, where there is one, and what stood in its place behind the others
pub record RestoresPart (undo : Undo) (old : Book) (forward : List Undo) (new : Book) (more : List Undo) : Type 0 where
  pub after : new ≡ part_restored undo old
  pub back : all_restored more new ≡ all_restored forward old

-- the same of a part of the tables
pub record RestoresTables (undo : Undo) (old : List Table) (forward : List Undo) (new : List Table) (more : List Undo) : Type 0 where
  pub after : new ≡ table_part_restored undo old
  pub back : all_tables_restored more new ≡ all_tables_restored forward old
