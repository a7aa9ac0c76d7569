-- Ranks that are remembered: those before the last change of marks, right under the marks that stand beside them.
use Rattle.std.specs.Prelude.{◌≡◌, ℕ, false, List, IfSome, length, slice_get}
use Rattle.plan_base.specs.declared.ids.NodeId.{NodeId}
use Rattle.graph_store.specs.Rows.{has_node}
use Rattle.graph_store.specs.declared.Row.{Row}
use Rattle.data_edit.specs.declared.books.Book.{Book}
use Rattle.milestone_masks.specs.Worlds.{AreWorlds, Kept}
use Rattle.planning_state.specs.declared.remembered.Marks.{Marks}
use Rattle.planning_state.specs.declared.remembered.Remembered.{Remembered}

-- the marks are those of the book
pub record AreMarksOf (book : Book) (marks : Marks) : Type 0 where
  pub barred : marks.barred.items ≡ book.barred
  pub granted : marks.granted.items ≡ book.granted

-- so they are but at these nodes
pub record AreMarksBut (nodes : List NodeId) (book : Book) (marks : Marks) : Type 0 where
  pub barred_long : length marks.barred.items ≡ length book.barred
  pub granted_long : length marks.granted.items ≡ length book.barred
  pub as_long : length book.granted ≡ length book.barred
  pub barred : (n : ℕ) → has_node nodes n ≡ false → slice_get marks.barred.items n ≡ slice_get book.barred n
  pub granted : (n : ℕ) → has_node nodes n ≡ false → slice_get marks.granted.items n ≡ slice_get book.granted n

-- the ranks are right under the marks
abbrev pub AreRight : List Row → Marks → Kept → Type 0
AreRight rows marks kept = AreWorlds rows marks.barred.items marks.granted.items kept

-- the marks that are remembered are those of the book, and the ranks are right under the marks beside them
pub record Remembers (book : Book) (rows : List Row) (remembered : Remembered) : Type 0 where
  pub marks : IfSome remembered.marks (AreMarksOf book)
  pub before : IfSome remembered.before (λ b. AreRight rows b.marks b.worlds)
