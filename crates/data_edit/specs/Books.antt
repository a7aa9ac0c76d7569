-- When a book is sound.
use Rattle.std.specs.Prelude.{◌≡◌, length}
use Rattle.plan_base.specs.Shape.{node_count}
use Rattle.game_types.specs.Nodes.{shape_of}
use Rattle.game_types.specs.Sound.{IsSound}
use Rattle.data_edit.specs.declared.books.Book.{Book}

-- its game is, and each node has its marks
pub record IsSoundBook (book : Book) : Type 0 where
  pub game : IsSound book.game
  pub barred : length book.barred ≡ node_count (shape_of book.game)
  pub granted : length book.granted ≡ node_count (shape_of book.game)
