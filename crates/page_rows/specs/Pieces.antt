-- Pieces of text, and pieces behind one another.
use Rattle.std.specs.Prelude.{ℕ, List, decimal, map}
use Rattle.std.specs.List.{flat_map}
use Rattle.fractions.specs.Print.{printed}
use Rattle.page_parts.specs.Escape.{escaped}
use Rattle.page_rows.specs.Numbers.{near_text}
use Rattle.page_rows.specs.Labels.{label_text}
use Rattle.page_rows.specs.declared.pieces.Piece.{Piece}
use Rattle.page_rows.specs.declared.pieces.Piece.TheVariants as piece

abbrev pub piece_text : Piece → List ℕ
piece_text (piece.Text text) = text.now
piece_text (piece.Name name) = escaped name.now
piece_text (piece.Label name) = label_text name.now
piece_text (piece.Count count) = decimal count
piece_text (piece.Exact number) = printed number.now
piece_text (piece.Near number) = near_text number.now

abbrev pub text_of : List Piece → List ℕ
text_of pieces = flat_map (λ text. text) (map piece_text pieces)
