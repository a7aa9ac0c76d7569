-- How a reply is laid out: lines of words. The first line begins with the number of the script's line, and each further one
-- with two spaces. The layout is this project's own.
use Rattle.std.specs.Prelude.{ℕ, List, [], ◌∷◌, ◌++◌, decimal}
use Rattle.std.specs.List.{flat_map}

abbrev pub Line : Type 0
Line = List (List ℕ)

-- words, each behind a space
abbrev pub spaced : List (List ℕ) → List ℕ
spaced words = flat_map (λ word. 32 ∷ word) words

-- the words of a line, each behind a space, the newline, and what follows the line
abbrev pub line_then : Line → List ℕ → List ℕ
line_then [] rest = 10 ∷ rest
line_then (word ∷ words) rest = 32 ∷ (word ++ line_then words rest)

-- a further line: one space more, and its words
abbrev pub further_line : Line → List ℕ
further_line words = 32 ∷ line_then words []

abbrev pub further_text : List Line → List ℕ
further_text lines = flat_map further_line lines

-- the lines of a reply to the line with this number
abbrev pub reply_text : ℕ → List Line → List ℕ
reply_text number [] = []
reply_text number (first ∷ further) = decimal number ++ line_then first (further_text further)
