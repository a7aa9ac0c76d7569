-- How a text stands on a page, between the quotes of an attribute, in a drawing or in a label of a graph: with a character
-- reference in place of each letter that could end it or mean something else (HTML Living Standard, 13.1.4; Graphviz takes the
-- same references in labels).
use Rattle.std.specs.Prelude.{ℕ, Bool, not, ◌==◌, ◌||◌, List, [], ◌∷◌, if◌then◌else◌, codes}
use Rattle.std.specs.List.{flat_map}

-- what stands for a byte
abbrev pub reference : ℕ → List ℕ
reference byte =
    if byte == 38 then codes "&amp;"
    else if byte == 60 then codes "&lt;"
    else if byte == 62 then codes "&gt;"
    else if byte == 34 then codes "&quot;"
    else if byte == 39 then codes "&#39;"
    else if byte == 92 then codes "&#92;"
    else byte ∷ []

abbrev pub escaped : List ℕ → List ℕ
escaped text = flat_map reference text

-- neither `<`, `>`, a quote of either kind nor a backslash
abbrev pub is_harmless : ℕ → Bool
is_harmless byte = not (byte == 60 || (byte == 62 || (byte == 34 || (byte == 39 || byte == 92))))
