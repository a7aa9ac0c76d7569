-- Texts of others in the labels of a graph: Graphviz reads two backslashes as one, and breaks lines or ends at letters below the space.
use Rattle.std.specs.Prelude.{ℕ, ◌==◌, nat_lt, List, [], ◌∷◌, if◌then◌else◌}
use Rattle.std.specs.List.{flat_map}
use Rattle.page_parts.specs.Escape.{escaped}

-- what stands for a byte: two backslashes for one, and the replacement character (U+FFFD in UTF-8) for what is below the space
abbrev pub labelled : ℕ → List ℕ
labelled byte =
    if byte == 92 then 92 ∷ 92 ∷ []
    else if nat_lt byte 32 then 239 ∷ 191 ∷ 189 ∷ []
    else byte ∷ []

abbrev pub label_text : List ℕ → List ℕ
label_text text = escaped (flat_map labelled text)
