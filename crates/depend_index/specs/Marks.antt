-- Marks by number.
use Rattle.std.specs.Prelude.{ℕ, ◌≡◌, ◌<◌, Bool, false, List, length, slice_index_or}
use Rattle.graph_store.specs.Lists.{is_among}

-- each mark says whether its number is among these
abbrev pub AreMarks : List ℕ → List Bool → Type 0
AreMarks numbers marks = (k : ℕ) → k < length marks → slice_index_or marks k false ≡ is_among numbers k
