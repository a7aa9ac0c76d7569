-- How like two names are. Vladimir Levenshtein, "Binary codes capable of correcting deletions, insertions and reversals", 1966.
use Rattle.std.specs.Prelude.{◌≡◌, ℕ, List, [], length, map, Bool, ◌==◌, ◌||◌, Option, Some, None, nat_eq, nat_lt, slice_get, if◌then◌else◌}
use Rattle.std.specs.Char.{to_ascii_lowercase}
use Rattle.std.specs.List.{IsFirstBest}
use Rattle.strsim.specs.Edits.{levenshtein_row}
use Rattle.line_causes.specs.declared.likeness.Likeness.{Likeness}

-- a byte as it is compared: a small letter for a capital, a dash for a blank or an underscore
abbrev pub plain_byte : ℕ → ℕ
plain_byte byte = if (byte == 32) || (byte == 95) then 45 else to_ascii_lowercase byte

abbrev pub plain : List ℕ → List ℕ
plain text = map plain_byte text

-- how many bytes must be put in, taken out or changed, one at a time, to get from one text to another
abbrev pub edits : List ℕ → List ℕ → ℕ
edits from to = levenshtein_row nat_eq from to (length to)

-- from a word to each of the names
abbrev pub edits_to_each : List ℕ → List (List ℕ) → List ℕ
edits_to_each word names = map (λ name. edits (plain word) (plain name)) names

-- the first of the names to which least edits lead from the word, and their number; none where there are no names
abbrev pub IsNearest : List ℕ → List (List ℕ) → Option Likeness → Type 0
IsNearest word names None = names ≡ []
IsNearest word names (Some like) =
    IsFirstBest nat_lt (edits_to_each word names) (length names) like.place
    × (slice_get (edits_to_each word names) like.place ≡ Some like.edits)
