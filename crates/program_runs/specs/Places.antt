-- Where a byte of a text stands: its line and its column.
use Rattle.std.specs.Prelude.{ℕ, ◌+◌, Bool, ◌==◌, nat_le, List, length, take}
use Rattle.std.specs.List.{after_last, count_by}
use Rattle.program_runs.specs.declared.place.Place.{Place}

-- the byte that ends a line
abbrev pub is_newline : ℕ → Bool
is_newline byte = byte == 10

-- lines count from 1, and each newline before the place ends one
abbrev pub line_at : List ℕ → ℕ → ℕ
line_at bytes at = count_by is_newline (take at bytes) + 1

-- columns count from 1 too: how many bytes stand behind the last newline before the place, and 1
abbrev pub column_at : List ℕ → ℕ → ℕ
column_at bytes at = length (after_last is_newline (take at bytes)) + 1

-- the place behind so many bytes. At the end there are no more.
abbrev pub place_at : List ℕ → ℕ → Place
place_at bytes at = record { line = line_at bytes at; column = column_at bytes at; at_end = nat_le (length bytes) at }
