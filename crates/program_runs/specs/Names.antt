-- The names of the files of a run.
use Rattle.std.specs.Prelude.{ℕ, List, ◌++◌, Bool, Option, codes, drop}
use Rattle.std.specs.List.{after_first, before_first, slice_get}
use Rattle.std.specs.Str.{bytes_eq}

abbrev pub is_dashes : List ℕ → Bool
is_dashes word = bytes_eq word (codes "--")

-- the words without the first `--`
abbrev pub without_dashes : List (List ℕ) → List (List ℕ)
without_dashes words = before_first is_dashes words ++ after_first is_dashes words

-- the word at a place behind the program's name, where the first `--` isn't counted
abbrev pub word_at : List (List ℕ) → ℕ → Option (List ℕ)
word_at words place = slice_get (without_dashes (drop 1 words)) place

-- of `run DUMP SCRIPT`
abbrev pub dump_name : List (List ℕ) → Option (List ℕ)
dump_name words = word_at words 1

abbrev pub script_name : List (List ℕ) → Option (List ℕ)
script_name words = word_at words 2
