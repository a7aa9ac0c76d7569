-- The two texts of a sample.
use Rattle.std.specs.Prelude.{ℕ, ◌*◌, ◌%◌, ◌^◌, List}
use Rattle.sample_maker.specs.Draws.{after}
use Rattle.sample_maker.specs.Dump.{dump_text}
use Rattle.sample_maker.specs.Script.{script_text}

-- the dump of a number and a size: the number is where the draws begin
abbrev pub sample_dump : ℕ → ℕ → List ℕ
sample_dump number size = dump_text (number % 2 ^ 31) size

-- the script of a number and a size: its draws follow those of the dump, three for each item
abbrev pub sample_script : ℕ → ℕ → List ℕ
sample_script number size = script_text (after (3 * size) (number % 2 ^ 31)) size
