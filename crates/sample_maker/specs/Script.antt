-- The script of a sample.
use Rattle.std.specs.Prelude.{ℕ, ◌+◌, ◌*◌, ◌/◌, ◌%◌, ◌==◌, List, [], ◌++◌, if◌then◌else◌, codes, decimal, min}
use Rattle.sample_maker.specs.Draws.{draw, joined}

-- nothing is told of edits, and i0 is there from the start
abbrev pub opening : List ℕ
opening = codes "quiet on\ngrant item:i0\n"

-- one of so many milestones that are spread over the items
unfoldable pub milestone : ℕ → ℕ → ℕ → List ℕ
milestone size count j = codes "milestone item:i" ++ (decimal (j * size / count) ++ codes "\n")

-- a summary at every eighth
unfoldable pub summary : ℕ → List ℕ
summary j = if j % 8 == 0 then codes "summary\n" else []

-- an item that is forbidden, and the edit is undone
unfoldable pub forbid : ℕ → ℕ → List ℕ
forbid j k = codes "forbid item:i" ++ (decimal k ++ (codes "\n" ++ (summary j ++ codes "undo\n")))

-- the item is one of i1 to iSIZE, drawn from a state on
abbrev pub forbid_at : ℕ → ℕ → ℕ → List ℕ
forbid_at state size j = forbid j (1 + draw state j size)

-- a row that makes an item
unfoldable pub row : ℕ → List ℕ
row j = codes "row t r" ++ (decimal j ++ (codes " recipe:r" ++ (decimal j ++ codes " by machine:m0\n")))

-- what a table with so many rows is for: one of the last item a second, made of i0
unfoldable pub aim : ℕ → List ℕ
aim k = codes "want t item:i" ++ (decimal k ++ codes " 1\nimport t item:i0 1\nsolve t\nsummary\n")

-- the script for a dump of a size: up to eight milestones, sixty-four edits, and a table of up to twenty rows
unfoldable pub script_text : ℕ → ℕ → List ℕ
script_text state size =
    opening
    ++ joined (milestone size (min 8 size)) (min 8 size)
    ++ joined (forbid_at state size) 64
    ++ codes "table t\n"
    ++ joined row (min 20 size)
    ++ aim (min 20 size)
