-- The start of the line of each node of a game: two blanks, and the word of the node.
use Rattle.std.specs.Prelude.{ℕ, ◌∷◌, List, map}
use Rattle.std.specs.List.{range_with_len}
use Rattle.plan_base.specs.Shape.{node_count}
use Rattle.game_types.specs.Nodes.{shape_of}
use Rattle.game_types.specs.declared.games.Game.{Game}
use Rattle.plan_report.specs.Nodes.{node_word}

-- the start of the further line that is about a node
abbrev pub line_start : Game → ℕ → List ℕ
line_start g n = 32 ∷ 32 ∷ node_word g (record { 0 = n })

-- those of all nodes, by number
unfoldable pub line_starts : Game → List (List ℕ)
line_starts g = map (line_start g) (range_with_len 0 (node_count (shape_of g)))
