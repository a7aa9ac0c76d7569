-- No edit changes the starts of the lines of the nodes: they are made of what kinds of things there are, and of their names.
use Rattle.std.proofs.Common.{◌≡◌, ◌∙◌, ℕ, ◌-◌, List, [], ◌∷◌, map, ap}
use Rattle.std.specs.Prelude.{slice_index_or}
use Rattle.std.specs.List.{range_with_len}
use Rattle.std.proofs.Math.Path.{fun_ext}
use Rattle.plan_base.specs.Shape.{first_of, node_count}
use Rattle.plan_base.specs.declared.shape.Shape.{Shape}
use Rattle.game_types.specs.Nodes.{names_of, shape_of}
use Rattle.game_types.specs.declared.games.Game.{Game}
use Rattle.data_edit.specs.Names.{KeepsNames}
use Rattle.plan_report.specs.LineStarts.{line_start, line_starts}
use Rattle.plan_report.specs.Nodes.{kind_at, node_word}
use Rattle.plan_report.specs.Words.{object_word}

node_word-kept : (old new : Game) (n : ℕ) → KeepsNames old new → node_word new (record { 0 = n }) ≡ node_word old (record { 0 = n })
unfolding node_word
node_word-kept old new n names =
    let kind = kind_at (shape_of old) n in
    ap (λ (s : Shape). object_word (kind_at s n) (slice_index_or (names_of new (kind_at s n)) (n - first_of s (kind_at s n)) [])) names.shape
    ∙ ap (λ (list : List (List ℕ)). object_word kind (slice_index_or list (n - first_of (shape_of old) kind) [])) (names.names kind)

line_start-kept : (old new : Game) → KeepsNames old new → (n : ℕ) → line_start new n ≡ line_start old n
line_start-kept old new names n = ap (λ (word : List ℕ). 32 ∷ 32 ∷ word) (node_word-kept old new n names)

pub line_starts-kept : (old new : Game) → KeepsNames old new → line_starts new ≡ line_starts old
unfolding line_starts
line_starts-kept old new names =
    ap (λ (s : Shape). map (line_start new) (range_with_len 0 (node_count s))) names.shape
    ∙ ap (λ (f : ℕ → List ℕ). map f (range_with_len 0 (node_count (shape_of old)))) (fun_ext (line_start-kept old new names))
