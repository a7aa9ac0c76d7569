-- The lines of nodes with their ranks.
use Rattle.std.proofs.Common.{◌≡◌, ◌∙◌, ◌<◌, ◌++◌, ◌∷◌, ℕ, Bool, true, false, List, [], ap, sym, append_assoc, arith, decimal, if◌then◌else◌}
use Rattle.std.specs.Prelude.{Some, codes, map, slice_get}
use Rattle.std.specs.List.{range_with_len}
use Rattle.std.proofs.lemmas.List.FromFn.{get_or-map-range_with_len, length-map-range_with_len}
use Rattle.std.proofs.lemmas.Option.{get_or_from_slice_get, slice_get_within}
use Rattle.plan_base.specs.Shape.{node_count}
use Rattle.game_types.specs.Nodes.{shape_of}
use Rattle.game_types.specs.declared.games.Game.{Game}
use Rattle.plan_report.specs.Layout.{further_line, Line}
use Rattle.plan_report.specs.LineStarts.{line_start, line_starts}
use Rattle.plan_report.specs.RankWords.{rank_words}

-- the line of a node that isn't granted, or is
abbrev line_with : List ℕ → ℕ → Bool → Line
line_with word rank granted =
    if granted then word ∷ codes "rank" ∷ decimal rank ∷ codes "granted" ∷ []
    else word ∷ codes "rank" ∷ decimal rank ∷ []

pub ranked_behind : (granted : Bool) (old word : List ℕ) (rank : ℕ) → granted ≡ false → (old ++ 32 ∷ 32 ∷ word) ++ rank_words rank (codes "\n") ≡ old ++ further_line (line_with word rank granted)
ranked_behind granted old word rank is = append_assoc old (32 ∷ 32 ∷ word) (rank_words rank (codes "\n")) ∙ ap (λ b. old ++ further_line (line_with word rank b)) (sym is)

pub granted_behind : (granted : Bool) (old word : List ℕ) (rank : ℕ) → granted ≡ true
    → (old ++ 32 ∷ 32 ∷ word) ++ rank_words rank (codes " granted\n") ≡ old ++ further_line (line_with word rank granted)
granted_behind granted old word rank is = append_assoc old (32 ∷ 32 ∷ word) (rank_words rank (codes " granted\n")) ∙ ap (λ b. old ++ further_line (line_with word rank b)) (sym is)

-- what stands at a place of a list of one for each number
one_at : (f : ℕ → List ℕ) (count k : ℕ) (start : List ℕ) → slice_get (map f (range_with_len 0 count)) k ≡ Some start → start ≡ f k
one_at f count k start found =
    let within : k < count = omega (arith, slice_get_within (map f (range_with_len 0 count)) k start found, length-map-range_with_len f 0 count) in
    sym (get_or_from_slice_get (map f (range_with_len 0 count)) k start [] found) ∙ get_or-map-range_with_len f 0 count k k [] within (omega arith)

pub start_at : (g : Game) (starts : List (List ℕ)) (k : ℕ) (start : List ℕ) → starts ≡ line_starts g → slice_get starts k ≡ Some start → start ≡ line_start g k
unfolding line_starts
start_at g starts k start are found = one_at (line_start g) (node_count (shape_of g)) k start (ap (λ ss. slice_get ss k) (sym are) ∙ found)
