-- Lists of nodes, in node order.
use Rattle.std.specs.Prelude.{ℕ, ◌+◌, ◌==◌, Bool, false, List, [], ◌∷◌, Option, Some, None, filter, map, if◌then◌else◌}
use Rattle.std.specs.List.{list_any, range_with_len}
use Rattle.plan_base.specs.declared.ids.NodeId.{NodeId}

abbrev pub node : ℕ → NodeId
node n = record { 0 = n }

-- the nodes, numbered from the first on, of the things in a list that pass a test
abbrev pub those : {A : Type 0} → (A → Bool) → ℕ → List A → List NodeId
those test first [] = []
those test first (x ∷ xs) = if test x then node first ∷ those test (first + 1) xs else those test (first + 1) xs

-- whether there is a thing, and it passes a test
abbrev pub passes : {A : Type 0} → (A → Bool) → Option A → Bool
passes test None = false
passes test (Some x) = test x

-- the nodes, numbered from the first on, of so many things, of those whose number is among these
abbrev pub named : ℕ → ℕ → List ℕ → List NodeId
named first count numbers = map (λ k. node (first + k)) (filter (λ k. list_any (λ j. j == k) numbers) (range_with_len 0 count))
