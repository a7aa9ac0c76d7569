-- The lines of plans and of trails, written one behind another.
use Rattle.std.proofs.Common.{◌≡◌, ◌∙◌, ◌++◌, List, [], ◌∷◌, ℕ, map, refl, ap, ap₂, append-nil}
use Rattle.std.specs.List.{flat_map}
use Rattle.std.proofs.lemmas.Grind.{flat_map-append}
use Rattle.plan_report.specs.Layout.{Line, further_line, further_text}

-- lines of lines
pub further_append : (lines more : List Line) → further_text (lines ++ more) ≡ further_text lines ++ further_text more
further_append lines more = flat_map-append further_line lines more

pub further_flat : {A : Type 0} (f : A → List Line) (xs : List A) → further_text (flat_map f xs) ≡ flat_map further_text (map f xs)
further_flat f [] = refl
further_flat f (x ∷ xs) = further_append (f x) (flat_map f xs) ∙ ap (λ t. further_text (f x) ++ t) (further_flat f xs)

-- the lines of a plan
pub plan_further : {A : Type 0} (rows prices : List Line) (f : A → List Line) (xs : List A) (total : Line)
    → further_text (rows ++ (flat_map f xs ++ (prices ++ total ∷ []))) ≡ further_text rows ++ (flat_map further_text (map f xs) ++ (further_text prices ++ further_line total))
plan_further rows prices f xs total =
    further_append rows (flat_map f xs ++ (prices ++ total ∷ []))
    ∙ ap (λ t. further_text rows ++ t)
    (further_append (flat_map f xs) (prices ++ total ∷ [])
    ∙ ap₂ (λ (s t : List ℕ). s ++ t) (further_flat f xs)
    (further_append prices (total ∷ []) ∙ ap (λ t. further_text prices ++ t) (append-nil (further_line total))))

-- the lines of a trail, and two more
pub trail_further : (trail : List Line) (next place : Line) → further_text (trail ++ (next ∷ place ∷ [])) ≡ further_text trail ++ (further_line next ++ further_line place)
trail_further trail next place = further_append trail (next ∷ place ∷ []) ∙ ap (λ t. further_text trail ++ (further_line next ++ t)) (append-nil (further_line place))
