-- What is found of the things of a list.
use Rattle.std.proofs.Common.{List, [], ◌∷◌, Option, Some, None}
use Rattle.std.specs.Prelude.{All, IfSome}
use Rattle.std.specs.List.{cons_option, filter_map}
use Rattle.std.proofs.lemmas.List.Elements.{All-nil, All-cons, All-head, All-tail}

-- what holds of all that may be found
pub all_found : {A B : Type 0} (P : A → Type 0) (Q : B → Type 0) (find : A → Option B) → ((x : A) → P x → IfSome (find x) Q) → (xs : List A) → All P xs → All Q (filter_map find xs)
all_found P Q find one [] all = All-nil Q
all_found {A = A} {B = B} P Q find one (x ∷ xs) all = by_found (find x) (one x (All-head P x xs all)) (all_found P Q find one xs (All-tail P x xs all))
  where
    by_found : (found : Option B) → IfSome found Q → All Q (filter_map find xs) → All Q (cons_option found (filter_map find xs))
    by_found None holds rest = rest
    by_found (Some y) holds rest = All-cons Q y (filter_map find xs) holds rest
