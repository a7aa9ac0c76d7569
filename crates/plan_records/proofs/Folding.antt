-- A fold over a list, element by element.
use Rattle.std.proofs.Common.{◌≡◌, ◌∙◌, ◌<◌, ◌+◌, ℕ, List, length, take, get_or, sym, ap}
use Rattle.std.specs.Prelude.{fold}
use Rattle.std.proofs.lemmas.List.Sums.{fold_more}

-- one more element of a list behind those that were folded
pub fold_next : {X Y : Type 0} (f : Y → X → Y) (a : Y) (xs : List X) (k : ℕ) (x : X) (old new : Y) → k < length xs → x ≡ get_or xs k x → old ≡ fold f a (take k xs) → new ≡ f old x → new ≡ fold f a (take (k + 1) xs)
fold_next f a xs k x old new within at so put = put ∙ (ap (λ o. f o x) so ∙ (ap (λ y. f (fold f a (take k xs)) y) at ∙ sym (fold_more f a xs k x within)))
