-- An element that comes into a list and goes again leaves it as it was.
use Rattle.std.proofs.Common.{◌≡◌, ◌∙◌, ℕ, zero, suc, ◌+◌, ◌-◌, ◌<◌, ◌≤◌, List, [], ◌∷◌, ◌++◌, length, refl, sym, ap, subst, arith}
use Rattle.std.specs.Prelude.{true, ◌&&◌, ◌==◌, nat_lt, nat_le, insert, remove, slice_get, Some, vec_capacity, vec_len, Vec}
use Rattle.std.specs.Global.{Global}
use Rattle.std.proofs.lemmas.Bool.Decides.{nat_tests}
use Rattle.std.proofs.lemmas.List.Edits.{length-insert, length-remove}
use Rattle.std.proofs.lemmas.Option.{slice_get_within}
use Rattle.std.proofs.lemmas.Bool.{cond-true}
use Rattle.planner_tables.specs.declared.splices.Splice.TheVariants.{Remove, Insert}
use Rattle.planner_tables.specs.Undoing.{spliced}

pub remove-insert : {A : Type 0} (xs : List A) (i : ℕ) (y : A) → i ≤ length xs → remove (insert xs i y) i ≡ xs
remove-insert [] zero y h = refl
remove-insert (x ∷ xs) zero y h = refl
remove-insert [] (suc i) y h = absurd (omega arith)
remove-insert (x ∷ xs) (suc i) y h = ap (λ zs. x ∷ zs) (remove-insert xs i y (omega arith))

test_holds : (i n size room : ℕ) → i ≤ n → size ≡ 0 → n ≤ room → (nat_lt i (n + 1) && ((size == 0) && nat_le (n + 1 - 1) room)) ≡ true
test_holds i n size room h e k = grind (arith, nat_tests)

pub goes_again : {A : Type 0} (xs ys : List A) (i : ℕ) (y : A) (room : Vec A Global) → i ≤ length xs → ys ≡ insert xs i y → vec_len room ≡ 0 → length xs ≤ vec_capacity room
    → spliced (Remove i room) ys ≡ xs
goes_again xs ys i y room h e z k =
    let n : length ys ≡ length xs + 1 = ap length e ∙ length-insert xs i y h in
    let t : (nat_lt i (length ys) && ((vec_len room == 0) && nat_le (length ys - 1) (vec_capacity room))) ≡ true =
    subst (λ m. (nat_lt i m && ((vec_len room == 0) && nat_le (m - 1) (vec_capacity room))) ≡ true) (sym n) (test_holds i (length xs) (vec_len room) (vec_capacity room) h z k) in
    cond-true _ (remove ys i) ys t ∙ (ap (λ zs. remove zs i) e ∙ remove-insert xs i y h)

pub insert-end : {A : Type 0} (xs : List A) (y : A) → insert xs (length xs) y ≡ xs ++ y ∷ []
insert-end [] y = refl
insert-end (x ∷ xs) y = ap (λ zs. x ∷ zs) (insert-end xs y)

-- an element that goes from a list and comes in again leaves it as it was
pub insert-remove : {A : Type 0} (xs : List A) (i : ℕ) (x : A) → slice_get xs i ≡ Some x → insert (remove xs i) i x ≡ xs
insert-remove [] zero x h = absurd (cc)
insert-remove [] (suc i) x h = absurd (cc)
insert-remove (y ∷ ys) zero x h = let same : y ≡ x = cc in ap (λ z. z ∷ ys) (sym same)
insert-remove (y ∷ ys) (suc i) x h = ap (λ zs. y ∷ zs) (insert-remove ys i x h)

holds_again : (i n size room : ℕ) → i ≤ n → size ≡ 0 → n + 1 ≤ room → (nat_le i n && ((size == 0) && nat_le (n + 1) room)) ≡ true
holds_again i n size room h e k = grind (arith, nat_tests)

pub comes_again : {A : Type 0} (xs : List A) (i : ℕ) (x : A) (room : Vec A Global) → slice_get xs i ≡ Some x → vec_len room ≡ 0 → length xs ≤ vec_capacity room
    → spliced (Insert i x room) (remove xs i) ≡ xs
comes_again xs i x room h z k =
    let within : i < length xs = slice_get_within xs i x h in
    let n : length (remove xs i) + 1 ≡ length xs = length-remove xs i within in
    cond-true _ (insert (remove xs i) i x) (remove xs i) (holds_again i (length (remove xs i)) (vec_len room) (vec_capacity room) (omega arith) z (omega arith)) ∙ insert-remove xs i x h
