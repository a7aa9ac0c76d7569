-- Loops that go through a list: what is left of it at each step.
use Rattle.std.proofs.Common.{◌≡◌, ◌∙◌, ◌<◌, ◌≤◌, ℕ, List, [], ◌∷◌, length, drop, get_or, ap, arith}
use Rattle.std.proofs.lemmas.List.{get_or_default}
use Rattle.std.specs.Prelude.{Result, Ok, Err, IsErr, IsErrAnd, zero, suc}
use Rattle.std.proofs.Common.{refl}
pub use Rattle.std.proofs.lemmas.List.{drop_more as next_at}
pub use Rattle.plan_base.proofs.Walks.{next, drop_all}
use Rattle.game_types.specs.Steps.{◌▸◌, first_fault, sum_of, added}
use Rattle.game_types.specs.declared.effects.Wide.{Wide}
use Rattle.fractions.specs.Fraction.{Fraction}

-- an element that was read, at any default
pub read_at : {X : Type 0} (xs ys : List X) (i : ℕ) (x d : X) → x ≡ get_or xs i x → xs ≡ ys → i < length ys → x ≡ get_or ys i d
read_at xs ys i x d is e within = is ∙ ap (λ zs. get_or zs i x) e ∙ get_or_default ys i x d within

-- ---- the first fault
pub fault_pass : {A E : Type 0} (test : A → Result (Unit {0}) E) (zs : List A) (x : A) (xs : List A) → zs ≡ x ∷ xs → Ok tt ≡ test x
    → first_fault test zs ≡ first_fault test xs
unfolding first_fault
fault_pass test zs x xs e h = rw (e, ← h) refl

pub fault_stop : {A E : Type 0} (test : A → Result (Unit {0}) E) (zs : List A) (x : A) (xs : List A) (fault : E) → zs ≡ x ∷ xs → Err fault ≡ test x
    → first_fault test zs ≡ Err fault
unfolding first_fault
fault_stop test zs x xs fault e h = rw (e, ← h) refl

pub fault_end : {A E : Type 0} (test : A → Result (Unit {0}) E) (xs : List A) (k : ℕ) → length xs ≤ k → first_fault test (drop k xs) ≡ Ok tt
unfolding first_fault
fault_end test xs k end = rw (drop_all xs k end) refl

-- ---- sums
pub sum_pass : {A : Type 0} (step : ℕ) (term : A → Result Fraction Wide) (sum value more : Fraction) (zs : List A) (x : A) (xs : List A) → zs ≡ x ∷ xs
    → Ok value ≡ term x → Ok more ≡ added step sum value → sum_of step term sum zs ≡ sum_of step term more xs
unfolding sum_of
sum_pass step term sum value more zs x xs e h k = rw (e, ← h) (rw (← k) refl)

pub sum_stop_term : {A : Type 0} (step : ℕ) (term : A → Result Fraction Wide) (sum : Fraction) (wide : Wide) (zs : List A) (x : A) (xs : List A) → zs ≡ x ∷ xs
    → Err wide ≡ term x → sum_of step term sum zs ≡ Err wide
unfolding sum_of
sum_stop_term step term sum wide zs x xs e h = rw (e, ← h) refl

pub sum_stop : {A : Type 0} (step : ℕ) (term : A → Result Fraction Wide) (sum value : Fraction) (wide : Wide) (zs : List A) (x : A) (xs : List A) → zs ≡ x ∷ xs
    → Ok value ≡ term x → Err wide ≡ added step sum value → sum_of step term sum zs ≡ Err wide
unfolding sum_of
sum_stop step term sum value wide zs x xs e h k = rw (e, ← h) (rw (← k) refl)

pub sum_end : {A : Type 0} (step : ℕ) (term : A → Result Fraction Wide) (sum : Fraction) (xs : List A) (k : ℕ) → length xs ≤ k → sum_of step term sum (drop k xs) ≡ Ok sum
unfolding sum_of
sum_end step term sum xs k end = rw (drop_all xs k end) refl

-- ---- where there is no fault
pub both_ok : {E : Type 0} (r s : Result (Unit {0}) E) → (r ▸ λ _. s) ≡ Ok tt → (r ≡ Ok tt) × (s ≡ Ok tt)
both_ok (Ok u) s h = (refl, h)
both_ok (Err e) s h = absurd (cc)

pub fault_none : {A E : Type 0} (test : A → Result (Unit {0}) E) (xs : List A) (i : ℕ) (d : A) → i < length xs → first_fault test xs ≡ Ok tt → test (get_or xs i d) ≡ Ok tt
unfolding first_fault
fault_none test [] i d within h = absurd (omega arith)
fault_none test (x ∷ xs) zero d within h = (both_ok (test x) (first_fault test xs) h).0
fault_none test (x ∷ xs) (suc i) d within h = fault_none test xs i d (omega arith) (both_ok (test x) (first_fault test xs) h).1

-- ---- what a `?` returns
pub returned : {A E : Type 0} (r : Result A E) (fault : E) → IsErr r × IsErrAnd r (λ e. e ≡ fault) → r ≡ Err fault
returned (Ok x) fault h = absurd h.1
returned (Err e) fault h = ap Err h.1
