-- Loops that go through a list: what was found so far, and what the rest gives behind it.
use Rattle.std.proofs.Common.{◌≡◌, ◌∙◌, ◌<◌, ◌≤◌, ◌+◌, ℕ, List, [], ◌++◌, Option, length, drop, get_or, refl, ap, append-nil, arith}
use Rattle.std.specs.List.{cons_option}
use Rattle.plan_base.proofs.Walks.{before_rest, drop_all, next}
use Rattle.rocket_launches.specs.Launches.{found_from}

pub found_next : {A B : Type 0} (find : ℕ → A → Option B) (number k : ℕ) (found : List B) (xs : List A) (x : A) → k < length xs → x ≡ get_or xs k x
    → found ++ found_from find number (drop k xs) ≡ (found ++ cons_option (find number x) []) ++ found_from find (number + 1) (drop (k + 1) xs)
unfolding found_from
found_next find number k found xs x within is =
    ap (λ ys. found ++ found_from find number ys) (next xs k x within is) ∙ before_rest found (find number x) (found_from find (number + 1) (drop (k + 1) xs))

pub found_end : {A B : Type 0} (find : ℕ → A → Option B) (number k : ℕ) (found : List B) (xs : List A) → length xs ≤ k → found ++ found_from find number (drop k xs) ≡ found
unfolding found_from
found_end find number k found xs end = ap (λ ys. found ++ found_from find number ys) (drop_all xs k end) ∙ append-nil found

-- ---- what each gives
