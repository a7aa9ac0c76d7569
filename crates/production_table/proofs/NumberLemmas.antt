-- Numbers of goods in order.
use Rattle.std.proofs.Common.{◌≡◌, ◌∙◌, ◌<◌, ◌≤◌, ◌+◌, ℕ, zero, suc, List, [], ◌∷◌, length, drop, take, refl, sym, ap, arith}
use Rattle.std.specs.Prelude.{Bool, true, false, cond, nat_lt, ◌==◌, Some, None, not, position, slice_get, slice_set, if◌then◌else◌}
use Rattle.std.specs.List.{insert, position_or_len, remove}
use Rattle.std.proofs.lemmas.Bool.Decides.{nat_tests}
use Rattle.std.proofs.lemmas.Bool.{cond-true, cond-false}
use Rattle.fractions.specs.Fraction.{Fraction}
use Rattle.plan_base.specs.declared.ids.GoodId.{GoodId}
use Rattle.game_types.proofs.Walks.{drop_all}
use Rattle.production_table.specs.Numbers.{is_pair_of, number_of, with_number, without_number}
use Rattle.table_rows.specs.Places.{has_at, AllBelow, IsPlace, StartsFrom}
use Rattle.table_rows.proofs.Parts.{second_branch, third_branch, has_place}
use Rattle.production_table.proofs.Found.{chosen, none_chosen}

-- ---- the number of a good, looked for from the front
pub find_pass : (pairs rest : List (GoodId × Fraction)) (p : GoodId × Fraction) (good : GoodId) → pairs ≡ p ∷ rest → (p.0.0 == good.0) ≡ false → number_of pairs good ≡ number_of rest good
unfolding number_of
find_pass pairs rest p good is h = ap (λ (ps : List (GoodId × Fraction)). number_of ps good) is ∙ cond-false (p.0.0 == good.0) (Some p.1) (number_of rest good) h

pub find_stop : (pairs rest : List (GoodId × Fraction)) (p : GoodId × Fraction) (good : GoodId) → pairs ≡ p ∷ rest → (p.0.0 == good.0) ≡ true → number_of pairs good ≡ Some p.1
unfolding number_of
find_stop pairs rest p good is h = ap (λ (ps : List (GoodId × Fraction)). number_of ps good) is ∙ cond-true (p.0.0 == good.0) (Some p.1) (number_of rest good) h

pub find_end : (pairs : List (GoodId × Fraction)) (k : ℕ) (good : GoodId) → length pairs ≤ k → number_of (drop k pairs) good ≡ None
unfolding number_of
find_end pairs k good end = ap (λ (ps : List (GoodId × Fraction)). number_of ps good) (drop_all pairs k end)

-- ---- a number put
pub put_behind : (good : GoodId) (number : Fraction) (p : GoodId × Fraction) (ps : List (GoodId × Fraction)) → p.0.0 < good.0 → with_number good number (p ∷ ps) ≡ p ∷ with_number good number ps
unfolding with_number
put_behind good number p ps h =
    let above : nat_lt good.0 p.0.0 ≡ false = grind (arith, nat_tests) in
    let apart : (p.0.0 == good.0) ≡ false = grind (arith, nat_tests) in
    third_branch (nat_lt good.0 p.0.0) (p.0.0 == good.0) _ _ _ above apart

pub put_here : (good : GoodId) (number : Fraction) (pairs : List (GoodId × Fraction)) (place : ℕ) (p : GoodId × Fraction) → AllBelow good (take place pairs) → slice_get pairs place ≡ Some p → p.0.0 ≡ good.0
    → with_number good number pairs ≡ slice_set pairs place (good, number)
unfolding with_number
put_here good number [] place p below is at = absurd (cc)
put_here good number (q ∷ ps) zero p below is at =
    let same : q ≡ p = cc in
    let same_good : q.0.0 ≡ good.0 = ap (λ (r : GoodId × Fraction). r.0.0) same ∙ at in
    let above : nat_lt good.0 q.0.0 ≡ false = grind (arith, nat_tests) in
    let equal : (q.0.0 == good.0) ≡ true = grind (arith, nat_tests) in
    second_branch (nat_lt good.0 q.0.0) (q.0.0 == good.0) _ _ _ above equal
put_here good number (q ∷ ps) (suc place) p below is at = put_behind good number q ps below.0 ∙ ap (λ (rest : List (GoodId × Fraction)). q ∷ rest) (put_here good number ps place p below.1 is at)

pub put_new : (good : GoodId) (number : Fraction) (pairs : List (GoodId × Fraction)) (place : ℕ) → AllBelow good (take place pairs) → StartsFrom good (drop place pairs) → has_at pairs place good ≡ false → place ≤ length pairs
    → with_number good number pairs ≡ insert pairs place (good, number)
unfolding with_number
put_new good number [] zero below behind none within = refl
put_new good number [] (suc place) below behind none within = absurd (omega arith)
put_new good number (q ∷ ps) zero below behind none within =
    let less : nat_lt good.0 q.0.0 ≡ true = grind (arith, nat_tests) in
    cond-true (nat_lt good.0 q.0.0) _ _ less
put_new good number (q ∷ ps) (suc place) below behind none within = put_behind good number q ps below.0 ∙ ap (λ (rest : List (GoodId × Fraction)). q ∷ rest) (put_new good number ps place below.1 behind none (omega arith))

pub put_at : (good : GoodId) (number : Fraction) (pairs : List (GoodId × Fraction)) (place : ℕ) → IsPlace pairs good place → has_at pairs place good ≡ true → with_number good number pairs ≡ slice_set pairs place (good, number)
put_at good number pairs place is has = let at = has_place pairs place good has in put_here good number pairs place at.0 is.before at.1 at.2

-- ---- a number taken away: at the first place of its good
first_place : (good : GoodId) (p : GoodId × Fraction) (ps : List (GoodId × Fraction)) (b : Bool) → is_pair_of good p ≡ b → without_number good ps ≡ remove ps (position_or_len (is_pair_of good) ps)
    → (if b then ps else p ∷ without_number good ps) ≡ remove (p ∷ ps) (cond (not b) (1 + position_or_len (is_pair_of good) ps) 0)
first_place good p ps true h rest = refl
first_place good p ps false h rest =
    let next : 1 + position_or_len (is_pair_of good) ps ≡ suc (position_or_len (is_pair_of good) ps) = omega arith in
    ap (λ (qs : List (GoodId × Fraction)). p ∷ qs) rest ∙ ap (λ n. remove (p ∷ ps) n) (sym next)

pub taken_at : (good : GoodId) (pairs : List (GoodId × Fraction)) → without_number good pairs ≡ remove pairs (position_or_len (is_pair_of good) pairs)
unfolding without_number
taken_at good [] = refl
taken_at good (p ∷ ps) = first_place good p ps (is_pair_of good p) refl (taken_at good ps)

pub taken_is : (good : GoodId) (pairs : List (GoodId × Fraction)) (k : ℕ) → position (is_pair_of good) pairs ≡ Some k → without_number good pairs ≡ remove pairs k
taken_is good pairs k h =
    taken_at good pairs ∙ ap (remove pairs) (chosen (position_or_len (is_pair_of good) pairs) k (length pairs) (nat_lt (position_or_len (is_pair_of good) pairs) (length pairs)) refl h).0

-- nothing to take away
past : (pairs : List (GoodId × Fraction)) (k : ℕ) → length pairs ≤ k → remove pairs k ≡ pairs
past [] zero h = refl
past [] (suc k) h = refl
past (p ∷ ps) zero h = absurd (omega arith)
past (p ∷ ps) (suc k) h = ap (λ (qs : List (GoodId × Fraction)). p ∷ qs) (past ps k (omega arith))

pub taken_none : (good : GoodId) (pairs : List (GoodId × Fraction)) → position (is_pair_of good) pairs ≡ None → without_number good pairs ≡ pairs
taken_none good pairs h =
    taken_at good pairs ∙ past pairs (position_or_len (is_pair_of good) pairs) (none_chosen (position_or_len (is_pair_of good) pairs) (length pairs) (nat_lt (position_or_len (is_pair_of good) pairs) (length pairs)) refl h)
