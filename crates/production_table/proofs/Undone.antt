-- What a change of numbers answers undoes it.
use Rattle.std.proofs.Common.{◌≡◌, ◌∙◌, ◌<◌, ◌+◌, ℕ, List, [], ◌∷◌, length, refl, sym, ap, subst, arith, inl, inr, Result}
use Rattle.std.specs.Prelude.{◌⊎◌, ◌≢◌, All, Bool, true, false, ◌&&◌, not, is_none, nat_lt, ◌==◌, Option, Some, None, Ok, Err}
use Rattle.std.proofs.lemmas.Bool.Decides.{nat_tests}
use Rattle.std.proofs.lemmas.List.Elements.{All-head, All-tail}
use Rattle.std.proofs.lemmas.Bool.{cond-true, cond-false}
use Rattle.fractions.specs.Fraction.{Fraction, zero_fraction, ◌≤ʳ◌, ◌<ʳ◌}
use Rattle.fractions.proofs.Order.{<ʳ-≤ʳ}
use Rattle.plan_base.specs.declared.ids.GoodId.{GoodId}
use Rattle.game_types.specs.Steps.{◌▸◌}
use Rattle.production_table.specs.declared.faults.TableFault.{TableFault}
use Rattle.production_table.specs.declared.faults.TableFault.TheVariants.{Full, Negative, Unknown}
use Rattle.production_table.specs.Numbers.{guard, is_full, lacks, no_room, number_of, or_nothing, or_zero, price_fits, put_or_take, repriced, rewanted, want_fits, with_number, without_number}
use Rattle.fractions.specs.Signs.{is_negative, is_zero}
use Rattle.production_table.specs.Tables.{IsSoundList, Rises}
use Rattle.production_table.proofs.Pairs.{same_parts}
use Rattle.production_table.proofs.NumberLemmas.{put_behind}
use Rattle.production_table.proofs.NumberSound.{number_below}
use Rattle.fractions.proofs.SignLemmas.{not_negative, positive_not_zero, zero_not_negative, zero_of}
use Rattle.table_rows.proofs.Parts.{second_branch}

-- ---- one good against another
Side : ℕ → ℕ → Type 0
Side a b = (a < b) ⊎ ((a ≡ b) ⊎ (b < a))

side_by : (a b : ℕ) (c d : Bool) → nat_lt a b ≡ c → (a == b) ≡ d → (a < b) ⊎ ((a ≡ b) ⊎ (b < a))
side_by a b true d h k = inl (grind (arith, nat_tests))
side_by a b false true h k = inr (inl (grind (arith, nat_tests)))
side_by a b false false h k = inr (inr (grind (arith, nat_tests)))

side : (a b : ℕ) → (a < b) ⊎ ((a ≡ b) ⊎ (b < a))
side a b = side_by a b (nat_lt a b) (a == b) refl refl

-- ---- each function at the first of several
put_less : (good : GoodId) (number : Fraction) (p : GoodId × Fraction) (ps : List (GoodId × Fraction)) → good.0 < p.0.0 → with_number good number (p ∷ ps) ≡ (good, number) ∷ p ∷ ps
unfolding with_number
put_less good number p ps h = let less : nat_lt good.0 p.0.0 ≡ true = grind (arith, nat_tests) in cond-true (nat_lt good.0 p.0.0) _ _ less

put_same : (good : GoodId) (number : Fraction) (p : GoodId × Fraction) (ps : List (GoodId × Fraction)) → good.0 ≡ p.0.0 → with_number good number (p ∷ ps) ≡ (good, number) ∷ ps
unfolding with_number
put_same good number p ps h =
    let above : nat_lt good.0 p.0.0 ≡ false = grind (arith, nat_tests) in
    let equal : (p.0.0 == good.0) ≡ true = grind (arith, nat_tests) in
    second_branch (nat_lt good.0 p.0.0) (p.0.0 == good.0) _ _ _ above equal

find_same : (good : GoodId) (p : GoodId × Fraction) (ps : List (GoodId × Fraction)) → good.0 ≡ p.0.0 → number_of (p ∷ ps) good ≡ Some p.1
unfolding number_of
find_same good p ps h = let equal : (p.0.0 == good.0) ≡ true = grind (arith, nat_tests) in cond-true (p.0.0 == good.0) _ _ equal

find_other : (good : GoodId) (p : GoodId × Fraction) (ps : List (GoodId × Fraction)) → good.0 ≢ p.0.0 → number_of (p ∷ ps) good ≡ number_of ps good
unfolding number_of
find_other good p ps h = let apart : (p.0.0 == good.0) ≡ false = grind (arith, nat_tests, h) in cond-false (p.0.0 == good.0) _ _ apart

take_same : (good : GoodId) (p : GoodId × Fraction) (ps : List (GoodId × Fraction)) → good.0 ≡ p.0.0 → without_number good (p ∷ ps) ≡ ps
unfolding without_number
take_same good p ps h = let equal : (p.0.0 == good.0) ≡ true = grind (arith, nat_tests) in cond-true (p.0.0 == good.0) _ _ equal

take_other : (good : GoodId) (p : GoodId × Fraction) (ps : List (GoodId × Fraction)) → good.0 ≢ p.0.0 → without_number good (p ∷ ps) ≡ p ∷ without_number good ps
unfolding without_number
take_other good p ps h = let apart : (p.0.0 == good.0) ≡ false = grind (arith, nat_tests, h) in cond-false (p.0.0 == good.0) _ _ apart

less_differs : (a b : ℕ) → a < b → a ≢ b
less_differs a b h e = omega arith

more_differs : (a b : ℕ) → b < a → a ≢ b
more_differs a b h e = omega arith

none_before : (low : ℕ) (good : GoodId) (p : GoodId × Fraction) (ps : List (GoodId × Fraction)) → Rises low (p ∷ ps) → good.0 < p.0.0 → number_of (p ∷ ps) good ≡ None
none_before low good p ps rise h = number_below p.0.0 good (p ∷ ps) (omega arith, rise.1) h

same_pair : (good : GoodId) (x : Fraction) (p : GoodId × Fraction) → good.0 ≡ p.0.0 → x ≡ p.1 → (good, x) ≡ p
same_pair good x p h e =
    let made : ℕ → GoodId = λ n. record { 0 = n } in
    let one : good ≡ p.0 = ap made h in
    ap (λ (g : GoodId). let pair : GoodId × Fraction = (g, x) in pair) one ∙ ap (λ (y : Fraction). let pair : GoodId × Fraction = (p.0, y) in pair) e

-- ---- what stands after a change
pub found_put : (good : GoodId) (number : Fraction) (ps : List (GoodId × Fraction)) → number_of (with_number good number ps) good ≡ Some number
unfolding with_number
found_put good number [] = find_same good (good, number) [] refl
found_put good number (p ∷ ps) = by_side (side good.0 p.0.0) (found_put good number ps)
  where
    by_side : (good.0 < p.0.0) ⊎ ((good.0 ≡ p.0.0) ⊎ (p.0.0 < good.0)) → number_of (with_number good number ps) good ≡ Some number → number_of (with_number good number (p ∷ ps)) good ≡ Some number
    by_side (inl h) rest = ap (λ (qs : List (GoodId × Fraction)). number_of qs good) (put_less good number p ps h) ∙ find_same good (good, number) (p ∷ ps) refl
    by_side (inr (inl h)) rest = ap (λ (qs : List (GoodId × Fraction)). number_of qs good) (put_same good number p ps h) ∙ find_same good (good, number) ps refl
    by_side (inr (inr h)) rest =
        ap (λ (qs : List (GoodId × Fraction)). number_of qs good) (put_behind good number p ps h) ∙ find_other good p (with_number good number ps) (more_differs good.0 p.0.0 h) ∙ rest

pub found_taken : (low : ℕ) (good : GoodId) (ps : List (GoodId × Fraction)) → Rises low ps → number_of (without_number good ps) good ≡ None
unfolding without_number number_of
found_taken low good [] rise = refl
found_taken low good (p ∷ ps) rise = by_side (side good.0 p.0.0) (found_taken (p.0.0 + 1) good ps rise.1)
  where
    by_side : (good.0 < p.0.0) ⊎ ((good.0 ≡ p.0.0) ⊎ (p.0.0 < good.0)) → number_of (without_number good ps) good ≡ None → number_of (without_number good (p ∷ ps)) good ≡ None
    by_side (inl h) rest = ap (λ (qs : List (GoodId × Fraction)). number_of qs good) (take_other good p ps (less_differs good.0 p.0.0 h)) ∙ find_other good p (without_number good ps) (less_differs good.0 p.0.0 h) ∙ rest
    by_side (inr (inl h)) rest =
        ap (λ (qs : List (GoodId × Fraction)). number_of qs good) (take_same good p ps h) ∙ number_below (p.0.0 + 1) good ps rise.1 (omega arith)
    by_side (inr (inr h)) rest = ap (λ (qs : List (GoodId × Fraction)). number_of qs good) (take_other good p ps (more_differs good.0 p.0.0 h)) ∙ find_other good p (without_number good ps) (more_differs good.0 p.0.0 h) ∙ rest

-- ---- a change undone
pub taken_after_put : (good : GoodId) (number : Fraction) (ps : List (GoodId × Fraction)) → number_of ps good ≡ None → without_number good (with_number good number ps) ≡ ps
unfolding with_number
taken_after_put good number [] none = take_same good (good, number) [] refl
taken_after_put good number (p ∷ ps) none = by_side (side good.0 p.0.0) (λ h. taken_after_put good number ps h)
  where
    by_side : (good.0 < p.0.0) ⊎ ((good.0 ≡ p.0.0) ⊎ (p.0.0 < good.0)) → (number_of ps good ≡ None → without_number good (with_number good number ps) ≡ ps) → without_number good (with_number good number (p ∷ ps)) ≡ p ∷ ps
    by_side (inl h) rest = ap (without_number good) (put_less good number p ps h) ∙ take_same good (good, number) (p ∷ ps) refl
    by_side (inr (inl h)) rest = let some = find_same good p ps h in absurd (cc)
    by_side (inr (inr h)) rest =
        ap (without_number good) (put_behind good number p ps h) ∙ take_other good p (with_number good number ps) (more_differs good.0 p.0.0 h)
        ∙ ap (λ (qs : List (GoodId × Fraction)). p ∷ qs) (rest (sym (find_other good p ps (more_differs good.0 p.0.0 h)) ∙ none))

pub put_after_put : (low : ℕ) (good : GoodId) (number x : Fraction) (ps : List (GoodId × Fraction)) → Rises low ps → number_of ps good ≡ Some x → with_number good x (with_number good number ps) ≡ ps
unfolding with_number number_of
put_after_put low good number x [] rise some = absurd (cc)
put_after_put low good number x (p ∷ ps) rise some = by_side (side good.0 p.0.0) (λ h. put_after_put (p.0.0 + 1) good number x ps rise.1 h)
  where
    by_side : (good.0 < p.0.0) ⊎ ((good.0 ≡ p.0.0) ⊎ (p.0.0 < good.0)) → (number_of ps good ≡ Some x → with_number good x (with_number good number ps) ≡ ps) → with_number good x (with_number good number (p ∷ ps)) ≡ p ∷ ps
    by_side (inl h) rest = let none = none_before low good p ps rise h in absurd (cc)
    by_side (inr (inl h)) rest =
        let same : x ≡ p.1 = let one = find_same good p ps h in cc in
        ap (with_number good x) (put_same good number p ps h) ∙ put_same good x (good, number) ps refl ∙ ap (λ (q : GoodId × Fraction). q ∷ ps) (same_pair good x p h same)
    by_side (inr (inr h)) rest =
        ap (with_number good x) (put_behind good number p ps h) ∙ put_behind good x p (with_number good number ps) h
        ∙ ap (λ (qs : List (GoodId × Fraction)). p ∷ qs) (rest (sym (find_other good p ps (more_differs good.0 p.0.0 h)) ∙ some))

put_first : (good : GoodId) (x : Fraction) (ps : List (GoodId × Fraction)) → Rises (good.0 + 1) ps → with_number good x ps ≡ (good, x) ∷ ps
unfolding with_number
put_first good x [] rise = refl
put_first good x (p ∷ ps) rise = let first = rise.0 in put_less good x p ps (omega arith)

pub put_after_taken : (low : ℕ) (good : GoodId) (x : Fraction) (ps : List (GoodId × Fraction)) → Rises low ps → number_of ps good ≡ Some x → with_number good x (without_number good ps) ≡ ps
unfolding number_of
put_after_taken low good x [] rise some = absurd (cc)
put_after_taken low good x (p ∷ ps) rise some = by_side (side good.0 p.0.0) (λ h. put_after_taken (p.0.0 + 1) good x ps rise.1 h)
  where
    by_side : (good.0 < p.0.0) ⊎ ((good.0 ≡ p.0.0) ⊎ (p.0.0 < good.0)) → (number_of ps good ≡ Some x → with_number good x (without_number good ps) ≡ ps) → with_number good x (without_number good (p ∷ ps)) ≡ p ∷ ps
    by_side (inl h) rest = let none = none_before low good p ps rise h in absurd (cc)
    by_side (inr (inl h)) rest =
        let same : x ≡ p.1 = let one = find_same good p ps h in cc in
        let rises : Rises (good.0 + 1) ps = subst (λ n. Rises (n + 1) ps) (sym h) rise.1 in
        ap (with_number good x) (take_same good p ps h) ∙ put_first good x ps rises ∙ ap (λ (q : GoodId × Fraction). q ∷ ps) (same_pair good x p h same)
    by_side (inr (inr h)) rest =
        ap (with_number good x) (take_other good p ps (more_differs good.0 p.0.0 h)) ∙ put_behind good x p (without_number good ps) h
        ∙ ap (λ (qs : List (GoodId × Fraction)). p ∷ qs) (rest (sym (find_other good p ps (more_differs good.0 p.0.0 h)) ∙ some))

pub nothing_taken : (good : GoodId) (ps : List (GoodId × Fraction)) → number_of ps good ≡ None → without_number good ps ≡ ps
unfolding without_number
nothing_taken good [] none = refl
nothing_taken good (p ∷ ps) none = by_side (side good.0 p.0.0) (λ h. nothing_taken good ps h)
  where
    by_side : (good.0 < p.0.0) ⊎ ((good.0 ≡ p.0.0) ⊎ (p.0.0 < good.0)) → (number_of ps good ≡ None → without_number good ps ≡ ps) → without_number good (p ∷ ps) ≡ p ∷ ps
    by_side (inl h) rest = take_other good p ps (less_differs good.0 p.0.0 h) ∙ ap (λ (qs : List (GoodId × Fraction)). p ∷ qs) (rest (sym (find_other good p ps (less_differs good.0 p.0.0 h)) ∙ none))
    by_side (inr (inl h)) rest = let some = find_same good p ps h in absurd (cc)
    by_side (inr (inr h)) rest = take_other good p ps (more_differs good.0 p.0.0 h) ∙ ap (λ (qs : List (GoodId × Fraction)). p ∷ qs) (rest (sym (find_other good p ps (more_differs good.0 p.0.0 h)) ∙ none))

-- one less
pub one_less : (good : GoodId) (x : Fraction) (ps : List (GoodId × Fraction)) → number_of ps good ≡ Some x → length (without_number good ps) + 1 ≡ length ps
unfolding number_of
one_less good x [] some = absurd (cc)
one_less good x (p ∷ ps) some = by_side (side good.0 p.0.0) (λ h. one_less good x ps h)
  where
    by_side : (good.0 < p.0.0) ⊎ ((good.0 ≡ p.0.0) ⊎ (p.0.0 < good.0)) → (number_of ps good ≡ Some x → length (without_number good ps) + 1 ≡ length ps) → length (without_number good (p ∷ ps)) + 1 ≡ length (p ∷ ps)
    by_side (inl h) rest = let less = rest (sym (find_other good p ps (less_differs good.0 p.0.0 h)) ∙ some) in rw (take_other good p ps (less_differs good.0 p.0.0 h)) (omega arith)
    by_side (inr (inl h)) rest = rw (take_same good p ps h) (omega arith)
    by_side (inr (inr h)) rest = let less = rest (sym (find_other good p ps (more_differs good.0 p.0.0 h)) ∙ some) in rw (take_other good p ps (more_differs good.0 p.0.0 h)) (omega arith)

-- the sign of a number that is there
pub each_number : (P : Fraction → Type 0) (good : GoodId) (x : Fraction) (ps : List (GoodId × Fraction)) → All (λ pair. P pair.1) ps → number_of ps good ≡ Some x → P x
unfolding number_of
each_number P good x [] each some = absurd (cc)
each_number P good x (p ∷ ps) each some = by_side (side good.0 p.0.0) (λ h. each_number P good x ps (All-tail (λ (pair : GoodId × Fraction). P pair.1) p ps each) h)
  where
    by_side : (good.0 < p.0.0) ⊎ ((good.0 ≡ p.0.0) ⊎ (p.0.0 < good.0)) → (number_of ps good ≡ Some x → P x) → P x
    by_side (inl h) rest = rest (sym (find_other good p ps (less_differs good.0 p.0.0 h)) ∙ some)
    by_side (inr (inl h)) rest = let same : p.1 ≡ x = let one = find_same good p ps h in cc in subst P same (All-head (λ (pair : GoodId × Fraction). P pair.1) p ps each)
    by_side (inr (inr h)) rest = rest (sym (find_other good p ps (more_differs good.0 p.0.0 h)) ∙ some)

-- ---- prices undone
both_fit : (b c : Bool) → b ≡ false → c ≡ false → (guard b Negative ▸ λ _. guard c Full) ≡ Ok tt
both_fit false false h k = refl
both_fit true c h k = absurd (cc)
both_fit false true h k = absurd (cc)

fits : (b : Bool) (fault : TableFault) → b ≡ false → guard b fault ≡ Ok tt
fits false fault h = refl
fits true fault h = absurd (cc)

there : (ps : List (GoodId × Fraction)) (good : GoodId) (x : Fraction) → number_of ps good ≡ Some x → lacks ps good ≡ false
there ps good x h = ap (λ (o : Option Fraction). is_none o) h

roomy : (ps : List (GoodId × Fraction)) (good : GoodId) (x : Fraction) → number_of ps good ≡ Some x → no_room ps good ≡ false
roomy ps good x h = ap (λ (o : Option Fraction). is_none o && is_full ps) h

spare : (n : ℕ) (b : Bool) → nat_lt n 512 ≡ b → n < 512 → not b ≡ false
spare n true h k = refl
spare n false h k = absurd (grind (arith, nat_tests))

free : (ps : List (GoodId × Fraction)) (good : GoodId) → length ps < 512 → no_room ps good ≡ false
free ps good h = either (is_none (number_of ps good)) (is_full ps) (spare (length ps) (nat_lt (length ps) 512) refl h)
  where
    either : (b c : Bool) → c ≡ false → (b && c) ≡ false
    either true c h = h
    either false c h = refl

priced_back : (good : GoodId) (answer now : Option Fraction) (new ps : List (GoodId × Fraction)) → price_fits new good answer ≡ Ok tt → number_of new good ≡ now → put_or_take good answer new ≡ ps → repriced good answer new ≡ Ok (now, ps)
unfolding repriced
priced_back good answer now new ps fit found put =
    ap (λ (r : Result (Unit {0}) TableFault). r ▸ λ _. Ok (number_of new good, put_or_take good answer new)) fit
    ∙ ap (λ (o : Option Fraction). Ok (o, put_or_take good answer new)) found ∙ ap (λ (qs : List (GoodId × Fraction)). Ok (now, qs)) put

back_price : (good : GoodId) (price : Option Fraction) (ps : List (GoodId × Fraction)) (o : Option Fraction) → IsSoundList (λ x. zero_fraction ≤ʳ x) ps → number_of ps good ≡ o → price_fits ps good price ≡ Ok tt
    → repriced good o (put_or_take good price ps) ≡ Ok (price, ps)
back_price good None ps None s found fit = let lacking : lacks ps good ≡ true = ap (λ (o : Option Fraction). is_none o) found in absurd (let e : Err Unknown ≡ Ok tt = sym (ap (λ b. guard b Unknown) lacking) ∙ fit in cc)
back_price good None ps (Some x) s found fit =
    priced_back good (Some x) None (without_number good ps) ps
    (both_fit (is_negative x) (no_room (without_number good ps) good) (not_negative x (each_number (λ y. zero_fraction ≤ʳ y) good x ps s.each found))
    (free (without_number good ps) good (let less = one_less good x ps found in let few = s.few in omega arith)))
    (found_taken 0 good ps s.rise) (put_after_taken 0 good x ps s.rise found)
back_price good (Some price) ps None s found fit =
    priced_back good None (Some price) (with_number good price ps) ps
    (fits (lacks (with_number good price ps) good) Unknown (there (with_number good price ps) good price (found_put good price ps)))
    (found_put good price ps) (taken_after_put good price ps found)
back_price good (Some price) ps (Some x) s found fit =
    priced_back good (Some x) (Some price) (with_number good price ps) ps
    (both_fit (is_negative x) (no_room (with_number good price ps) good) (not_negative x (each_number (λ y. zero_fraction ≤ʳ y) good x ps s.each found)) (roomy (with_number good price ps) good price (found_put good price ps)))
    (found_put good price ps) (put_after_put 0 good price x ps s.rise found)

-- how a change ended
ended : (r : Result (Unit {0}) TableFault) (o answer : Option Fraction) (qs new : List (GoodId × Fraction)) → ◌▸◌ {B = Option Fraction × List (GoodId × Fraction)} r (λ _. Ok (o, qs)) ≡ Ok (answer, new)
    → (r ≡ Ok tt) × (o ≡ answer) × (qs ≡ new)
ended (Ok fine) o answer qs new h = let both = same_parts o answer qs new h in (refl, both.0, both.1)
ended (Err fault) o answer qs new h = absurd (cc)

pub reprice_back : (good : GoodId) (price answer : Option Fraction) (ps new : List (GoodId × Fraction)) → IsSoundList (λ x. zero_fraction ≤ʳ x) ps → repriced good price ps ≡ Ok (answer, new) → repriced good answer new ≡ Ok (price, ps)
unfolding repriced
reprice_back good price answer ps new s h =
    let end = ended (price_fits ps good price) (number_of ps good) answer (put_or_take good price ps) new h in
    subst (λ (o : Option Fraction). repriced good o new ≡ Ok (price, ps)) end.1
    (subst (λ (qs : List (GoodId × Fraction)). repriced good (number_of ps good) qs ≡ Ok (price, ps)) end.2 (back_price good price ps (number_of ps good) s refl end.0))

-- ---- wants undone
wanted_back : (good : GoodId) (rate : Fraction) (given now : Option Fraction) (new ps : List (GoodId × Fraction)) → or_nothing rate ≡ given → is_negative rate ≡ false → (not (is_zero rate) && no_room new good) ≡ false
    → number_of new good ≡ now → put_or_take good given new ≡ ps → rewanted good rate new ≡ Ok (now, ps)
unfolding rewanted
wanted_back good rate given now new ps is fair room found put =
    ap (λ (r : Result (Unit {0}) TableFault). r ▸ λ _. Ok (number_of new good, put_or_take good (or_nothing rate) new)) (both_fit (is_negative rate) (not (is_zero rate) && no_room new good) fair room)
    ∙ ap (λ (o : Option Fraction). Ok (o, put_or_take good (or_nothing rate) new)) found
    ∙ ap (λ (o : Option Fraction). Ok (now, put_or_take good o new)) is ∙ ap (λ (qs : List (GoodId × Fraction)). Ok (now, qs)) put

some_rate : (x : Fraction) → zero_fraction <ʳ x → or_nothing x ≡ Some x
some_rate x h = cond-false (is_zero x) None (Some x) (positive_not_zero x h)

room_of : (b c : Bool) → c ≡ false → (not b && c) ≡ false
room_of true c h = refl
room_of false c h = h

no_rate : or_nothing zero_fraction ≡ None
no_rate = cond-true (is_zero zero_fraction) None (Some zero_fraction) zero_of

zero_room : (ps : List (GoodId × Fraction)) (good : GoodId) → (not (is_zero zero_fraction) && no_room ps good) ≡ false
zero_room ps good = ap (λ b. not b && no_room ps good) zero_of

back_want : (good : GoodId) (given : Option Fraction) (ps : List (GoodId × Fraction)) (o : Option Fraction) → IsSoundList (λ x. zero_fraction <ʳ x) ps → number_of ps good ≡ o
    → rewanted good (or_zero o) (put_or_take good given ps) ≡ Ok (given, ps)
back_want good None ps None s found =
    let same = nothing_taken good ps found in
    wanted_back good zero_fraction None None (without_number good ps) ps no_rate zero_not_negative (zero_room (without_number good ps) good)
    (found_taken 0 good ps s.rise) (ap (without_number good) same ∙ same)
back_want good None ps (Some x) s found =
    let above = each_number (λ y. zero_fraction <ʳ y) good x ps s.each found in
    wanted_back good x (Some x) None (without_number good ps) ps (some_rate x above) (not_negative x (<ʳ-≤ʳ zero_fraction x above))
    (room_of (is_zero x) (no_room (without_number good ps) good) (free (without_number good ps) good (let less = one_less good x ps found in let few = s.few in omega arith)))
    (found_taken 0 good ps s.rise) (put_after_taken 0 good x ps s.rise found)
back_want good (Some rate) ps None s found =
    wanted_back good zero_fraction None (Some rate) (with_number good rate ps) ps no_rate zero_not_negative (zero_room (with_number good rate ps) good)
    (found_put good rate ps) (taken_after_put good rate ps found)
back_want good (Some rate) ps (Some x) s found =
    let above = each_number (λ y. zero_fraction <ʳ y) good x ps s.each found in
    wanted_back good x (Some x) (Some rate) (with_number good rate ps) ps (some_rate x above) (not_negative x (<ʳ-≤ʳ zero_fraction x above))
    (room_of (is_zero x) (no_room (with_number good rate ps) good) (roomy (with_number good rate ps) good rate (found_put good rate ps)))
    (found_put good rate ps) (put_after_put 0 good rate x ps s.rise found)

pub rewant_back : (good : GoodId) (rate : Fraction) (answer : Option Fraction) (ps new : List (GoodId × Fraction)) → IsSoundList (λ x. zero_fraction <ʳ x) ps → rewanted good rate ps ≡ Ok (answer, new)
    → rewanted good (or_zero answer) new ≡ Ok (or_nothing rate, ps)
unfolding rewanted
rewant_back good rate answer ps new s h =
    let end = ended (want_fits ps good rate) (number_of ps good) answer (put_or_take good (or_nothing rate) ps) new h in
    subst (λ (o : Option Fraction). rewanted good (or_zero o) new ≡ Ok (or_nothing rate, ps)) end.1
    (subst (λ (qs : List (GoodId × Fraction)). rewanted good (or_zero (number_of ps good)) qs ≡ Ok (or_nothing rate, ps)) end.2 (back_want good (or_nothing rate) ps (number_of ps good) s refl))
