-- Changes of numbers leave them in order, few, and of the right sign.
use Rattle.std.proofs.Common.{◌≡◌, ◌<◌, ◌≤◌, ◌+◌, ℕ, List, [], ◌∷◌, length, refl, subst, arith, Result}
use Rattle.std.specs.Prelude.{All, Bool, true, false, ◌&&◌, not, is_none, nat_lt, ◌==◌, Option, Some, None, Ok, Err, if◌then◌else◌}
use Rattle.std.proofs.lemmas.Bool.Decides.{nat_tests}
use Rattle.std.proofs.lemmas.List.Elements.{All-head, All-tail, All-cons}
use Rattle.fractions.specs.Fraction.{Fraction, zero_fraction, ◌≤ʳ◌, ◌<ʳ◌}
use Rattle.plan_base.specs.declared.ids.GoodId.{GoodId}
use Rattle.game_types.specs.Steps.{◌▸◌}
use Rattle.production_table.specs.declared.faults.TableFault.{TableFault}
use Rattle.production_table.specs.declared.faults.TableFault.TheVariants.{Full, Negative}
use Rattle.production_table.specs.Numbers.{guard, is_full, no_room, number_of, price_fits, put_or_take, repriced, rewanted, want_fits, with_number, without_number}
use Rattle.fractions.specs.Signs.{is_negative, is_zero}
use Rattle.production_table.specs.Tables.{IsSoundList, Rises}
use Rattle.fractions.proofs.SignLemmas.{nonneg_is, positive_left}

-- ---- order
pub lower : (low more : ℕ) → (ps : List (GoodId × Fraction)) → low ≤ more → Rises more ps → Rises low ps
lower low more [] h rise = tt
lower low more (p ∷ ps) h rise = let first = rise.0 in (omega arith, rise.1)

put_cases : (low : ℕ) (good : GoodId) (number : Fraction) (p : GoodId × Fraction) (ps rest : List (GoodId × Fraction)) (b c : Bool) → nat_lt good.0 p.0.0 ≡ b → (p.0.0 == good.0) ≡ c
    → low ≤ good.0 → Rises low (p ∷ ps) → (p.0.0 + 1 ≤ good.0 → Rises (p.0.0 + 1) rest) → Rises low (if b then (good, number) ∷ p ∷ ps else if c then (good, number) ∷ ps else p ∷ rest)
put_cases low good number p ps rest true c h k at rise more = (at, (grind (arith, nat_tests), rise.1))
put_cases low good number p ps rest false true h k at rise more = let same : p.0.0 ≡ good.0 = grind (arith, nat_tests) in (at, subst (λ n. Rises (n + 1) ps) same rise.1)
put_cases low good number p ps rest false false h k at rise more = (rise.0, more (grind (arith, nat_tests)))

pub rises_put : (low : ℕ) (good : GoodId) (number : Fraction) (ps : List (GoodId × Fraction)) → low ≤ good.0 → Rises low ps → Rises low (with_number good number ps)
unfolding with_number
rises_put low good number [] at rise = (at, tt)
rises_put low good number (p ∷ ps) at rise =
    put_cases low good number p ps (with_number good number ps) (nat_lt good.0 p.0.0) (p.0.0 == good.0) refl refl at rise (λ above. rises_put (p.0.0 + 1) good number ps above rise.1)

take_cases : (low : ℕ) (p : GoodId × Fraction) (ps rest : List (GoodId × Fraction)) (c : Bool) → Rises low (p ∷ ps) → Rises (p.0.0 + 1) rest → Rises low (if c then ps else p ∷ rest)
take_cases low p ps rest true rise more = let first = rise.0 in lower low (p.0.0 + 1) ps (omega arith) rise.1
take_cases low p ps rest false rise more = (rise.0, more)

pub rises_take : (low : ℕ) (good : GoodId) (ps : List (GoodId × Fraction)) → Rises low ps → Rises low (without_number good ps)
unfolding without_number
rises_take low good [] rise = tt
rises_take low good (p ∷ ps) rise = take_cases low p ps (without_number good ps) (p.0.0 == good.0) rise (rises_take (p.0.0 + 1) good ps rise.1)

-- ---- signs
abbrev Fits : (Fraction → Type 0) → GoodId × Fraction → Type 0
Fits P pair = P pair.1

all_put_cases : (P : Fraction → Type 0) (good : GoodId) (number : Fraction) (p : GoodId × Fraction) (ps rest : List (GoodId × Fraction)) (b c : Bool) → P number → All (Fits P) (p ∷ ps) → All (Fits P) rest
    → All (Fits P) (if b then (good, number) ∷ p ∷ ps else if c then (good, number) ∷ ps else p ∷ rest)
all_put_cases P good number p ps rest true c h each more = All-cons (Fits P) (good, number) (p ∷ ps) h each
all_put_cases P good number p ps rest false true h each more = All-cons (Fits P) (good, number) ps h (All-tail (Fits P) p ps each)
all_put_cases P good number p ps rest false false h each more = All-cons (Fits P) p rest (All-head (Fits P) p ps each) more

pub all_put : (P : Fraction → Type 0) (good : GoodId) (number : Fraction) (ps : List (GoodId × Fraction)) → P number → All (λ pair. P pair.1) ps → All (λ pair. P pair.1) (with_number good number ps)
unfolding with_number
all_put P good number [] h each = All-cons (Fits P) (good, number) [] h each
all_put P good number (p ∷ ps) h each =
    all_put_cases P good number p ps (with_number good number ps) (nat_lt good.0 p.0.0) (p.0.0 == good.0) h each (all_put P good number ps h (All-tail (Fits P) p ps each))

all_take_cases : (P : Fraction → Type 0) (p : GoodId × Fraction) (ps rest : List (GoodId × Fraction)) (c : Bool) → All (Fits P) (p ∷ ps) → All (Fits P) rest → All (Fits P) (if c then ps else p ∷ rest)
all_take_cases P p ps rest true each more = All-tail (Fits P) p ps each
all_take_cases P p ps rest false each more = All-cons (Fits P) p rest (All-head (Fits P) p ps each) more

pub all_take : (P : Fraction → Type 0) (good : GoodId) (ps : List (GoodId × Fraction)) → All (λ pair. P pair.1) ps → All (λ pair. P pair.1) (without_number good ps)
unfolding without_number
all_take P good [] each = each
all_take P good (p ∷ ps) each = all_take_cases P p ps (without_number good ps) (p.0.0 == good.0) each (all_take P good ps (All-tail (Fits P) p ps each))

-- ---- how many
count_put_cases : (good : GoodId) (number : Fraction) (p : GoodId × Fraction) (ps rest : List (GoodId × Fraction)) (b c : Bool) → length rest ≤ length ps + 1
    → length (if b then (good, number) ∷ p ∷ ps else if c then (good, number) ∷ ps else p ∷ rest) ≤ length (p ∷ ps) + 1
count_put_cases good number p ps rest true c h = omega arith
count_put_cases good number p ps rest false true h = omega arith
count_put_cases good number p ps rest false false h = omega arith

count_put : (good : GoodId) (number : Fraction) (ps : List (GoodId × Fraction)) → length (with_number good number ps) ≤ length ps + 1
unfolding with_number
count_put good number [] = omega arith
count_put good number (p ∷ ps) = count_put_cases good number p ps (with_number good number ps) (nat_lt good.0 p.0.0) (p.0.0 == good.0) (count_put good number ps)

-- a good that is below all has no number
pub number_below : (low : ℕ) (good : GoodId) (ps : List (GoodId × Fraction)) → Rises low ps → good.0 < low → number_of ps good ≡ None
unfolding number_of
number_below low good [] rise h = refl
number_below low good (p ∷ ps) rise h = by_test (p.0.0 == good.0) refl (let first = rise.0 in number_below (p.0.0 + 1) good ps rise.1 (omega arith))
  where
    by_test : (c : Bool) → (p.0.0 == good.0) ≡ c → number_of ps good ≡ None → (if c then Some p.1 else number_of ps good) ≡ None
    by_test true e rest = let first = rise.0 in let same : p.0.0 ≡ good.0 = grind (arith, nat_tests) in absurd (omega arith)
    by_test false e rest = rest

count_there_cases : (low : ℕ) (good : GoodId) (number x : Fraction) (p : GoodId × Fraction) (ps rest : List (GoodId × Fraction)) (b c : Bool) → nat_lt good.0 p.0.0 ≡ b → (p.0.0 == good.0) ≡ c → Rises low (p ∷ ps)
    → number_of ps good ≡ (if c then number_of ps good else Some x) → (number_of ps good ≡ Some x → length rest ≤ length ps) → length (if b then (good, number) ∷ p ∷ ps else if c then (good, number) ∷ ps else p ∷ rest) ≤ length (p ∷ ps)
count_there_cases low good number x p ps rest true true h k rise there more = absurd (grind (arith, nat_tests))
count_there_cases low good number x p ps rest true false h k rise there more =
    let below : good.0 < p.0.0 + 1 = grind (arith, nat_tests) in
    let none : number_of ps good ≡ None = number_below (p.0.0 + 1) good ps rise.1 below in absurd (cc)
count_there_cases low good number x p ps rest false true h k rise there more = omega arith
count_there_cases low good number x p ps rest false false h k rise there more = let less = more there in omega arith

-- a good that has a number takes no more room
count_there : (low : ℕ) (good : GoodId) (number x : Fraction) (ps : List (GoodId × Fraction)) → Rises low ps → number_of ps good ≡ Some x → length (with_number good number ps) ≤ length ps
unfolding with_number number_of
count_there low good number x [] rise there = absurd (cc)
count_there low good number x (p ∷ ps) rise there =
    count_there_cases low good number x p ps (with_number good number ps) (nat_lt good.0 p.0.0) (p.0.0 == good.0) refl refl rise (behind (p.0.0 == good.0) there) (λ h. count_there (p.0.0 + 1) good number x ps rise.1 h)
  where
    behind : (c : Bool) → (if c then Some p.1 else number_of ps good) ≡ Some x → number_of ps good ≡ (if c then number_of ps good else Some x)
    behind true h = refl
    behind false h = h

count_take_cases : (p : GoodId × Fraction) (ps rest : List (GoodId × Fraction)) (c : Bool) → length rest ≤ length ps → length (if c then ps else p ∷ rest) ≤ length (p ∷ ps)
count_take_cases p ps rest true h = omega arith
count_take_cases p ps rest false h = omega arith

count_take : (good : GoodId) (ps : List (GoodId × Fraction)) → length (without_number good ps) ≤ length ps
unfolding without_number
count_take good [] = omega arith
count_take good (p ∷ ps) = count_take_cases p ps (without_number good ps) (p.0.0 == good.0) (count_take good ps)

fits_room : (low : ℕ) (good : GoodId) (number : Fraction) (ps : List (GoodId × Fraction)) (o : Option Fraction) → number_of ps good ≡ o → Rises low ps → (is_none o && is_full ps) ≡ false → length ps ≤ 512 → length (with_number good number ps) ≤ 512
fits_room low good number ps (Some x) there rise room few = let less = count_there low good number x ps rise there in omega arith
fits_room low good number ps None there rise room few =
    let more = count_put good number ps in
    let free : length ps < 512 = spare (length ps) (nat_lt (length ps) 512) refl room in
    omega arith
  where
    spare : (n : ℕ) (b : Bool) → nat_lt n 512 ≡ b → not b ≡ false → n < 512
    spare n true h e = grind (arith, nat_tests)
    spare n false h e = absurd (cc)

-- ---- the changes
passes : (b : Bool) (fault : TableFault) → guard b fault ≡ Ok tt → b ≡ false
passes false fault h = refl
passes true fault h = absurd (cc)

sound_put : (P : Fraction → Type 0) (good : GoodId) (number : Fraction) (ps : List (GoodId × Fraction)) → IsSoundList P ps → P number → no_room ps good ≡ false → IsSoundList P (with_number good number ps)
sound_put P good number ps s h room = record {
  rise = rises_put 0 good number ps (omega arith) s.rise;
  each = all_put P good number ps h s.each;
  few = fits_room 0 good number ps (number_of ps good) refl s.rise room s.few;
}

sound_take : (P : Fraction → Type 0) (good : GoodId) (ps : List (GoodId × Fraction)) → IsSoundList P ps → IsSoundList P (without_number good ps)
sound_take P good ps s = record {
  rise = rises_take 0 good ps s.rise;
  each = all_take P good ps s.each;
  few = let less = count_take good ps in let few = s.few in omega arith;
}

-- what a change of numbers leaves
Left : (P : Fraction → Type 0) → Result (Option Fraction × List (GoodId × Fraction)) TableFault → Type 0
Left P (Ok both) = IsSoundList P both.1
Left P (Err fault) = Unit {0}

reprice_left : (good : GoodId) (price : Option Fraction) (ps : List (GoodId × Fraction)) → IsSoundList (λ x. zero_fraction ≤ʳ x) ps → (r : Result (Unit {0}) TableFault) → price_fits ps good price ≡ r
    → Left (λ x. zero_fraction ≤ʳ x) (r ▸ λ _. Ok (number_of ps good, put_or_take good price ps))
unfolding Left
reprice_left good None ps s (Ok fine) h = sound_take (λ x. zero_fraction ≤ʳ x) good ps s
reprice_left good (Some price) ps s (Ok fine) h =
    let both = two (is_negative price) (no_room ps good) h in sound_put (λ x. zero_fraction ≤ʳ x) good price ps s (nonneg_is price both.0) both.1
  where
    two : (b c : Bool) → (guard b Negative ▸ λ _. guard c Full) ≡ Ok tt → (b ≡ false) × (c ≡ false)
    two false c h = (refl, passes c Full h)
    two true c h = absurd (cc)
reprice_left good price ps s (Err fault) h = tt

want_left : (good : GoodId) (rate : Fraction) (ps : List (GoodId × Fraction)) → IsSoundList (λ x. zero_fraction <ʳ x) ps → (b : Bool) → is_zero rate ≡ b → (r : Result (Unit {0}) TableFault)
    → (guard (is_negative rate) Negative ▸ λ _. guard (not b && no_room ps good) Full) ≡ r → Left (λ x. zero_fraction <ʳ x) (r ▸ λ _. Ok (number_of ps good, put_or_take good (if b then None else Some rate) ps))
unfolding Left
want_left good rate ps s true e (Ok fine) h = sound_take (λ x. zero_fraction <ʳ x) good ps s
want_left good rate ps s false e (Ok fine) h =
    let both = two (is_negative rate) (no_room ps good) h in sound_put (λ x. zero_fraction <ʳ x) good rate ps s (positive_left rate both.0 e) both.1
  where
    two : (b c : Bool) → (guard b Negative ▸ λ _. guard c Full) ≡ Ok tt → (b ≡ false) × (c ≡ false)
    two false c h = (refl, passes c Full h)
    two true c h = absurd (cc)
want_left good rate ps s b e (Err fault) h = tt

left_of : (P : Fraction → Type 0) (r : Result (Option Fraction × List (GoodId × Fraction)) TableFault) (answer : Option Fraction) (new : List (GoodId × Fraction)) → r ≡ Ok (answer, new) → Left P r → IsSoundList P new
unfolding Left
left_of P r answer new e h = subst (λ (s : Result (Option Fraction × List (GoodId × Fraction)) TableFault). Left P s) e h

pub sound_repriced : (good : GoodId) (price answer : Option Fraction) (ps new : List (GoodId × Fraction)) → IsSoundList (λ x. zero_fraction ≤ʳ x) ps → repriced good price ps ≡ Ok (answer, new) → IsSoundList (λ x. zero_fraction ≤ʳ x) new
unfolding repriced
sound_repriced good price answer ps new s h = left_of (λ x. zero_fraction ≤ʳ x) _ answer new h (reprice_left good price ps s (price_fits ps good price) refl)

pub sound_rewanted : (good : GoodId) (rate : Fraction) (answer : Option Fraction) (ps new : List (GoodId × Fraction)) → IsSoundList (λ x. zero_fraction <ʳ x) ps → rewanted good rate ps ≡ Ok (answer, new) → IsSoundList (λ x. zero_fraction <ʳ x) new
unfolding rewanted
sound_rewanted good rate answer ps new s h = left_of (λ x. zero_fraction <ʳ x) _ answer new h (want_left good rate ps s (is_zero rate) refl (want_fits ps good rate) refl)
