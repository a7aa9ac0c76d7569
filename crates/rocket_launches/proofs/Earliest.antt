-- The earliest of the flights that a loop has found so far, and of all.
use Rattle.std.proofs.Common.{◌≡◌, ◌∙◌, ◌<◌, ◌≤◌, ◌+◌, ◌⊎◌, ℕ, suc, zero, Bool, true, false, List, Option, Some, None, length, get_or, refl, sym, ap, subst, arith, inl, inr}
use Rattle.std.specs.Prelude.{IfSome, option_and_then, slice_get, nat_lt, ◌==◌, ◌&&◌, ◌||◌, if◌then◌else◌}
use Rattle.std.proofs.lemmas.Bool.Decides.{nat_tests}
use Rattle.std.proofs.lemmas.Option.{slice_get-get_or, slice_get_within}
use Rattle.rocket_launches.specs.declared.silos.Flight.{Flight}
use Rattle.rocket_launches.specs.Clashes.{is_before, least_below, least_in, sooner}

pub none_yet : (find : ℕ → Option Flight) → least_below find 0 ≡ None
unfolding least_below
none_yet find = refl

pub one_further : (find : ℕ → Option Flight) (k : ℕ) → least_below find (k + 1) ≡ sooner (least_below find k) (find k)
unfolding least_below
one_further find k = ap (least_below find) (next k)
  where
    next : (k : ℕ) → k + 1 ≡ suc k
    next k = omega arith

pub one_got : {A : Type 0} (find : A → Option Flight) (xs : List A) (k : ℕ) (x : A) → slice_get xs k ≡ Some x
    → least_below (λ k. option_and_then find (slice_get xs k)) (k + 1) ≡ sooner (least_below (λ k. option_and_then find (slice_get xs k)) k) (find x)
one_got find xs k x is =
    one_further (λ k. option_and_then find (slice_get xs k)) k
    ∙ ap (λ found. sooner (least_below (λ k. option_and_then find (slice_get xs k)) k) (option_and_then find found)) is

pub one_at : {A : Type 0} (find : A → Option Flight) (xs : List A) (k : ℕ) (d : A) → k < length xs
    → least_below (λ k. option_and_then find (slice_get xs k)) (k + 1) ≡ sooner (least_below (λ k. option_and_then find (slice_get xs k)) k) (find (get_or xs k d))
one_at find xs k d within = one_got find xs k (get_or xs k d) (slice_get-get_or xs k d within)

-- ---- the order of flights
lex : ℕ → ℕ → ℕ → ℕ → Bool
lex m c p d = nat_lt m p || ((m == p) && nat_lt c d)

-- what the order tells
abbrev First : ℕ → ℕ → ℕ → ℕ → Type 0
First m c p d = (m < p) ⊎ ((m ≡ p) × (c < d))

abbrev NotFirst : ℕ → ℕ → ℕ → ℕ → Type 0
NotFirst m c p d = (p < m) ⊎ ((m ≡ p) × (d ≤ c))

lex_tests : (m c p d : ℕ) (a b e : Bool) → nat_lt m p ≡ a → (m == p) ≡ b → nat_lt c d ≡ e → (((a || (b && e)) ≡ true) × First m c p d) ⊎ (((a || (b && e)) ≡ false) × NotFirst m c p d)
lex_tests m c p d true b e less same below = inl (refl, inl (grind (arith, nat_tests, less)))
lex_tests m c p d false true true less same below = inl (refl, inr (grind (arith, nat_tests, same), grind (arith, nat_tests, below)))
lex_tests m c p d false true false less same below = inr (refl, inr (grind (arith, nat_tests, same), grind (arith, nat_tests, below)))
lex_tests m c p d false false e less same below = inr (refl, inl (grind (arith, nat_tests, less, same)))

lex_cases : (m c p d : ℕ) → ((lex m c p d ≡ true) × First m c p d) ⊎ ((lex m c p d ≡ false) × NotFirst m c p d)
unfolding lex
lex_cases m c p d = lex_tests m c p d (nat_lt m p) (m == p) (nat_lt c d) refl refl refl

first_not : (m c p d : ℕ) → First m c p d → NotFirst m c p d → ⊥
first_not m c p d (inl less) (inl more) = omega (arith, less, more)
first_not m c p d (inl less) (inr (same, more)) = omega (arith, less, same)
first_not m c p d (inr (same, less)) (inl more) = omega (arith, same, more)
first_not m c p d (inr (same, less)) (inr (equal, more)) = omega (arith, less, more)

lex_true : (m c p d : ℕ) → First m c p d → lex m c p d ≡ true
lex_true m c p d first = by_cases (lex_cases m c p d)
  where
    by_cases : ((lex m c p d ≡ true) × First m c p d) ⊎ ((lex m c p d ≡ false) × NotFirst m c p d) → lex m c p d ≡ true
    by_cases (inl (is, h)) = is
    by_cases (inr (is, h)) = absurd (first_not m c p d first h)

lex_false : (m c p d : ℕ) → NotFirst m c p d → lex m c p d ≡ false
lex_false m c p d never = by_cases (lex_cases m c p d)
  where
    by_cases : ((lex m c p d ≡ true) × First m c p d) ⊎ ((lex m c p d ≡ false) × NotFirst m c p d) → lex m c p d ≡ false
    by_cases (inl (is, h)) = absurd (first_not m c p d h never)
    by_cases (inr (is, h)) = is

told_first : (m c p d : ℕ) → lex m c p d ≡ true → First m c p d
told_first m c p d told = by_cases (lex_cases m c p d)
  where
    by_cases : ((lex m c p d ≡ true) × First m c p d) ⊎ ((lex m c p d ≡ false) × NotFirst m c p d) → First m c p d
    by_cases (inl (is, h)) = h
    by_cases (inr (is, h)) = absurd (let differs = sym told ∙ is in cc)

told_not : (m c p d : ℕ) → lex m c p d ≡ false → NotFirst m c p d
told_not m c p d told = by_cases (lex_cases m c p d)
  where
    by_cases : ((lex m c p d ≡ true) × First m c p d) ⊎ ((lex m c p d ≡ false) × NotFirst m c p d) → NotFirst m c p d
    by_cases (inl (is, h)) = absurd (let differs = sym told ∙ is in cc)
    by_cases (inr (is, h)) = h

-- x isn't before a, and b is: x isn't before b
below_first : (xm xc am ac bm bc : ℕ) → NotFirst xm xc am ac → First bm bc am ac → NotFirst xm xc bm bc
below_first xm xc am ac bm bc (inl more) (inl less) = inl (omega (arith, more, less))
below_first xm xc am ac bm bc (inl more) (inr (same, less)) = inl (omega (arith, more, same))
below_first xm xc am ac bm bc (inr (same, more)) (inl less) = inl (omega (arith, same, less))
below_first xm xc am ac bm bc (inr (same, more)) (inr (equal, less)) = inr (omega (arith, same, equal), omega (arith, more, less))

-- x isn't before b, and b isn't before a: x isn't before a
below_not : (xm xc am ac bm bc : ℕ) → NotFirst xm xc bm bc → NotFirst bm bc am ac → NotFirst xm xc am ac
below_not xm xc am ac bm bc (inl more) (inl less) = inl (omega (arith, more, less))
below_not xm xc am ac bm bc (inl more) (inr (same, less)) = inl (omega (arith, more, same))
below_not xm xc am ac bm bc (inr (same, more)) (inl less) = inl (omega (arith, same, less))
below_not xm xc am ac bm bc (inr (same, more)) (inr (equal, less)) = inr (omega (arith, same, equal), omega (arith, more, less))

pub before_first : (a b : Flight) → First a.silo.machine.0 a.cargo.0 b.silo.machine.0 b.cargo.0 → is_before a b ≡ true
unfolding is_before lex
before_first a b first = lex_true a.silo.machine.0 a.cargo.0 b.silo.machine.0 b.cargo.0 first

pub before_never : (a b : Flight) → NotFirst a.silo.machine.0 a.cargo.0 b.silo.machine.0 b.cargo.0 → is_before a b ≡ false
unfolding is_before lex
before_never a b never = lex_false a.silo.machine.0 a.cargo.0 b.silo.machine.0 b.cargo.0 never

is_first : (a b : Flight) → is_before a b ≡ true → First a.silo.machine.0 a.cargo.0 b.silo.machine.0 b.cargo.0
unfolding is_before lex
is_first a b told = told_first a.silo.machine.0 a.cargo.0 b.silo.machine.0 b.cargo.0 told

is_not_first : (a b : Flight) → is_before a b ≡ false → NotFirst a.silo.machine.0 a.cargo.0 b.silo.machine.0 b.cargo.0
unfolding is_before lex
is_not_first a b told = told_not a.silo.machine.0 a.cargo.0 b.silo.machine.0 b.cargo.0 told

pub not_itself : (a : Flight) → is_before a a ≡ false
not_itself a = before_never a a (inr (refl, omega arith))

pub one_way : (a b : Flight) → is_before a b ≡ true → is_before b a ≡ false
one_way a b told = before_never b a (turned (is_first a b told))
  where
    turned : First a.silo.machine.0 a.cargo.0 b.silo.machine.0 b.cargo.0 → NotFirst b.silo.machine.0 b.cargo.0 a.silo.machine.0 a.cargo.0
    turned (inl less) = inl less
    turned (inr (same, less)) = inr (sym same, omega (arith, less))

-- ---- what is found comes no later than a flight
abbrev pub Covers : Option Flight → Flight → Type 0
Covers None x = ⊥
Covers (Some m) x = is_before x m ≡ false

covers_left : (a b : Option Flight) (x : Flight) → Covers a x → Covers (sooner a b) x
covers_left None b x covers = absurd covers
covers_left (Some a) None x covers = covers
covers_left (Some a) (Some b) x covers = by_test (is_before b a) refl
  where
    by_test : (t : Bool) → is_before b a ≡ t → is_before x (if t then b else a) ≡ false
    by_test true told = before_never x b (below_first x.silo.machine.0 x.cargo.0 a.silo.machine.0 a.cargo.0 b.silo.machine.0 b.cargo.0 (is_not_first x a covers) (is_first b a told))
    by_test false told = covers

covers_right : (a b : Option Flight) (x : Flight) → Covers b x → Covers (sooner a b) x
covers_right None b x covers = covers
covers_right (Some a) None x covers = absurd covers
covers_right (Some a) (Some b) x covers = by_test (is_before b a) refl
  where
    by_test : (t : Bool) → is_before b a ≡ t → is_before x (if t then b else a) ≡ false
    by_test true told = covers
    by_test false told = before_never x a (below_not x.silo.machine.0 x.cargo.0 a.silo.machine.0 a.cargo.0 b.silo.machine.0 b.cargo.0 (is_not_first x b covers) (is_not_first b a told))

pub sooner_covers : (a b : Option Flight) (x : Flight) → Covers a x ⊎ Covers b x → Covers (sooner a b) x
sooner_covers a b x (inl covers) = covers_left a b x covers
sooner_covers a b x (inr covers) = covers_right a b x covers

pub sooner_holds : (P : Flight → Type 0) (a b : Option Flight) → IfSome a P → IfSome b P → IfSome (sooner a b) P
sooner_holds P None b first second = second
sooner_holds P (Some a) None first second = first
sooner_holds P (Some a) (Some b) first second = by_test (is_before b a)
  where
    by_test : (t : Bool) → P (if t then b else a)
    by_test true = second
    by_test false = first

pub below_covers : (find : ℕ → Option Flight) (n k : ℕ) (x : Flight) → k < n → Covers (find k) x → Covers (least_below find n) x
unfolding least_below
below_covers find zero k x within covers = absurd (omega (arith, within))
below_covers find (suc n) k x within covers = by_test (nat_lt k n) refl (λ below. below_covers find n k x below covers)
  where
    by_test : (t : Bool) → nat_lt k n ≡ t → (k < n → Covers (least_below find n) x) → Covers (sooner (least_below find n) (find n)) x
    by_test true told rest = covers_left (least_below find n) (find n) x (rest (grind (arith, nat_tests, told)))
    by_test false told rest =
        let last : k ≡ n = grind (arith, nat_tests, told, within) in
        covers_right (least_below find n) (find n) x (subst (λ j. Covers (find j) x) last covers)

pub below_holds : (P : Flight → Type 0) (find : ℕ → Option Flight) (n : ℕ) → ((k : ℕ) → k < n → IfSome (find k) P) → IfSome (least_below find n) P
unfolding least_below
below_holds P find zero each = tt
below_holds P find (suc n) each = sooner_holds P (least_below find n) (find n) (below_holds P find n (λ k below. each k (omega (arith, below)))) (each n (omega arith))

pub in_covers : {A : Type 0} (find : A → Option Flight) (xs : List A) (k : ℕ) (v : A) (x : Flight) → slice_get xs k ≡ Some v → Covers (find v) x → Covers (least_in find xs) x
in_covers find xs k v x is covers =
    below_covers (λ k. option_and_then find (slice_get xs k)) (length xs) k x (slice_get_within xs k v is)
    (subst (λ found. Covers (option_and_then find found) x) (sym is) covers)

pub in_holds : {A : Type 0} (P : Flight → Type 0) (find : A → Option Flight) (xs : List A) → ((k : ℕ) (v : A) → slice_get xs k ≡ Some v → IfSome (find v) P) → IfSome (least_in find xs) P
in_holds {A = A} P find xs each = below_holds P (λ k. option_and_then find (slice_get xs k)) (length xs) (λ k within. by_got k (slice_get xs k) refl)
  where
    by_got : (k : ℕ) (got : Option A) → slice_get xs k ≡ got → IfSome (option_and_then find got) P
    by_got k None is = tt
    by_got k (Some v) is = each k v is
