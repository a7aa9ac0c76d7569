-- What a table of middles tells of the flights of two silos with one name.
use Rattle.std.proofs.Common.{◌≡◌, ◌≢◌, ◌∙◌, ◌<◌, ◌+◌, ℕ, Bool, true, false, zero, suc, List, [], Option, Some, None, length, take, drop, refl, sym, ap, subst, arith, inl, inr}
use Rattle.std.specs.Prelude.{IfSome, IsSomeAnd, option_and_then, slice_get, slice_index_or, nat_lt, ◌==◌, if◌then◌else◌}
use Rattle.std.proofs.lemmas.Bool.Decides.{nat_tests}
use Rattle.std.proofs.lemmas.Grind.{common_steps}
use Rattle.std.proofs.lemmas.Option.{get_or_from_slice_get}
use Rattle.plan_base.specs.declared.ids.GoodId.{GoodId}
use Rattle.name_table.specs.Names.{place_of}
use Rattle.name_table.proofs.NamesLemmas.{named_at}
use Rattle.game_types.specs.Lookups.{machine_at}
use Rattle.game_types.specs.declared.games.Game.{Game}
use Rattle.rocket_launches.specs.declared.middles.Ends.{Ends}
use Rattle.rocket_launches.specs.declared.middles.Middles.{Middles}
use Rattle.rocket_launches.specs.declared.silos.Flight.{Flight}
use Rattle.rocket_launches.specs.declared.silos.Silo.{Silo}
use Rattle.rocket_launches.specs.Launches.{flight, name_at, silo_of}
use Rattle.rocket_launches.specs.Clashes.{IsWithin, Tells, both_ends, clash_cut, clash_of, clash_with, earlier_of, ends_among, ends_at, ends_with, is_before, joined, later_of, later_with, least_below, least_in, lesser, silo_named, sooner}
use Rattle.rocket_launches.proofs.Earliest.{before_first, before_never, below_holds, in_holds}
use Rattle.rocket_launches.proofs.Numbered.{silo_number}

pub longer_apart : (a b : List ℕ) → length b < length a → a ≢ b
longer_apart a b less = λ same. let long = ap length same in omega (arith, less, long)

-- ---- flights of one silo come in the order of their cargo
same_order : (silo : Silo) (x y : GoodId) → is_before (flight silo y) (flight silo x) ≡ nat_lt y.0 x.0
same_order silo x y = by_test (nat_lt y.0 x.0) refl
  where
    by_test : (b : Bool) → nat_lt y.0 x.0 ≡ b → is_before (flight silo y) (flight silo x) ≡ b
    by_test true told = before_first (flight silo y) (flight silo x) (inr (refl, grind (arith, nat_tests, told)))
    by_test false told = before_never (flight silo y) (flight silo x) (inr (refl, grind (arith, nat_tests, told)))

earlier : (silo : Silo) (x y : GoodId) → earlier_of (flight silo x) (flight silo y) ≡ flight silo (lesser x y)
earlier silo x y = ap (λ b. if b then flight silo y else flight silo x) (same_order silo x y) ∙ by_test (nat_lt y.0 x.0)
  where
    by_test : (b : Bool) → (if b then flight silo y else flight silo x) ≡ flight silo (if b then y else x)
    by_test true = refl
    by_test false = refl

-- ---- the earliest of the later flights is that of the least cargo, where the later silo is known
module _ (silo : Silo) (pick : Ends → GoodId) (picks : (a b : Ends) → pick (both_ends a b) ≡ lesser (pick a) (pick b)) where
  abbrev picked : Ends → Option Flight
  picked ends = Some (flight silo (pick ends))

  sooner_joined : (a b : Option Ends) → sooner (option_and_then picked a) (option_and_then picked b) ≡ option_and_then picked (joined a b)
  sooner_joined None b = refl
  sooner_joined (Some a) None = refl
  sooner_joined (Some a) (Some b) = ap Some (earlier silo (pick a) (pick b) ∙ ap (flight silo) (sym (picks a b)))

  module _ (g : Game) (short long : Silo) (middle : List ℕ) (cargo : List GoodId) (is : (ends : Ends) → later_with short long ends ≡ picked ends) where
    each : (found : Option Ends) → option_and_then (later_with short long) found ≡ option_and_then picked found
    each None = refl
    each (Some ends) = is ends

    one : (found : Option GoodId) → option_and_then (clash_with g short long middle) found ≡ option_and_then picked (option_and_then (ends_with g middle) found)
    unfolding clash_with
    one None = refl
    one (Some good) = each (ends_with g middle good)

    least : (n : ℕ) → least_below (λ k. option_and_then (clash_with g short long middle) (slice_get cargo k)) n ≡ option_and_then picked (ends_among g cargo middle n)
    unfolding least_below ends_among
    least zero = refl
    least (suc n) =
        ap (λ a. sooner a (option_and_then (clash_with g short long middle) (slice_get cargo n))) (least n)
        ∙ ap (sooner (option_and_then picked (ends_among g cargo middle n))) (one (slice_get cargo n))
        ∙ sooner_joined (ends_among g cargo middle n) (option_and_then (ends_with g middle) (slice_get cargo n))

    picked_least : (n : ℕ) → option_and_then (later_with short long) (ends_among g cargo middle n) ≡ least_below (λ k. option_and_then (clash_with g short long middle) (slice_get cargo k)) n
    picked_least n = each (ends_among g cargo middle n) ∙ sym (least n)

later_long : (short long : Silo) (c r : GoodId) → short.machine.0 < long.machine.0 → later_of (flight short c) (flight long r) ≡ flight long r
later_long short long c r less = ap (λ b. if b then flight long r else flight short c) (before_first (flight short c) (flight long r) (inl less))

later_short : (short long : Silo) (c r : GoodId) → long.machine.0 < short.machine.0 → later_of (flight short c) (flight long r) ≡ flight short c
later_short short long c r less = ap (λ b. if b then flight long r else flight short c) (before_never (flight short c) (flight long r) (inl less))

pub among_least : (g : Game) (short long : Silo) (middle : List ℕ) (cargo : List GoodId) → short.machine.0 ≢ long.machine.0
    → option_and_then (later_with short long) (ends_among g cargo middle (length cargo)) ≡ least_in (clash_with g short long middle) cargo
among_least g short long middle cargo apart = by_tests (nat_lt short.machine.0 long.machine.0) (nat_lt long.machine.0 short.machine.0) refl refl
  where
    equal : (n m : ℕ) → nat_lt n m ≡ false → nat_lt m n ≡ false → n ≡ m
    equal n m below above = grind (arith, nat_tests, below, above)

    by_tests : (a b : Bool) → nat_lt short.machine.0 long.machine.0 ≡ a → nat_lt long.machine.0 short.machine.0 ≡ b
        → option_and_then (later_with short long) (ends_among g cargo middle (length cargo)) ≡ least_in (clash_with g short long middle) cargo
    by_tests true b below above =
        picked_least long (λ ends. ends.rest) (λ x y. refl) g short long middle cargo (λ ends. ap Some (later_long short long ends.whole ends.rest (grind (arith, nat_tests, below)))) (length cargo)
    by_tests false true below above =
        picked_least short (λ ends. ends.whole) (λ x y. refl) g short long middle cargo (λ ends. ap Some (later_short short long ends.whole ends.rest (grind (arith, nat_tests, above)))) (length cargo)
    by_tests false false below above = absurd (apart (equal short.machine.0 long.machine.0 below above))

-- ---- a silo of a shorter name is another silo
named_silo : (g : Game) (name : List ℕ) (silo : Silo) → silo_named g name ≡ Some silo → name_at g.machine_names silo.machine.0 ≡ name
unfolding silo_named
named_silo g name silo is = by_place (place_of g.machine_names name) refl is
  where
    by_silo : (number : ℕ) (found : Option Silo) → slice_get g.machine_names number ≡ Some name → IfSome found (λ s. s.machine.0 ≡ number) → found ≡ Some silo → name_at g.machine_names silo.machine.0 ≡ name
    by_silo number None at holds same = absurd (cc)
    by_silo number (Some other) at holds same =
        let numbered : silo.machine.0 ≡ number = subst (λ (o : Option Silo). IfSome o (λ s. s.machine.0 ≡ number)) same holds in
        ap (λ n. slice_index_or g.machine_names n []) numbered ∙ get_or_from_slice_get g.machine_names number name [] at

    by_place : (found : Option ℕ) → place_of g.machine_names name ≡ found → option_and_then (λ number. silo_of g number (machine_at g (record { 0 = number }))) found ≡ Some silo → name_at g.machine_names silo.machine.0 ≡ name
    by_place None at same = absurd (cc)
    by_place (Some number) at same =
        by_silo number (silo_of g number (machine_at g (record { 0 = number }))) (named_at g.machine_names name number at) (silo_number g number (machine_at g (record { 0 = number }))) same

shorter : (place : ℕ) (xs : List ℕ) → place < length xs → take place xs ≡ xs → ⊥
shorter place xs within same = grind (arith, common_steps, within, ap length same)

pub other_silo : (g : Game) (name before : List ℕ) (place : ℕ) (short long : Silo) → name ≡ name_at g.machine_names long.machine.0 → place < length name → before ≡ take place name → silo_named g before ≡ Some short
    → short.machine.0 ≢ long.machine.0
other_silo g name before place short long name_is within before_is short_is =
    λ same. shorter place name within (sym before_is ∙ sym (named_silo g before short short_is) ∙ ap (λ n. slice_index_or g.machine_names n []) same ∙ sym name_is)

-- ---- what a table tells
pub told_between : (g : Game) (short long : Silo) (middle : List ℕ) (cargo : List GoodId) (table : Option Middles) (middles : Middles) → table ≡ Some middles
    → IfSome table (λ t. Tells g cargo t) → short.machine.0 ≢ long.machine.0 → option_and_then (later_with short long) (ends_at middles middle) ≡ least_in (clash_with g short long middle) cargo
told_between g short long middle cargo table middles is tells apart =
    let told : Tells g cargo middles = subst (λ (o : Option Middles). IfSome o (λ t. Tells g cargo t)) is tells in
    ap (option_and_then (later_with short long)) (told.1 middle) ∙ among_least g short long middle cargo apart

pub told_within : (g : Game) (cargo : List GoodId) (table : Option Middles) → IfSome table (λ t. Tells g cargo t) → IfSome table (λ t. IsWithin t)
told_within g cargo None tells = tt
told_within g cargo (Some middles) tells = tells.0

among_at : (g : Game) (middle : List ℕ) (cargo : List GoodId) (table : Option Middles) → IfSome table (λ t. Tells g cargo t) → IsSomeAnd table (λ t. ends_at t middle ≡ None) → ends_among g cargo middle (length cargo) ≡ None
among_at g middle cargo None tells none = absurd none
among_at g middle cargo (Some middles) tells none = sym (tells.1 middle) ∙ none

-- where no cargo gives anything for a middle, no two flights of silos with this middle have one name
pub told_none : (g : Game) (long : Silo) (place : ℕ) (name middle : List ℕ) (cargo : List GoodId) (table : Option Middles) → IfSome table (λ t. Tells g cargo t) → IsSomeAnd table (λ t. ends_at t middle ≡ None)
    → name ≡ name_at g.machine_names long.machine.0 → place < length name → middle ≡ drop (place + 1) name → None ≡ clash_cut g cargo long place
unfolding clash_cut
told_none g long place name middle cargo table tells none name_is within middle_is = by_colon (slice_index_or (name_at g.machine_names long.machine.0) place 0 == 58)
  where
    back : drop (place + 1) (name_at g.machine_names long.machine.0) ≡ middle
    back = ap (drop (place + 1)) (sym name_is) ∙ sym middle_is

    front : take place (name_at g.machine_names long.machine.0) ≡ take place name
    front = ap (take place) (sym name_is)

    by_short : (found : Option Silo) → silo_named g (take place name) ≡ found → None ≡ option_and_then (λ short. least_in (clash_with g short long middle) cargo) found
    by_short None short_is = refl
    by_short (Some short) short_is =
        sym (sym (among_least g short long middle cargo (other_silo g name (take place name) place short long name_is within refl short_is)) ∙ ap (option_and_then (later_with short long)) (among_at g middle cargo table tells none))

    by_colon : (b : Bool)
        → None ≡ (if b then option_and_then (λ short. least_in (clash_with g short long (drop (place + 1) (name_at g.machine_names long.machine.0))) cargo) (silo_named g (take place (name_at g.machine_names long.machine.0))) else None)
    by_colon true =
        by_short (silo_named g (take place name)) refl
        ∙ sym (
        ap (λ t. option_and_then (λ short. least_in (clash_with g short long t) cargo) (silo_named g (take place (name_at g.machine_names long.machine.0)))) back
        ∙ ap (λ t. option_and_then (λ short. least_in (clash_with g short long middle) cargo) (silo_named g t)) front)
    by_colon false = refl
