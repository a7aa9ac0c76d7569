-- Numbers of goods, in the order of goods: what is wanted of each, and the prices of what may come in and go out. What each
-- change makes of them, when it is refused, and what it answers, which undoes it.
use Rattle.std.specs.Prelude.{◌≡◌, ◌==◌, ◌&&◌, Bool, true, false, not, nat_lt, is_none, ℤ, pos, negsuc, List, [], ◌∷◌, length, Option, Some, None, Result, Ok, Err, if◌then◌else◌}
use Rattle.fractions.specs.Fraction.{Fraction, zero_fraction}
use Rattle.fractions.specs.Signs.{is_negative, is_zero}
use Rattle.plan_base.specs.declared.denied.Denied.{Denied}
use Rattle.plan_base.specs.declared.ids.GoodId.{GoodId}
use Rattle.plan_base.specs.Outcomes.{IsRefused}
use Rattle.game_types.specs.Steps.{◌▸◌}
use Rattle.production_table.specs.declared.faults.TableFault.{TableFault}
use Rattle.production_table.specs.declared.faults.TableFault.TheVariants.{Full, Unknown, Negative}

-- a change of numbers: what it answers and what it leaves, or its refusal, which leaves them
abbrev pub ListChanges : {A : Type 0} → Result (A × List (GoodId × Fraction)) TableFault → Result A (Denied TableFault) → List (GoodId × Fraction) → List (GoodId × Fraction) → Type 0
ListChanges meant (Ok answer) old new = meant ≡ Ok (answer, new)
ListChanges meant (Err fault) old new = IsRefused meant fault × (new ≡ old)

abbrev pub guard : Bool → TableFault → Result (Unit {0}) TableFault
guard refuses fault = if refuses then Err fault else Ok tt

-- whether there are as many as there may be
abbrev pub is_full : {A : Type 0} → List A → Bool
is_full things = not (nat_lt (length things) 512)

abbrev pub is_pair_of : GoodId → GoodId × Fraction → Bool
is_pair_of good pair = pair.0.0 == good.0

-- the number of a good, where it has one
unfoldable pub number_of : List (GoodId × Fraction) → GoodId → Option Fraction
number_of [] good = None
number_of (p ∷ ps) good = if p.0.0 == good.0 then Some p.1 else number_of ps good

-- a good's number set, at its place in the order
unfoldable pub with_number : GoodId → Fraction → List (GoodId × Fraction) → List (GoodId × Fraction)
with_number good number [] = (good, number) ∷ []
with_number good number (p ∷ ps) =
    if nat_lt good.0 p.0.0 then (good, number) ∷ p ∷ ps
    else if p.0.0 == good.0 then (good, number) ∷ ps
    else p ∷ with_number good number ps

-- a good's number taken away
unfoldable pub without_number : GoodId → List (GoodId × Fraction) → List (GoodId × Fraction)
without_number good [] = []
without_number good (p ∷ ps) = if p.0.0 == good.0 then ps else p ∷ without_number good ps

abbrev pub lacks : List (GoodId × Fraction) → GoodId → Bool
lacks pairs good = is_none (number_of pairs good)

-- a new good beside so many others as there may be
abbrev pub no_room : List (GoodId × Fraction) → GoodId → Bool
no_room pairs good = lacks pairs good && is_full pairs

abbrev pub put_or_take : GoodId → Option Fraction → List (GoodId × Fraction) → List (GoodId × Fraction)
put_or_take good (Some number) pairs = with_number good number pairs
put_or_take good None pairs = without_number good pairs

-- a price set, or with none taken away: first whether there is one to take away, then its sign, then the room. The old price,
-- or none, undoes it
abbrev pub price_fits : List (GoodId × Fraction) → GoodId → Option Fraction → Result (Unit {0}) TableFault
price_fits pairs good None = guard (lacks pairs good) Unknown
price_fits pairs good (Some price) = guard (is_negative price) Negative ▸ λ _. guard (no_room pairs good) Full

unfoldable pub repriced : GoodId → Option Fraction → List (GoodId × Fraction) → Result (Option Fraction × List (GoodId × Fraction)) TableFault
repriced good price pairs = price_fits pairs good price ▸ λ _. Ok (number_of pairs good, put_or_take good price pairs)

abbrev pub or_nothing : Fraction → Option Fraction
or_nothing rate = if is_zero rate then None else Some rate

-- the want that an answer is
abbrev pub or_zero : Option Fraction → Fraction
or_zero (Some rate) = rate
or_zero None = zero_fraction

-- a want set, where 0 takes it away: first its sign, then the room. The old want, or 0, undoes it
abbrev pub want_fits : List (GoodId × Fraction) → GoodId → Fraction → Result (Unit {0}) TableFault
want_fits pairs good rate = guard (is_negative rate) Negative ▸ λ _. guard (not (is_zero rate) && no_room pairs good) Full

unfoldable pub rewanted : GoodId → Fraction → List (GoodId × Fraction) → Result (Option Fraction × List (GoodId × Fraction)) TableFault
rewanted good rate pairs = want_fits pairs good rate ▸ λ _. Ok (number_of pairs good, put_or_take good (or_nothing rate) pairs)
