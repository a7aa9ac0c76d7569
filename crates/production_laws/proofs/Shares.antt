-- What a column has of a good is what the row's contributions sum to, less what it draws.
use Rattle.std.proofs.Common.{◌≡◌, ◌∙◌, ◌+◌, ℕ, List, [], ◌∷◌, refl, sym, ap, subst, arith}
use Rattle.std.specs.Prelude.{◌≢◌, Bool, true, false, nat_lt, ◌==◌, Option, Some, None, Result, Ok, if◌then◌else◌}
use Rattle.std.proofs.lemmas.Bool.Decides.{nat_tests}
use Rattle.fractions.specs.Fraction.{Fraction, zero_fraction, negated, ◌+ʳ◌}
use Rattle.fractions.proofs.Laws.{+ʳ_assoc, +ʳ-zero, zero-+ʳ}
use Rattle.plan_base.specs.declared.ids.GoodId.{GoodId}
use Rattle.game_types.specs.declared.effects.Rates.{Rates}
use Rattle.game_types.specs.declared.effects.Wide.{Wide}
use Rattle.game_types.specs.declared.games.Game.{Game}
use Rattle.game_types.specs.declared.setups.Setup.{Setup}
use Rattle.game_types.specs.Beacons.{beacon_power_of}
use Rattle.game_types.specs.Goods.{electricity}
use Rattle.game_types.specs.Steps.{◌▸◌, added, formed}
use Rattle.power_rows.specs.Power.{draw_of}
use Rattle.table_rows.specs.declared.rates.RowRates.{RowRates}
use Rattle.table_rows.specs.Columns.{column_of, contributed, contributions, drawn, drawn_where, row_rates_of, summed, with_part, Contribution}
use Rattle.production_table.specs.Linear.{or_none}
use Rattle.production_table.specs.Numbers.{number_of}
use Rattle.production_table.specs.Tables.{Rises}
use Rattle.production_table.proofs.Columns.{added_rises, summed_rises, through}
use Rattle.production_laws.specs.Amounts.{amount_in, or_zero, share_of, where_same}
use Rattle.production_laws.specs.Balance.{setup_draw}
use Rattle.production_laws.proofs.Parts.{none_below}

-- ---- an amount more
formed_is : (step : ℕ) (fits : Bool) (value sum : Fraction) → formed step fits value ≡ Ok sum → sum ≡ value
unfolding formed
formed_is step true value sum h = cc
formed_is step false value sum h = absurd (cc)

added_is : (step : ℕ) (x y sum : Fraction) → added step x y ≡ Ok sum → sum ≡ x +ʳ y
unfolding added
added_is step x y sum h = formed_is step _ (x +ʳ y) sum h

single : (b : Bool) (amount : Fraction) → or_none (if b then Some amount else None) ≡ zero_fraction +ʳ (if b then amount else zero_fraction)
single true amount = sym (zero-+ʳ amount)
single false amount = sym (zero-+ʳ zero_fraction)

in_front : (b : Bool) (amount : Fraction) (o : Option Fraction) → (b ≡ true → or_none o ≡ zero_fraction) → or_none (if b then Some amount else o) ≡ or_none o +ʳ (if b then amount else zero_fraction)
in_front true amount o none = sym (ap (λ (x : Fraction). x +ʳ amount) (none refl) ∙ zero-+ʳ amount)
in_front false amount o none = sym (+ʳ-zero (or_none o))

on_it : (b : Bool) (old amount sum : Fraction) (o : Option Fraction) → sum ≡ old +ʳ amount → or_none (if b then Some sum else o) ≡ or_none (if b then Some old else o) +ʳ (if b then amount else zero_fraction)
on_it true old amount sum o h = h
on_it false old amount sum o h = sym (+ʳ-zero (or_none o))

behind : (b c : Bool) (old amount : Fraction) (o p : Option Fraction) → (b ≡ true → c ≡ false) → or_none p ≡ or_none o +ʳ (if c then amount else zero_fraction)
    → or_none (if b then Some old else p) ≡ or_none (if b then Some old else o) +ʳ (if c then amount else zero_fraction)
behind false c old amount o p apart more = more
behind true c old amount o p apart more = sym (ap (λ (d : Bool). old +ʳ (if d then amount else zero_fraction)) (apart refl) ∙ +ʳ-zero old)

part_cases : (low step : ℕ) (good x : GoodId) (amount : Fraction) (p : GoodId × Fraction) (ps : List (GoodId × Fraction)) (rest : Result (List (GoodId × Fraction)) Wide) (more : List (GoodId × Fraction)) (b c : Bool)
    → nat_lt good.0 p.0.0 ≡ b → (good.0 == p.0.0) ≡ c → Rises low (p ∷ ps)
    → ((r : List (GoodId × Fraction)) → rest ≡ Ok r → amount_in r x ≡ amount_in ps x +ʳ where_same good x amount)
    → (if b then Ok ((good, amount) ∷ p ∷ ps) else if c then (added step p.1 amount ▸ λ sum. Ok ((good, sum) ∷ ps)) else (rest ▸ λ others. Ok (p ∷ others))) ≡ Ok more
    → amount_in more x ≡ amount_in (p ∷ ps) x +ʳ where_same good x amount
unfolding number_of
part_cases low step good x amount p ps rest more true c h k rise keep e =
    let same : (good, amount) ∷ p ∷ ps ≡ more = cc in
    let up : Rises (good.0 + 1) (p ∷ ps) = (grind (arith, nat_tests), rise.1) in
    subst (λ (qs : List (GoodId × Fraction)). amount_in qs x ≡ amount_in (p ∷ ps) x +ʳ where_same good x amount) same
    (in_front (good.0 == x.0) amount (number_of (p ∷ ps) x) (λ is. none_below (good.0 + 1) (p ∷ ps) x up (grind (arith, nat_tests))))
part_cases low step good x amount p ps rest more false true h k rise keep e =
    let one = through (added step p.1 amount) (λ sum. Ok ((good, sum) ∷ ps)) more e in
    let last : Ok ((good, one.0) ∷ ps) ≡ Ok more = one.2 in
    let same : (good, one.0) ∷ ps ≡ more = cc in
    let equal : good.0 ≡ p.0.0 = grind (arith, nat_tests) in
    subst (λ (qs : List (GoodId × Fraction)). amount_in qs x ≡ amount_in (p ∷ ps) x +ʳ where_same good x amount) same
    (on_it (good.0 == x.0) p.1 amount one.0 (number_of ps x) (added_is step p.1 amount one.0 one.1)
    ∙ ap (λ (n : ℕ). or_none (if n == x.0 then Some p.1 else number_of ps x) +ʳ where_same good x amount) equal)
part_cases low step good x amount p ps rest more false false h k rise keep e =
    let one = through rest (λ others. Ok (p ∷ others)) more e in
    let last : Ok (p ∷ one.0) ≡ Ok more = one.2 in
    let same : p ∷ one.0 ≡ more = cc in
    subst (λ (qs : List (GoodId × Fraction)). amount_in qs x ≡ amount_in (p ∷ ps) x +ʳ where_same good x amount) same
    (behind (p.0.0 == x.0) (good.0 == x.0) p.1 amount (number_of ps x) (number_of one.0 x) (λ is. grind (arith, nat_tests)) (keep one.0 one.1))

part_amount : (low step : ℕ) (good x : GoodId) (amount : Fraction) (column more : List (GoodId × Fraction)) → Rises low column → with_part step good amount column ≡ Ok more → amount_in more x ≡ amount_in column x +ʳ where_same good x amount
unfolding with_part number_of
part_amount low step good x amount [] more rise e =
    let same : (good, amount) ∷ [] ≡ more = cc in
    subst (λ (qs : List (GoodId × Fraction)). amount_in qs x ≡ zero_fraction +ʳ where_same good x amount) same (single (good.0 == x.0) amount)
part_amount low step good x amount (p ∷ ps) more rise e =
    part_cases low step good x amount p ps (with_part step good amount ps) more (nat_lt good.0 p.0.0) (good.0 == p.0.0) refl refl rise (λ r f. part_amount (p.0.0 + 1) step good x amount ps r rise.1 f) e

added_amount : (c : Contribution) (x : GoodId) (column more : List (GoodId × Fraction)) → Rises 0 column → contributed c column ≡ Ok more → amount_in more x ≡ amount_in column x +ʳ where_same c.0 x (or_zero c.1)
unfolding contributed
added_amount c x column more rise e =
    let one = through c.1 (λ amount. with_part 8 c.0 amount column) more e in
    part_amount 0 8 c.0 x one.0 column more rise one.2 ∙ sym (ap (λ (r : Result Fraction Wide). amount_in column x +ʳ where_same c.0 x (or_zero r)) one.1)

sum_amount : (cs : List Contribution) (x : GoodId) (column more : List (GoodId × Fraction)) → Rises 0 column → summed column cs ≡ Ok more → amount_in more x ≡ amount_in column x +ʳ share_of cs x
unfolding summed
sum_amount [] x column more rise e =
    let same : column ≡ more = cc in sym (ap (λ (qs : List (GoodId × Fraction)). amount_in qs x) same) ∙ sym (+ʳ-zero (amount_in column x))
sum_amount (c ∷ cs) x column more rise e =
    let one = through (contributed c column) (λ next. summed next cs) more e in
    sum_amount cs x one.0 more (added_rises c column one.0 rise one.1) one.2
    ∙ ap (λ (y : Fraction). y +ʳ share_of cs x) (added_amount c x column one.0 rise one.1)
    ∙ +ʳ_assoc (amount_in column x) (where_same c.0 x (or_zero c.1)) (share_of cs x)

amount_of_sum : (cs : List Contribution) (x : GoodId) (more : List (GoodId × Fraction)) → summed [] cs ≡ Ok more → amount_in more x ≡ share_of cs x
unfolding number_of
amount_of_sum cs x more e = sum_amount cs x [] more tt e ∙ zero-+ʳ (share_of cs x)

-- ---- a column
-- how a column is made: the rates, the sum of the contributions, and the draw
pub record IsMade (g : Game) (power : Bool) (setup : Setup) (row : RowRates) (column : List (GoodId × Fraction)) : Type 0 where
  pub sum : List (GoodId × Fraction)
  pub rises : Rises 0 sum
  pub amounts : (x : GoodId) → amount_in sum x ≡ share_of (contributions g setup row) x
  pub beacons : Fraction
  pub beacons_are : beacon_power_of g setup ≡ Ok beacons
  pub last : drawn_where power g row.rates beacons sum ≡ Ok column

-- the rates that a column was made with, and how
pub made_there : (g : Game) (power : Bool) (setup : Setup) (column : List (GoodId × Fraction)) → column_of g power setup ≡ Ok column → (row : RowRates) × (row_rates_of g setup ≡ Ok row) × IsMade g power setup row column
unfolding column_of
made_there g power setup column e =
    let row = through (row_rates_of g setup) (λ row. summed [] (contributions g setup row) ▸ λ column. beacon_power_of g setup ▸ λ beacons. drawn_where power g row.rates beacons column) column e in
    let sum = through (summed [] (contributions g setup row.0)) (λ column. beacon_power_of g setup ▸ λ beacons. drawn_where power g row.0.rates beacons column) column row.2 in
    let beacons = through (beacon_power_of g setup) (λ beacons. drawn_where power g row.0.rates beacons sum.0) column sum.2 in (
      row.0,
      row.1,
      record {
        sum = sum.0;
        rises = summed_rises [] (contributions g setup row.0) sum.0 tt sum.1;
        amounts = λ x. amount_of_sum (contributions g setup row.0) x sum.0 sum.1;
        beacons = beacons.0;
        beacons_are = beacons.1;
        last = beacons.2;
      },
    )

same_row : (r : Result RowRates Wide) (one other : RowRates) → r ≡ Ok one → r ≡ Ok other → one ≡ other
same_row r one other h k = cc

made : (g : Game) (power : Bool) (setup : Setup) (row : RowRates) (column : List (GoodId × Fraction)) → row_rates_of g setup ≡ Ok row → column_of g power setup ≡ Ok column → IsMade g power setup row column
made g power setup row column is e =
    let there = made_there g power setup column e in
    subst (λ (r : RowRates). IsMade g power setup r column) (same_row (row_rates_of g setup) there.0 row there.1 is) there.2

pub rates_there : (g : Game) (power : Bool) (setup : Setup) (column : List (GoodId × Fraction)) → column_of g power setup ≡ Ok column → (row : RowRates) × (row_rates_of g setup ≡ Ok row)
rates_there g power setup column e = let there = made_there g power setup column e in (there.0, there.1)

-- ---- the draw
pub where_apart : (one other : GoodId) (number : Fraction) → one.0 ≢ other.0 → where_same one other number ≡ zero_fraction
where_apart one other number h = by_test (one.0 == other.0) refl
  where
    by_test : (b : Bool) → (one.0 == other.0) ≡ b → (if b then number else zero_fraction) ≡ zero_fraction
    by_test true e = absurd (h (grind (arith, nat_tests)))
    by_test false e = refl

pub where_equal : (one other : GoodId) (number : Fraction) → one.0 ≡ other.0 → where_same one other number ≡ number
where_equal one other number h = by_test (one.0 == other.0) refl
  where
    by_test : (b : Bool) → (one.0 == other.0) ≡ b → (if b then number else zero_fraction) ≡ number
    by_test true e = refl
    by_test false e = absurd (grind (arith, nat_tests))

-- of every other good the column has what the contributions sum to
undrawn : (g : Game) (power : Bool) (rates : Rates) (beacons : Fraction) (x : GoodId) (sum column : List (GoodId × Fraction)) → Rises 0 sum → drawn_where power g rates beacons sum ≡ Ok column → (electricity g).0 ≢ x.0
    → amount_in column x ≡ amount_in sum x
unfolding drawn
undrawn g false rates beacons x sum column rise e apart = let same : sum ≡ column = cc in sym (ap (λ (qs : List (GoodId × Fraction)). amount_in qs x) same)
undrawn g true rates beacons x sum column rise e apart =
    let one = through (draw_of rates.power rates.machines rates.drain beacons) (λ draw. with_part 18 (electricity g) (negated draw) sum) column e in
    part_amount 0 18 (electricity g) x (negated one.0) sum column rise one.2 ∙ ap (λ (y : Fraction). amount_in sum x +ʳ y) (where_apart (electricity g) x (negated one.0) apart) ∙ +ʳ-zero (amount_in sum x)

pub other_amounts : (g : Game) (power : Bool) (setup : Setup) (row : RowRates) (column : List (GoodId × Fraction)) (x : GoodId) → row_rates_of g setup ≡ Ok row → column_of g power setup ≡ Ok column → (electricity g).0 ≢ x.0
    → amount_in column x ≡ share_of (contributions g setup row) x
other_amounts g power setup row column x is e apart =
    let m = made g power setup row column is e in undrawn g power row.rates m.beacons x m.sum column m.rises m.last apart ∙ m.amounts x

-- of electricity less the draw, in a table that balances it
draw_there : (g : Game) (setup : Setup) (row : RowRates) (beacons draw : Fraction) → row_rates_of g setup ≡ Ok row → beacon_power_of g setup ≡ Ok beacons → draw_of row.rates.power row.rates.machines row.rates.drain beacons ≡ Ok draw
    → setup_draw g setup ≡ Ok draw
unfolding setup_draw
draw_there g setup row beacons draw r b d = rw (r, b) d

pub power_amount : (g : Game) (setup : Setup) (row : RowRates) (column : List (GoodId × Fraction)) → row_rates_of g setup ≡ Ok row → column_of g true setup ≡ Ok column
    → amount_in column (electricity g) ≡ share_of (contributions g setup row) (electricity g) +ʳ negated (or_zero (setup_draw g setup))
unfolding drawn
power_amount g setup row column is e =
    let m = made g true setup row column is e in
    let one = through (draw_of row.rates.power row.rates.machines row.rates.drain m.beacons) (λ draw. with_part 18 (electricity g) (negated draw) m.sum) column m.last in
    let draw : setup_draw g setup ≡ Ok one.0 = draw_there g setup row m.beacons one.0 is m.beacons_are one.1 in
    part_amount 0 18 (electricity g) (electricity g) (negated one.0) m.sum column m.rises one.2
    ∙ ap (λ (y : Fraction). amount_in m.sum (electricity g) +ʳ y) (where_equal (electricity g) (electricity g) (negated one.0) refl)
    ∙ ap (λ (y : Fraction). y +ʳ negated one.0) (m.amounts (electricity g))
    ∙ sym (ap (λ (r : Result Fraction Wide). share_of (contributions g setup row) (electricity g) +ʳ negated (or_zero r)) draw)
