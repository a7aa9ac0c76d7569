-- The goods of a row's column rise.
use Rattle.std.proofs.Common.{◌≡◌, ◌≤◌, ◌+◌, ℕ, List, [], ◌∷◌, refl, ap, subst, arith}
use Rattle.std.specs.Prelude.{Bool, true, false, nat_lt, ◌==◌, Result, Ok, Err, if◌then◌else◌}
use Rattle.std.proofs.lemmas.Bool.Decides.{nat_tests}
use Rattle.fractions.specs.Fraction.{Fraction, negated}
use Rattle.plan_base.specs.declared.ids.GoodId.{GoodId}
use Rattle.game_types.specs.declared.effects.Rates.{Rates}
use Rattle.game_types.specs.declared.effects.Wide.{Wide}
use Rattle.game_types.specs.declared.games.Game.{Game}
use Rattle.game_types.specs.declared.setups.Setup.{Setup}
use Rattle.game_types.specs.Beacons.{beacon_power_of}
use Rattle.game_types.specs.Goods.{electricity}
use Rattle.game_types.specs.Steps.{◌▸◌, added}
use Rattle.power_rows.specs.Power.{draw_of}
use Rattle.table_rows.specs.Columns.{column_of, contributed, contributions, drawn, drawn_where, row_rates_of, summed, with_part, Contribution}
use Rattle.production_table.specs.declared.tables.TableRow.{TableRow}
use Rattle.production_table.specs.Linear.{columns_of, of_row}
use Rattle.production_table.specs.Tables.{Rises}

-- what a step came to, where the next one came to a value
abbrev pub Through : {A B E : Type 0} → Result A E → (A → Result B E) → B → Type 0
Through {A} r next value = (x : A) × (r ≡ Ok x) × (next x ≡ Ok value)

pub through : {A B E : Type 0} (r : Result A E) (next : A → Result B E) (value : B) → (r ▸ next) ≡ Ok value → Through r next value
through (Ok x) next value h = (x, refl, h)
through (Err e) next value h = absurd (cc)

-- ---- an amount more
part_cases : (low step : ℕ) (good : GoodId) (amount : Fraction) (p : GoodId × Fraction) (ps : List (GoodId × Fraction)) (rest : Result (List (GoodId × Fraction)) Wide) (more : List (GoodId × Fraction)) (b c : Bool)
    → nat_lt good.0 p.0.0 ≡ b → (good.0 == p.0.0) ≡ c → low ≤ good.0 → Rises low (p ∷ ps)
    → ((r : List (GoodId × Fraction)) → rest ≡ Ok r → p.0.0 + 1 ≤ good.0 → Rises (p.0.0 + 1) r)
    → (if b then Ok ((good, amount) ∷ p ∷ ps) else if c then (added step p.1 amount ▸ λ sum. Ok ((good, sum) ∷ ps)) else (rest ▸ λ others. Ok (p ∷ others))) ≡ Ok more → Rises low more
part_cases low step good amount p ps rest more true c h k at rise keep e =
    let same : (good, amount) ∷ p ∷ ps ≡ more = cc in subst (λ (qs : List (GoodId × Fraction)). Rises low qs) same (at, (grind (arith, nat_tests), rise.1))
part_cases low step good amount p ps rest more false true h k at rise keep e =
    let one = through (added step p.1 amount) (λ sum. Ok ((good, sum) ∷ ps)) more e in
    let last : Ok ((good, one.0) ∷ ps) ≡ Ok more = one.2 in
    let same : (good, one.0) ∷ ps ≡ more = cc in
    let equal : p.0.0 ≡ good.0 = grind (arith, nat_tests) in
    subst (λ (qs : List (GoodId × Fraction)). Rises low qs) same (at, subst (λ (n : ℕ). Rises (n + 1) ps) equal rise.1)
part_cases low step good amount p ps rest more false false h k at rise keep e =
    let one = through rest (λ others. Ok (p ∷ others)) more e in
    let last : Ok (p ∷ one.0) ≡ Ok more = one.2 in
    let same : p ∷ one.0 ≡ more = cc in
    subst (λ (qs : List (GoodId × Fraction)). Rises low qs) same (rise.0, keep one.0 one.1 (grind (arith, nat_tests)))

part_rises : (low step : ℕ) (good : GoodId) (amount : Fraction) (column more : List (GoodId × Fraction)) → low ≤ good.0 → Rises low column → with_part step good amount column ≡ Ok more → Rises low more
unfolding with_part
part_rises low step good amount [] more at rise e =
    let same : (good, amount) ∷ [] ≡ more = cc in subst (λ (qs : List (GoodId × Fraction)). Rises low qs) same (at, tt)
part_rises low step good amount (p ∷ ps) more at rise e =
    part_cases low step good amount p ps (with_part step good amount ps) more (nat_lt good.0 p.0.0) (good.0 == p.0.0) refl refl at rise (λ r f above. part_rises (p.0.0 + 1) step good amount ps r above rise.1 f) e

pub added_rises : (c : Contribution) (column more : List (GoodId × Fraction)) → Rises 0 column → contributed c column ≡ Ok more → Rises 0 more
unfolding contributed
added_rises c column more rise e = let one = through c.1 (λ amount. with_part 8 c.0 amount column) more e in part_rises 0 8 c.0 one.0 column more (omega arith) rise one.2

pub summed_rises : (column : List (GoodId × Fraction)) (cs : List Contribution) (more : List (GoodId × Fraction)) → Rises 0 column → summed column cs ≡ Ok more → Rises 0 more
unfolding summed
summed_rises column [] more rise e = let same : column ≡ more = cc in subst (λ (qs : List (GoodId × Fraction)). Rises 0 qs) same rise
summed_rises column (c ∷ cs) more rise e =
    let one = through (contributed c column) (λ next. summed next cs) more e in summed_rises one.0 cs more (added_rises c column one.0 rise one.1) one.2

drawn_rises : (g : Game) (rates : Rates) (beacons : Fraction) (column more : List (GoodId × Fraction)) → Rises 0 column → drawn g rates beacons column ≡ Ok more → Rises 0 more
unfolding drawn
drawn_rises g rates beacons column more rise e =
    let one = through (draw_of rates.power rates.machines rates.drain beacons) (λ draw. with_part 18 (electricity g) (negated draw) column) more e in
    part_rises 0 18 (electricity g) (negated one.0) column more (omega arith) rise one.2

pub drawn_where_rises : (power : Bool) (g : Game) (rates : Rates) (beacons : Fraction) (column more : List (GoodId × Fraction)) → Rises 0 column → drawn_where power g rates beacons column ≡ Ok more → Rises 0 more
drawn_where_rises true g rates beacons column more rise e = drawn_rises g rates beacons column more rise e
drawn_where_rises false g rates beacons column more rise e = let same : column ≡ more = cc in subst (λ (qs : List (GoodId × Fraction)). Rises 0 qs) same rise

pub column_rises : (g : Game) (power : Bool) (setup : Setup) (column : List (GoodId × Fraction)) → column_of g power setup ≡ Ok column → Rises 0 column
unfolding column_of
column_rises g power setup column e =
    let row = through (row_rates_of g setup) (λ row. summed [] (contributions g setup row) ▸ λ column. beacon_power_of g setup ▸ λ beacons. drawn_where power g row.rates beacons column) column e in
    let sum = through (summed [] (contributions g setup row.0)) (λ column. beacon_power_of g setup ▸ λ beacons. drawn_where power g row.0.rates beacons column) column row.2 in
    let beacons = through (beacon_power_of g setup) (λ beacons. drawn_where power g row.0.rates beacons sum.0) column sum.2 in
    drawn_where_rises power g row.0.rates beacons.0 sum.0 column (summed_rises [] (contributions g setup row.0) sum.0 tt sum.1) beacons.2

-- ---- of each row
abbrev pub EachRises : List (List (GoodId × Fraction)) → Type 0
EachRises [] = Unit {0}
EachRises (column ∷ columns) = Rises 0 column × EachRises columns

pub of_row_is : (row : TableRow) (r : Result (List (GoodId × Fraction)) Wide) (column : List (GoodId × Fraction)) → of_row row r ≡ Ok column → r ≡ Ok column
of_row_is row (Ok c) column h = let same : c ≡ column = cc in ap (λ (qs : List (GoodId × Fraction)). Ok qs) same
of_row_is row (Err wide) column h = absurd (cc)

pub columns_rise : (g : Game) (power : Bool) (rows : List TableRow) (columns : List (List (GoodId × Fraction))) → columns_of g power rows ≡ Ok columns → EachRises columns
unfolding columns_of
columns_rise g power [] columns e = let same : [] ≡ columns = cc in subst EachRises same tt
columns_rise g power (row ∷ rows) columns e =
    let one = through (of_row row (column_of g power row.setup)) (λ column. columns_of g power rows ▸ λ columns. Ok (column ∷ columns)) columns e in
    let two = through (columns_of g power rows) (λ rest. Ok (one.0 ∷ rest)) columns one.2 in
    let last : Ok (one.0 ∷ two.0) ≡ Ok columns = two.2 in
    let same : one.0 ∷ two.0 ≡ columns = cc in
    subst EachRises same (column_rises g power row.setup one.0 (of_row_is row (column_of g power row.setup) one.0 one.1), columns_rise g power rows two.0 two.1)
