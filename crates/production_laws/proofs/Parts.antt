-- The parts of a linear form's columns are the amounts of the table's goods.
use Rattle.std.proofs.Common.{◌≡◌, ◌∙◌, ◌<◌, ◌≤◌, ◌+◌, ℕ, List, [], ◌∷◌, refl, sym, ap, subst, arith, inl, inr}
use Rattle.std.specs.Prelude.{◌⊎◌, map, Bool, true, false, ◌==◌, Option, Some, Result, Ok, slice_get, if◌then◌else◌}
use Rattle.std.proofs.lemmas.Bool.Decides.{nat_tests}
use Rattle.fractions.specs.Fraction.{Fraction, zero_fraction, one_fraction, negated, ◌+ʳ◌, ◌*ʳ◌}
use Rattle.fractions.specs.Fracs.{atom, nought, unit, ◌⊞◌, ◌⊠◌, opposite, same_amount}
use Rattle.plan_base.specs.declared.ids.GoodId.{GoodId}
use Rattle.game_types.specs.declared.effects.Wide.{Wide}
use Rattle.game_types.specs.declared.games.Game.{Game}
use Rattle.game_types.specs.Steps.{◌▸◌}
use Rattle.linear_table.specs.Parts.{part_at}
use Rattle.table_rows.specs.Columns.{column_of}
use Rattle.production_table.specs.declared.tables.TableRow.{TableRow}
use Rattle.production_table.specs.Linear.{columns_of, import_column, of_row, or_none, parts_at, place_in, row_columns, surplus_column}
use Rattle.production_table.specs.Numbers.{number_of}
use Rattle.fractions.specs.Signs.{is_zero}
use Rattle.production_table.specs.Tables.{Rises}
use Rattle.production_table.proofs.Columns.{of_row_is, through, EachRises}
use Rattle.production_table.proofs.Places.{place_is_spot, spot, spot_get, AllIn, EachIn, Has}
use Rattle.fractions.proofs.SignLemmas.{zero_is}
use Rattle.production_laws.specs.Amounts.{amount_in, where_same}
use Rattle.production_laws.specs.Balance.{column_amount, rate_of, row_amount, weighted}
use Rattle.production_laws.proofs.Lists.{column_sum}

-- ---- two goods are the same where their places are
pub same_place : (goods : List GoodId) (one other : GoodId) → Has goods one.0 → Has goods other.0 → (place_in goods one.0 == spot other.0 goods) ≡ (one.0 == other.0)
same_place goods one other has there = by_test (one.0 == other.0) refl
  where
    by_test : (b : Bool) → (one.0 == other.0) ≡ b → (place_in goods one.0 == spot other.0 goods) ≡ b
    by_test true e =
        let same : one.0 ≡ other.0 = grind (arith, nat_tests) in
        let place : place_in goods one.0 ≡ spot other.0 goods = place_is_spot one.0 goods has ∙ ap (λ (x : ℕ). spot x goods) same in
        grind (arith, nat_tests)
    by_test false e =
        let place : place_in goods one.0 ≡ spot one.0 goods = place_is_spot one.0 goods has in
        let apart : place_in goods one.0 ≡ spot other.0 goods → ⊥ = λ h.
        let at : slice_get goods (spot one.0 goods) ≡ Some one = spot_get one goods has in
        let at_other : slice_get goods (spot other.0 goods) ≡ Some other = spot_get other goods there in
        let spots : spot one.0 goods ≡ spot other.0 goods = sym place ∙ h in
        let both : slice_get goods (spot one.0 goods) ≡ slice_get goods (spot other.0 goods) = ap (λ (k : ℕ). slice_get goods k) spots in
        let same : one ≡ other = cc in
        let numbers : one.0 ≡ other.0 = ap (λ (x : GoodId). x.0) same in
        grind (arith, nat_tests) in
        grind (arith, nat_tests, apart)

-- ---- the amount of a good below all others
skipped : (b : Bool) (x : Fraction) (o : Option Fraction) → b ≡ false → or_none (if b then Some x else o) ≡ or_none o
skipped true x o h = absurd (cc)
skipped false x o h = refl

pub none_below : (low : ℕ) (column : List (GoodId × Fraction)) (good : GoodId) → Rises low column → good.0 < low → amount_in column good ≡ zero_fraction
unfolding number_of
none_below low [] good rise h = refl
none_below low (p ∷ ps) good rise h =
    let first : low ≤ p.0.0 = rise.0 in
    let apart : (p.0.0 == good.0) ≡ false = grind (arith, nat_tests) in
    skipped (p.0.0 == good.0) p.1 (number_of ps good) apart ∙ none_below (p.0.0 + 1) ps good rise.1 (omega arith)

-- ---- a column
part_cases : (place s : ℕ) (x : Fraction) (rest : List (ℕ × Fraction)) (o : Option Fraction) (b c : Bool) → is_zero x ≡ b → (place == s) ≡ c → part_at rest s ≡ or_none o → (c ≡ true → or_none o ≡ zero_fraction)
    → part_at (if b then rest else (place, x) ∷ rest) s ≡ or_none (if c then Some x else o)
part_cases place s x rest o true true e k same none = same ∙ none refl ∙ sym (zero_is x e)
part_cases place s x rest o true false e k same none = same
part_cases place s x rest o false true e k same none = ap (λ (d : Bool). if d then x else part_at rest s) k
part_cases place s x rest o false false e k same none = ap (λ (d : Bool). if d then x else part_at rest s) k ∙ same

pub amount_at : (goods : List GoodId) (low : ℕ) (column : List (GoodId × Fraction)) (good : GoodId) → Rises low column → AllIn goods column → Has goods good.0
    → part_at (parts_at goods column) (spot good.0 goods) ≡ amount_in column good
unfolding parts_at number_of
amount_at goods low [] good rise each has = refl
amount_at goods low (p ∷ ps) good rise each has =
    part_cases (place_in goods p.0.0) (spot good.0 goods) p.1 (parts_at goods ps) (number_of ps good) (is_zero p.1) (p.0.0 == good.0) refl (same_place goods p.0 good each.0 has)
    (amount_at goods (p.0.0 + 1) ps good rise.1 each.1 has) (λ e. none_below (p.0.0 + 1) ps good rise.1 (grind (arith, nat_tests)))

-- ---- the columns of rows
pub rows_sum : (g : Game) (power : Bool) (goods : List GoodId) (first : ℕ) (rows : List TableRow) (columns : List (List (GoodId × Fraction))) (rates : List Fraction) (good : GoodId)
    → columns_of g power rows ≡ Ok columns → EachRises columns → EachIn goods columns → Has goods good.0
    → column_sum (row_columns goods first rows columns) rates (spot good.0 goods) ≡ weighted (row_amount g power good) rows rates
unfolding columns_of row_columns
rows_sum g power goods first [] columns rates good e rise each has = refl
rows_sum g power goods first (row ∷ rows) columns rates good e rise each has =
    let one = through (of_row row (column_of g power row.setup)) (λ column. columns_of g power rows ▸ λ columns. Ok (column ∷ columns)) columns e in
    let two = through (columns_of g power rows) (λ rest. Ok (one.0 ∷ rest)) columns one.2 in
    let last : Ok (one.0 ∷ two.0) ≡ Ok columns = two.2 in
    let same : one.0 ∷ two.0 ≡ columns = cc in
    let is : column_of g power row.setup ≡ Ok one.0 = of_row_is row (column_of g power row.setup) one.0 one.1 in
    let up : EachRises (one.0 ∷ two.0) = subst EachRises (sym same) rise in
    let there : EachIn goods (one.0 ∷ two.0) = subst (EachIn goods) (sym same) each in
    subst (λ (cs : List (List (GoodId × Fraction))). column_sum (row_columns goods first (row ∷ rows) cs) rates (spot good.0 goods) ≡ weighted (row_amount g power good) (row ∷ rows) rates) same
    (by_rates g power goods first row rows one.0 two.0 rates good is (λ rest. rows_sum g power goods (first + 1) rows two.0 rest good two.1 up.1 there.1 has) (amount_at goods 0 one.0 good up.0 there.0 has))
  where
    by_rates : (g : Game) (power : Bool) (goods : List GoodId) (first : ℕ) (row : TableRow) (rows : List TableRow) (column : List (GoodId × Fraction)) (columns : List (List (GoodId × Fraction))) (rates : List Fraction) (good : GoodId)
        → column_of g power row.setup ≡ Ok column
        → ((rest : List Fraction) → column_sum (row_columns goods (first + 1) rows columns) rest (spot good.0 goods) ≡ weighted (row_amount g power good) rows rest)
        → part_at (parts_at goods column) (spot good.0 goods) ≡ amount_in column good
        → column_sum (row_columns goods first (row ∷ rows) (column ∷ columns)) rates (spot good.0 goods) ≡ weighted (row_amount g power good) (row ∷ rows) rates
    by_rates g power goods first row rows column columns [] good is rest at = refl
    by_rates g power goods first row rows column columns (rate ∷ rates) good is rest at =
        ap (λ (x : Fraction). x *ʳ rate +ʳ column_sum (row_columns goods (first + 1) rows columns) rates (spot good.0 goods)) (at ∙ sym (ap (λ (r : Result (List (GoodId × Fraction)) Wide). column_amount r good) is))
        ∙ ap (λ (x : Fraction). row_amount g power good row *ʳ rate +ʳ x) (rest rates)

-- ---- the columns of what comes in and what goes out
one_times : (b : Bool) (rate : Fraction) → (if b then one_fraction else zero_fraction) *ʳ rate ≡ (if b then rate else zero_fraction)
one_times true rate = same_amount (unit ⊠ atom rate) (atom rate) (omega arith)
one_times false rate = same_amount (nought ⊠ atom rate) nought (omega arith)

pub imports_sum : (goods : List GoodId) (pairs : List (GoodId × Fraction)) (rates : List Fraction) (good : GoodId) → AllIn goods pairs → Has goods good.0
    → column_sum (map (import_column goods) pairs) rates (spot good.0 goods) ≡ rate_of pairs rates good
imports_sum goods [] rates good each has = refl
imports_sum goods (p ∷ ps) [] good each has = refl
imports_sum goods (p ∷ ps) (rate ∷ rates) good each has =
    ap (λ (b : Bool). (if b then one_fraction else zero_fraction) *ʳ rate +ʳ column_sum (map (import_column goods) ps) rates (spot good.0 goods)) (same_place goods p.0 good each.0 has)
    ∙ ap (λ (x : Fraction). x +ʳ column_sum (map (import_column goods) ps) rates (spot good.0 goods)) (one_times (p.0.0 == good.0) rate)
    ∙ ap (λ (x : Fraction). where_same p.0 good rate +ʳ x) (imports_sum goods ps rates good each.1 has)

less_times : (b : Bool) (rate rest : Fraction) → (if b then negated one_fraction else zero_fraction) *ʳ rate +ʳ negated rest ≡ negated ((if b then rate else zero_fraction) +ʳ rest)
less_times true rate rest = same_amount (opposite unit ⊠ atom rate ⊞ opposite (atom rest)) (opposite (atom rate ⊞ atom rest)) (omega arith)
less_times false rate rest = same_amount (nought ⊠ atom rate ⊞ opposite (atom rest)) (opposite (nought ⊞ atom rest)) (omega arith)

minus_zero : zero_fraction ≡ negated zero_fraction
minus_zero = same_amount nought (opposite nought) (omega arith)

pub surpluses_sum : (goods : List GoodId) (pairs : List (GoodId × Fraction)) (rates : List Fraction) (good : GoodId) → AllIn goods pairs → Has goods good.0
    → column_sum (map (surplus_column goods) pairs) rates (spot good.0 goods) ≡ negated (rate_of pairs rates good)
surpluses_sum goods [] rates good each has = minus_zero
surpluses_sum goods (p ∷ ps) [] good each has = minus_zero
surpluses_sum goods (p ∷ ps) (rate ∷ rates) good each has =
    ap (λ (b : Bool). (if b then negated one_fraction else zero_fraction) *ʳ rate +ʳ column_sum (map (surplus_column goods) ps) rates (spot good.0 goods)) (same_place goods p.0 good each.0 has)
    ∙ ap (λ (x : Fraction). (if p.0.0 == good.0 then negated one_fraction else zero_fraction) *ʳ rate +ʳ x) (surpluses_sum goods ps rates good each.1 has)
    ∙ less_times (p.0.0 == good.0) rate (rate_of ps rates good)

-- ---- a good that is nowhere mentioned
pub has_or_not : (goods : List GoodId) (x : ℕ) → Has goods x ⊎ (Has goods x → ⊥)
has_or_not [] x = inr (λ h. h)
has_or_not (g ∷ goods) x = by_test (g.0 == x) refl (has_or_not goods x)
  where
    by_test : (b : Bool) → (g.0 == x) ≡ b → Has goods x ⊎ (Has goods x → ⊥) → Has (g ∷ goods) x ⊎ (Has (g ∷ goods) x → ⊥)
    by_test true e more = inl (inl (grind (arith, nat_tests)))
    by_test false e (inl h) = inl (inr h)
    by_test false e (inr not) = inr (λ h. elim h [ inl same ↦ absurd (grind (arith, nat_tests)) | inr k ↦ not k ])

other_good : (goods : List GoodId) (one good : GoodId) → Has goods one.0 → (Has goods good.0 → ⊥) → (one.0 == good.0) ≡ false
other_good goods one good has not = by_test (one.0 == good.0) refl
  where
    by_test : (b : Bool) → (one.0 == good.0) ≡ b → b ≡ false
    by_test false e = refl
    by_test true e = let same : one.0 ≡ good.0 = grind (arith, nat_tests) in absurd (not (subst (λ (k : ℕ). Has goods k) same has))

pub no_amount : (goods : List GoodId) (column : List (GoodId × Fraction)) (good : GoodId) → AllIn goods column → (Has goods good.0 → ⊥) → amount_in column good ≡ zero_fraction
unfolding number_of
no_amount goods [] good each not = refl
no_amount goods (p ∷ ps) good each not = skipped (p.0.0 == good.0) p.1 (number_of ps good) (other_good goods p.0 good each.0 not) ∙ no_amount goods ps good each.1 not

pub no_rate : (goods : List GoodId) (pairs : List (GoodId × Fraction)) (rates : List Fraction) (good : GoodId) → AllIn goods pairs → (Has goods good.0 → ⊥) → rate_of pairs rates good ≡ zero_fraction
no_rate goods [] rates good each not = refl
no_rate goods (p ∷ ps) [] good each not = refl
no_rate goods (p ∷ ps) (rate ∷ rates) good each not =
    ap (λ (b : Bool). (if b then rate else zero_fraction) +ʳ rate_of ps rates good) (other_good goods p.0 good each.0 not)
    ∙ ap (λ (x : Fraction). zero_fraction +ʳ x) (no_rate goods ps rates good each.1 not)
    ∙ same_amount (nought ⊞ nought) nought (omega arith)

pub no_rows : (g : Game) (power : Bool) (goods : List GoodId) (rows : List TableRow) (columns : List (List (GoodId × Fraction))) (rates : List Fraction) (good : GoodId)
    → columns_of g power rows ≡ Ok columns → EachIn goods columns → (Has goods good.0 → ⊥) → weighted (row_amount g power good) rows rates ≡ zero_fraction
unfolding columns_of
no_rows g power goods [] columns rates good e each not = refl
no_rows g power goods (row ∷ rows) columns rates good e each not =
    let one = through (of_row row (column_of g power row.setup)) (λ column. columns_of g power rows ▸ λ columns. Ok (column ∷ columns)) columns e in
    let two = through (columns_of g power rows) (λ rest. Ok (one.0 ∷ rest)) columns one.2 in
    let last : Ok (one.0 ∷ two.0) ≡ Ok columns = two.2 in
    let same : one.0 ∷ two.0 ≡ columns = cc in
    let is : column_of g power row.setup ≡ Ok one.0 = of_row_is row (column_of g power row.setup) one.0 one.1 in
    let there : EachIn goods (one.0 ∷ two.0) = subst (EachIn goods) (sym same) each in
    let none : row_amount g power good row ≡ zero_fraction = ap (λ (r : Result (List (GoodId × Fraction)) Wide). column_amount r good) is ∙ no_amount goods one.0 good there.0 not in
    by_rates g power good row rows rates none (λ rest. no_rows g power goods rows two.0 rest good two.1 there.1 not)
  where
    by_rates : (g : Game) (power : Bool) (good : GoodId) (row : TableRow) (rows : List TableRow) (rates : List Fraction) → row_amount g power good row ≡ zero_fraction
        → ((rest : List Fraction) → weighted (row_amount g power good) rows rest ≡ zero_fraction) → weighted (row_amount g power good) (row ∷ rows) rates ≡ zero_fraction
    by_rates g power good row rows [] none more = refl
    by_rates g power good row rows (rate ∷ rates) none more =
        ap (λ (x : Fraction). x *ʳ rate +ʳ weighted (row_amount g power good) rows rates) none ∙ ap (λ (x : Fraction). zero_fraction *ʳ rate +ʳ x) (more rates)
        ∙ same_amount (nought ⊠ atom rate ⊞ nought) nought (omega arith)
