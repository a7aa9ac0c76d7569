-- Changes with goods of a game leave a table's goods those of the game.
use Rattle.std.proofs.Common.{◌≡◌, ◌<◌, ℕ, List, [], ◌∷◌, subst}
use Rattle.std.specs.Prelude.{All, Bool, true, false, nat_lt, ◌==◌, ◌++◌, Option, Some, None, Ok, slice_get, slice_set, if◌then◌else◌}
use Rattle.std.specs.List.{insert, remove}
use Rattle.std.proofs.lemmas.List.Elements.{All-nil, All-cons, All-head, All-tail}
use Rattle.fractions.specs.Fraction.{Fraction}
use Rattle.plan_base.specs.declared.ids.GoodId.{GoodId}
use Rattle.game_types.specs.declared.setups.Setup.{Setup}
use Rattle.game_types.specs.declared.games.Game.{Game}
use Rattle.game_types.specs.Goods.{good_count}
use Rattle.production_table.specs.declared.faults.TableFault.TheVariants.{Negative}
use Rattle.production_table.specs.declared.tables.Table.{Table}
use Rattle.production_table.specs.declared.tables.TableRow.{TableRow}
use Rattle.production_table.specs.Changes.{dropped, empty_table, new_row, place_of, priced, row_fits, with_balance, with_import, with_price, with_row, with_row_at, with_surplus, with_want, without_row}
use Rattle.production_table.specs.Numbers.{guard, number_of, or_nothing, price_fits, put_or_take, repriced, rewanted, want_fits, with_number, without_number}
use Rattle.fractions.specs.Signs.{is_negative}
use Rattle.production_table.specs.Tables.{IsOfGame}
use Rattle.production_table.proofs.Columns.{through}
use Rattle.production_table.proofs.Pairs.{same_parts}

-- ---- each number, put or taken
put_cases : (P : GoodId × Fraction → Type 0) (good : GoodId) (number : Fraction) (p : GoodId × Fraction) (ps rest : List (GoodId × Fraction)) (b c : Bool) → P (good, number) → All P (p ∷ ps) → All P rest
    → All P (if b then (good, number) ∷ p ∷ ps else if c then (good, number) ∷ ps else p ∷ rest)
put_cases P good number p ps rest true c h each more = All-cons P (good, number) (p ∷ ps) h each
put_cases P good number p ps rest false true h each more = All-cons P (good, number) ps h (All-tail P p ps each)
put_cases P good number p ps rest false false h each more = All-cons P p rest (All-head P p ps each) more

put_each : (P : GoodId × Fraction → Type 0) (good : GoodId) (number : Fraction) (ps : List (GoodId × Fraction)) → P (good, number) → All P ps → All P (with_number good number ps)
unfolding with_number
put_each P good number [] h each = All-cons P (good, number) [] h each
put_each P good number (p ∷ ps) h each = put_cases P good number p ps (with_number good number ps) (nat_lt good.0 p.0.0) (p.0.0 == good.0) h each (put_each P good number ps h (All-tail P p ps each))

take_cases : (P : GoodId × Fraction → Type 0) (p : GoodId × Fraction) (ps rest : List (GoodId × Fraction)) (c : Bool) → All P (p ∷ ps) → All P rest → All P (if c then ps else p ∷ rest)
take_cases P p ps rest true each more = All-tail P p ps each
take_cases P p ps rest false each more = All-cons P p rest (All-head P p ps each) more

take_each : (P : GoodId × Fraction → Type 0) (good : GoodId) (ps : List (GoodId × Fraction)) → All P ps → All P (without_number good ps)
unfolding without_number
take_each P good [] each = each
take_each P good (p ∷ ps) each = take_cases P p ps (without_number good ps) (p.0.0 == good.0) each (take_each P good ps (All-tail P p ps each))

abbrev IsBelow : ℕ → GoodId × Fraction → Type 0
IsBelow n pair = pair.0.0 < n

put_or_take_each : (n : ℕ) (good : GoodId) (number : Option Fraction) (ps : List (GoodId × Fraction)) → good.0 < n → All (IsBelow n) ps → All (IsBelow n) (put_or_take good number ps)
put_or_take_each n good (Some number) ps h each = put_each (IsBelow n) good number ps h each
put_or_take_each n good None ps h each = take_each (IsBelow n) good ps each

repriced_each : (n : ℕ) (good : GoodId) (price : Option Fraction) (ps : List (GoodId × Fraction)) (both : Option Fraction × List (GoodId × Fraction)) → good.0 < n → All (IsBelow n) ps → repriced good price ps ≡ Ok both → All (IsBelow n) both.1
unfolding repriced
repriced_each n good price ps both h each e =
    let one = through (price_fits ps good price) (λ _. Ok (number_of ps good, put_or_take good price ps)) both e in
    subst (λ (qs : List (GoodId × Fraction)). All (IsBelow n) qs) (same_parts (number_of ps good) both.0 (put_or_take good price ps) both.1 one.2).1 (put_or_take_each n good price ps h each)

rewanted_each : (n : ℕ) (good : GoodId) (rate : Fraction) (ps : List (GoodId × Fraction)) (both : Option Fraction × List (GoodId × Fraction)) → good.0 < n → All (IsBelow n) ps → rewanted good rate ps ≡ Ok both → All (IsBelow n) both.1
unfolding rewanted
rewanted_each n good rate ps both h each e =
    let one = through (want_fits ps good rate) (λ _. Ok (number_of ps good, put_or_take good (or_nothing rate) ps)) both e in
    subst (λ (qs : List (GoodId × Fraction)). All (IsBelow n) qs) (same_parts (number_of ps good) both.0 (put_or_take good (or_nothing rate) ps) both.1 one.2).1 (put_or_take_each n good (or_nothing rate) ps h each)

-- ---- wants, imports and surpluses
pub want_stays : (g : Game) (good : GoodId) (rate : Fraction) (answer : Option Fraction) (old new : Table) → good.0 < good_count g → IsOfGame g old → with_want good rate old ≡ Ok (answer, new) → IsOfGame g new
unfolding with_want
want_stays g good rate answer old new h of_game e =
    let one = through (rewanted good rate old.wants) (λ both. Ok (both.0, record old { wants = both.1 })) (answer, new) e in
    subst (IsOfGame g) (same_parts one.0.0 answer (record old { wants = one.0.1 }) new one.2).1
    (record { wants = rewanted_each (good_count g) good rate old.wants one.0 h of_game.wants one.1; imports = of_game.imports; surpluses = of_game.surpluses })

pub import_stays : (g : Game) (good : GoodId) (price answer : Option Fraction) (old new : Table) → good.0 < good_count g → IsOfGame g old → with_import good price old ≡ Ok (answer, new) → IsOfGame g new
unfolding with_import
import_stays g good price answer old new h of_game e =
    let one = through (repriced good price old.imports) (λ both. Ok (both.0, record old { imports = both.1 })) (answer, new) e in
    subst (IsOfGame g) (same_parts one.0.0 answer (record old { imports = one.0.1 }) new one.2).1
    (record { wants = of_game.wants; imports = repriced_each (good_count g) good price old.imports one.0 h of_game.imports one.1; surpluses = of_game.surpluses })

pub surplus_stays : (g : Game) (good : GoodId) (price answer : Option Fraction) (old new : Table) → good.0 < good_count g → IsOfGame g old → with_surplus good price old ≡ Ok (answer, new) → IsOfGame g new
unfolding with_surplus
surplus_stays g good price answer old new h of_game e =
    let one = through (repriced good price old.surpluses) (λ both. Ok (both.0, record old { surpluses = both.1 })) (answer, new) e in
    subst (IsOfGame g) (same_parts one.0.0 answer (record old { surpluses = one.0.1 }) new one.2).1
    (record { wants = of_game.wants; imports = of_game.imports; surpluses = repriced_each (good_count g) good price old.surpluses one.0 h of_game.surpluses one.1 })

-- ---- rows
pub rows_stay : (g : Game) (t : Table) (rows : List TableRow) → IsOfGame g t → IsOfGame g (record t { rows = rows })
rows_stay g t rows of_game = record { wants = of_game.wants; imports = of_game.imports; surpluses = of_game.surpluses }

pub row_stays : (g : Game) (label : List ℕ) (setup : Setup) (old new : Table) → IsOfGame g old → with_row g label setup old ≡ Ok (tt, new) → IsOfGame g new
unfolding with_row
row_stays g label setup old new of_game e =
    let one = through (row_fits g label setup old) (λ _. Ok (tt, record old { rows = old.rows ++ new_row label setup ∷ [] })) (tt, new) e in
    subst (IsOfGame g) (same_parts tt tt (record old { rows = old.rows ++ new_row label setup ∷ [] }) new one.2).1 (rows_stay g old (old.rows ++ new_row label setup ∷ []) of_game)

dropped_stays : (g : Game) (place : ℕ) (found : ℕ × TableRow) (old new : Table) (row : Option TableRow) → IsOfGame g old → dropped old place row ≡ Ok (found, new) → IsOfGame g new
dropped_stays g place found old new None of_game e = absurd (cc)
dropped_stays g place found old new (Some row) of_game e =
    subst (IsOfGame g) (same_parts (place, row) found (record old { rows = remove old.rows place }) new e).1 (rows_stay g old (remove old.rows place) of_game)

pub drop_stays : (g : Game) (label : List ℕ) (found : ℕ × TableRow) (old new : Table) → IsOfGame g old → without_row label old ≡ Ok (found, new) → IsOfGame g new
unfolding without_row
drop_stays g label found old new of_game e = dropped_stays g (place_of label old.rows) found old new (slice_get old.rows (place_of label old.rows)) of_game e

pub put_stays : (g : Game) (place : ℕ) (row : TableRow) (t : Table) → IsOfGame g t → IsOfGame g (with_row_at place row t)
unfolding with_row_at
put_stays g place row t of_game = rows_stay g t (insert t.rows place row) of_game

priced_stays : (g : Game) (place : ℕ) (price answer : Fraction) (old new : Table) (row : Option TableRow) → IsOfGame g old → priced old price place row ≡ Ok (answer, new) → IsOfGame g new
priced_stays g place price answer old new None of_game e = absurd (cc)
priced_stays g place price answer old new (Some row) of_game e =
    let one = through (guard (is_negative price) Negative) (λ _. Ok (row.price, record old { rows = slice_set old.rows place (record row { price = price }) })) (answer, new) e in
    subst (IsOfGame g) (same_parts row.price answer (record old { rows = slice_set old.rows place (record row { price = price }) }) new one.2).1
    (rows_stay g old (slice_set old.rows place (record row { price = price })) of_game)

pub price_stays : (g : Game) (label : List ℕ) (price answer : Fraction) (old new : Table) → IsOfGame g old → with_price label price old ≡ Ok (answer, new) → IsOfGame g new
unfolding with_price
price_stays g label price answer old new of_game e = priced_stays g (place_of label old.rows) price answer old new (slice_get old.rows (place_of label old.rows)) of_game e

pub power_stays : (g : Game) (on : Bool) (t : Table) → IsOfGame g t → IsOfGame g (with_balance on t).1
power_stays g on t of_game = record { wants = of_game.wants; imports = of_game.imports; surpluses = of_game.surpluses }

pub empty_is : (g : Game) (name : List ℕ) → IsOfGame g (empty_table name)
empty_is g name = record { wants = All-nil (IsBelow (good_count g)); imports = All-nil (IsBelow (good_count g)); surpluses = All-nil (IsBelow (good_count g)) }
