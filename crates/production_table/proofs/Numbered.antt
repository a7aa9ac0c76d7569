-- A table whose numbers of goods change.
use Rattle.std.proofs.Common.{◌≡◌, List, refl, sym, ap, subst}
use Rattle.std.specs.Prelude.{Option, Result, Ok, Err}
use Rattle.fractions.specs.Fraction.{Fraction, zero_fraction, ◌≤ʳ◌, ◌<ʳ◌}
use Rattle.plan_base.specs.declared.denied.Denied.{Denied}
use Rattle.plan_base.specs.declared.ids.GoodId.{GoodId}
use Rattle.game_types.specs.Steps.{◌▸◌}
use Rattle.production_table.specs.declared.faults.TableFault.{TableFault}
use Rattle.production_table.specs.declared.tables.Table.{Table}
use Rattle.production_table.specs.Changes.{with_import, with_surplus, with_want, ChangesInMemory}
use Rattle.production_table.specs.Numbers.{or_nothing, or_zero, repriced, rewanted, ListChanges}
use Rattle.production_table.specs.Tables.{IsSoundList, IsSoundTable}
use Rattle.production_table.proofs.Pairs.{same_parts}
use Rattle.production_table.proofs.Undone.{reprice_back, rewant_back}
use Rattle.production_table.proofs.NumberSound.{sound_repriced, sound_rewanted}

-- ---- one of a table's lists of numbers: `put` is the table with that list
abbrev Pairs : Type 0
Pairs = List (GoodId × Fraction)

-- what a change of the list makes of the table
abbrev table_change : (Pairs → Table) → Result (Option Fraction × Pairs) TableFault → Result (Option Fraction × Table) TableFault
table_change put change = change ▸ λ both. Ok (both.0, put both.1)

changes_table : (put : Pairs → Table) (change : Result (Option Fraction × Pairs) TableFault) (r : Result (Option Fraction) (Denied TableFault)) (old new : Pairs) → ListChanges change r old new → ChangesInMemory (table_change put change) r (put old) (put new)
changes_table put change (Ok answer) old new h = ap (table_change put) h
changes_table put change (Err fault) old new h = (λ refusal is. ap (table_change put) (h.0 refusal is), ap put h.1)

list_sound : (P : Fraction → Type 0) (change : Result (Option Fraction × Pairs) TableFault) (r : Result (Option Fraction) (Denied TableFault)) (old new : Pairs) → ListChanges change r old new
    → ((answer : Option Fraction) → change ≡ Ok (answer, new) → IsSoundList P new) → IsSoundList P old → IsSoundList P new
list_sound P change (Ok answer) old new h made s = made answer h
list_sound P change (Err fault) old new h made s = subst (λ (ps : Pairs). IsSoundList P ps) (sym h.1) s

-- a change that was made: the list that it left, and the table with that
record MadeChange (put : Pairs → Table) (answer : Option Fraction) (new : Table) (change : Result (Option Fraction × Pairs) TableFault) : Type 0 where
  numbers : Pairs
  told : change ≡ Ok (answer, numbers)
  left : new ≡ put numbers

made : (put : Pairs → Table) (answer : Option Fraction) (new : Table) (change : Result (Option Fraction × Pairs) TableFault) → table_change put change ≡ Ok (answer, new) → MadeChange put answer new change
made put answer new (Ok both) h =
    let parts = same_parts both.0 answer (put both.1) new h in
    record { numbers = both.1; told = ap (λ (o : Option Fraction). let pair : Option Fraction × Pairs = (o, both.1) in Ok pair) parts.0; left = sym parts.1 }
made put answer new (Err fault) h = absurd (cc)

-- ---- wants
abbrev put_wants : Table → Pairs → Table
put_wants t pairs = record t { wants = pairs }

pub wants_change : (good : GoodId) (rate : Fraction) (r : Result (Option Fraction) (Denied TableFault)) (t : Table) (new : List (GoodId × Fraction)) → ListChanges (rewanted good rate t.wants) r t.wants new
    → ChangesInMemory (with_want good rate t) r t (record t { wants = new })
unfolding with_want
wants_change good rate r t new h = changes_table (put_wants t) (rewanted good rate t.wants) r t.wants new h

pub wants_sound : (good : GoodId) (rate : Fraction) (r : Result (Option Fraction) (Denied TableFault)) (t : Table) (new : List (GoodId × Fraction)) → ListChanges (rewanted good rate t.wants) r t.wants new
    → IsSoundTable t → IsSoundTable (record t { wants = new })
wants_sound good rate r t new h s = record {
  labels = s.labels;
  prices = s.prices;
  few_rows = s.few_rows;
  wants = list_sound (λ x. zero_fraction <ʳ x) (rewanted good rate t.wants) r t.wants new h (λ answer is. sound_rewanted good rate answer t.wants new s.wants is) s.wants;
  imports = s.imports;
  surpluses = s.surpluses;
}

pub wants_back : (good : GoodId) (rate : Fraction) (answer : Option Fraction) (old new : Table) → IsSoundTable old → with_want good rate old ≡ Ok (answer, new) → with_want good (or_zero answer) new ≡ Ok (or_nothing rate, old)
unfolding with_want
wants_back good rate answer old new s h =
    let end = made (put_wants old) answer new (rewanted good rate old.wants) h in
    subst (λ (t : Table). with_want good (or_zero answer) t ≡ Ok (or_nothing rate, old)) (sym end.left)
    (ap (table_change (put_wants old)) (rewant_back good rate answer old.wants end.numbers s.wants end.told))

-- ---- imports
abbrev put_imports : Table → Pairs → Table
put_imports t pairs = record t { imports = pairs }

pub imports_change : (good : GoodId) (price : Option Fraction) (r : Result (Option Fraction) (Denied TableFault)) (t : Table) (new : List (GoodId × Fraction)) → ListChanges (repriced good price t.imports) r t.imports new
    → ChangesInMemory (with_import good price t) r t (record t { imports = new })
unfolding with_import
imports_change good price r t new h = changes_table (put_imports t) (repriced good price t.imports) r t.imports new h

pub imports_sound : (good : GoodId) (price : Option Fraction) (r : Result (Option Fraction) (Denied TableFault)) (t : Table) (new : List (GoodId × Fraction)) → ListChanges (repriced good price t.imports) r t.imports new
    → IsSoundTable t → IsSoundTable (record t { imports = new })
imports_sound good price r t new h s = record {
  labels = s.labels;
  prices = s.prices;
  few_rows = s.few_rows;
  wants = s.wants;
  imports = list_sound (λ x. zero_fraction ≤ʳ x) (repriced good price t.imports) r t.imports new h (λ answer is. sound_repriced good price answer t.imports new s.imports is) s.imports;
  surpluses = s.surpluses;
}

pub imports_back : (good : GoodId) (price : Option Fraction) (answer : Option Fraction) (old new : Table) → IsSoundTable old → with_import good price old ≡ Ok (answer, new) → with_import good (answer) new ≡ Ok (price, old)
unfolding with_import
imports_back good price answer old new s h =
    let end = made (put_imports old) answer new (repriced good price old.imports) h in
    subst (λ (t : Table). with_import good (answer) t ≡ Ok (price, old)) (sym end.left)
    (ap (table_change (put_imports old)) (reprice_back good price answer old.imports end.numbers s.imports end.told))

-- ---- surpluses
abbrev put_surpluses : Table → Pairs → Table
put_surpluses t pairs = record t { surpluses = pairs }

pub surpluses_change : (good : GoodId) (price : Option Fraction) (r : Result (Option Fraction) (Denied TableFault)) (t : Table) (new : List (GoodId × Fraction)) → ListChanges (repriced good price t.surpluses) r t.surpluses new
    → ChangesInMemory (with_surplus good price t) r t (record t { surpluses = new })
unfolding with_surplus
surpluses_change good price r t new h = changes_table (put_surpluses t) (repriced good price t.surpluses) r t.surpluses new h

pub surpluses_sound : (good : GoodId) (price : Option Fraction) (r : Result (Option Fraction) (Denied TableFault)) (t : Table) (new : List (GoodId × Fraction)) → ListChanges (repriced good price t.surpluses) r t.surpluses new
    → IsSoundTable t → IsSoundTable (record t { surpluses = new })
surpluses_sound good price r t new h s = record {
  labels = s.labels;
  prices = s.prices;
  few_rows = s.few_rows;
  wants = s.wants;
  imports = s.imports;
  surpluses = list_sound (λ x. zero_fraction ≤ʳ x) (repriced good price t.surpluses) r t.surpluses new h (λ answer is. sound_repriced good price answer t.surpluses new s.surpluses is) s.surpluses;
}

pub surpluses_back : (good : GoodId) (price : Option Fraction) (answer : Option Fraction) (old new : Table) → IsSoundTable old → with_surplus good price old ≡ Ok (answer, new) → with_surplus good (answer) new ≡ Ok (price, old)
unfolding with_surplus
surpluses_back good price answer old new s h =
    let end = made (put_surpluses old) answer new (repriced good price old.surpluses) h in
    subst (λ (t : Table). with_surplus good (answer) t ≡ Ok (price, old)) (sym end.left)
    (ap (table_change (put_surpluses old)) (reprice_back good price answer old.surpluses end.numbers s.surpluses end.told))
