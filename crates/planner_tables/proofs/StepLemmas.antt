-- What a change makes of one table, and that its part leads back.
use Rattle.std.proofs.Common.{◌≡◌, ◌∙◌, ℕ, suc, ◌<◌, ◌≤◌, List, [], ◌∷◌, ◌++◌, true, false, length, get_or, drop, take, Option, Some, None, Result, Ok, Err, refl, sym, ap, subst, arith}
use Rattle.std.specs.Prelude.{All, if◌then◌else◌, ◌==◌, nat_lt, insert, remove, slice_get, slice_set, position, vec_capacity, vec_len, Vec}
use Rattle.std.specs.Global.{Global}
use Rattle.std.proofs.lemmas.List.Elements.{All-cons, All-head, All-tail, All-push, All-set, All-take, All-drop, All-append, All-get_or}
use Rattle.std.proofs.lemmas.Option.{get_or_from_slice_get}
use Rattle.fractions.specs.Fraction.{Fraction}
use Rattle.plan_base.specs.declared.denied.Denied.{Denied}
use Rattle.plan_base.specs.declared.denied.Denied.TheVariants.{Refused, NoMemory}
use Rattle.plan_base.specs.declared.ids.GoodId.{GoodId}
use Rattle.plan_base.specs.Outcomes.{IsRefused}
use Rattle.plan_base.proofs.Outcomes.{refused_same}
use Rattle.game_types.specs.declared.setups.Setup.{Setup}
use Rattle.game_types.specs.declared.games.Game.{Game}
use Rattle.game_types.specs.Goods.{good_count}
use Rattle.game_types.specs.Steps.{◌▸◌}
use Rattle.table_rows.specs.Setups.{IsFitting, checked_setup}
use Rattle.production_table.specs.declared.faults.TableFault.{TableFault}
use Rattle.production_table.specs.declared.faults.TableFault.TheVariants.{Full, LabelUsed, Negative}
use Rattle.production_table.specs.declared.tables.Table.{Table}
use Rattle.production_table.specs.declared.tables.TableRow.{TableRow}
use Rattle.production_table.specs.Changes.{dropped, in_table, is_used, new_row, place_of, priced, with_import, with_price, with_row, with_surplus, with_want, without_row}
use Rattle.production_table.specs.Numbers.{guard, is_full, number_of, or_nothing, price_fits, put_or_take, repriced, rewanted, want_fits, with_number, without_number}
use Rattle.fractions.specs.Signs.{is_negative}
use Rattle.production_table.specs.Tables.{IsSoundTable, is_label}
use Rattle.production_table.proofs.Found.{no_price, place_is, price_is, some_row}
use Rattle.table_rows.specs.declared.refusals.TableRefusal.{TableRefusal}
use Rattle.table_rows.specs.declared.refusals.TableRefusal.TheVariants.{NoName}
use Rattle.planner_tables.specs.declared.splices.Splice.{Splice}
use Rattle.planner_tables.specs.declared.splices.Splice.TheVariants.{Remove, Insert}
use Rattle.planner_tables.specs.declared.undos.Numbers.TheVariants.{Wants, Imports, Surpluses}
use Rattle.planner_tables.specs.declared.undos.TablePart.TheVariants as part
use Rattle.planner_tables.specs.Effects.{AreGoods, IsSoundOn, table_after}
use Rattle.planner_tables.specs.Causes.{cause, denied_as}
use Rattle.planner_tables.specs.Steps.{MakesTable}
use Rattle.planner_tables.specs.Undoing.{spliced, with_price_at, with_row_price, with_rows}
use Rattle.plan_base.proofs.Places.{put_back}
use Rattle.planner_tables.proofs.SpliceLemmas.{goes_again, comes_again, insert-end}

abbrev Fits : Game → TableRow → Type 0
Fits g row = IsFitting g row.setup

-- ---- tables with other rows
sound_rows : (g : Game) (t u : Table) (rows : List TableRow) → IsSoundOn g t → u ≡ record t { rows = rows } → IsSoundTable u → All (Fits g) rows → IsSoundOn g u
sound_rows g t u rows s e su fits =
    let on : IsSoundOn g (record t { rows = rows }) = record {
      table = subst IsSoundTable e su;
      goods = record { wants = s.goods.wants; imports = s.goods.imports; surpluses = s.goods.surpluses };
      rows = fits;
    } in
    subst (IsSoundOn g) (sym e) on

makes_rows : (g : Game) (t u : Table) (rows : List TableRow) (meant : Result Table TableRefusal) (splice : Splice TableRow) → IsSoundOn g t → meant ≡ Ok u → u ≡ record t { rows = rows } → IsSoundTable u → All (Fits g) rows
    → spliced splice rows ≡ t.rows → MakesTable g meant (part.Rows splice) t u
makes_rows g t u rows meant splice s m e su fits back = record {
  made = m;
  back = ap (with_rows splice) e ∙ ap (λ (rs : List TableRow). (let x : Table = record t { rows = rs } in x)) back;
  name = ap (λ (x : Table). x.name) e;
  sound = sound_rows g t u rows s e su fits;
}

ok_same : {A F : Type 0} (v w : A) → (let r : Result A F = Ok v in r) ≡ Ok w → v ≡ w
ok_same v w h = cc

-- a change that is refused
pub refused_as : {A : Type 0} (meant : Result (A × Table) TableFault) (unknown refusal : TableRefusal) (fault : Denied TableFault) → IsRefused meant fault → denied_as unknown fault ≡ Refused refusal → table_after unknown meant ≡ Err refusal
refused_as meant unknown refusal (Refused fault) h k = ap (table_after unknown) (h fault refl) ∙ ap Err (refused_same (cause unknown fault) refusal k)
refused_as meant unknown refusal NoMemory h k = absurd cc

-- ---- a row more
four : {A F : Type 0} (r s u : Result (Unit {0}) F) (v w : A) → ((r ▸ λ _. s ▸ λ _. u) ▸ λ _. Ok v) ≡ Ok w → v ≡ w
four (Ok a) (Ok b) (Ok d) v w h = cc
four (Err f) s u v w h = absurd (cc)
four (Ok a) (Err f) u v w h = absurd (cc)
four (Ok a) (Ok b) (Err f) v w h = absurd (cc)

row_is : (g : Game) (label : List ℕ) (setup : Setup) (t u : Table) → with_row g label setup t ≡ Ok (tt, u) → u ≡ record t { rows = t.rows ++ new_row label setup ∷ [] }
unfolding with_row
row_is g label setup t u h =
    let new : Unit {0} × Table = (tt, record t { rows = t.rows ++ new_row label setup ∷ [] }) in
    let both : new ≡ (tt, u) = four (guard (is_used t label) LabelUsed) (guard (is_full t.rows) Full) (in_table (checked_setup g setup)) new (tt, u) h in
    sym (ap (λ (p : Unit {0} × Table). p.1) both)

pub row_made : (g : Game) (t u : Table) (label : List ℕ) (setup : Setup) (place : ℕ) (room : Vec TableRow Global) → IsSoundOn g t → IsSoundTable u → IsFitting g setup
    → with_row g label setup t ≡ Ok (tt, u) → place ≡ length t.rows → vec_len room ≡ 0 → place ≤ vec_capacity room
    → MakesTable g (table_after (NoName label) (with_row g label setup t)) (part.Rows (Remove place room)) t u
row_made g t u label setup place room s su fits h e z k =
    let new : TableRow = new_row label setup in
    makes_rows g t u (t.rows ++ new ∷ []) (table_after (NoName label) (with_row g label setup t)) (Remove place room) s (ap (table_after (NoName label)) h) (row_is g label setup t u h) su
    (All-push (Fits g) t.rows new s.rows fits)
    (goes_again t.rows (t.rows ++ new ∷ []) place new room (omega arith) (sym (ap (λ n. insert t.rows n new) e ∙ insert-end t.rows new)) z (omega arith))

-- ---- a row less
drop_case : (t u : Table) (p k : ℕ) (o : Option TableRow) (row : TableRow) → slice_get t.rows p ≡ o → dropped t p o ≡ Ok ((k, row), u) → (slice_get t.rows k ≡ Some row) × (u ≡ record t { rows = remove t.rows k })
drop_case t u p k None row e h = absurd (cc)
drop_case t u p k (Some r) row e h =
    let made : (ℕ × TableRow) × Table = ((p, r), record t { rows = remove t.rows p }) in
    let both : made ≡ ((k, row), u) = ok_same made ((k, row), u) h in
    let place : p ≡ k = ap (λ (x : (ℕ × TableRow) × Table). x.0.0) both in (
      ap (slice_get t.rows) (sym place) ∙ (e ∙ ap (λ (x : (ℕ × TableRow) × Table). Some x.0.1) both),
      sym (ap (λ (x : (ℕ × TableRow) × Table). x.1) both) ∙ ap (λ n. (let x : Table = record t { rows = remove t.rows n } in x)) place,
    )

drop_is : (t u : Table) (label : List ℕ) (k : ℕ) (row : TableRow) → without_row label t ≡ Ok ((k, row), u) → (slice_get t.rows k ≡ Some row) × (u ≡ record t { rows = remove t.rows k })
unfolding without_row
drop_is t u label k row h = drop_case t u (place_of label t.rows) k (slice_get t.rows (place_of label t.rows)) row refl h

pub drop_made : (g : Game) (t u : Table) (label : List ℕ) (place : ℕ) (row : TableRow) (room : Vec TableRow Global) → IsSoundOn g t → IsSoundTable u
    → without_row label t ≡ Ok ((place, row), u) → vec_len room ≡ 0 → length t.rows ≤ vec_capacity room
    → MakesTable g (table_after (NoName label) (without_row label t)) (part.Rows (Insert place row room)) t u
drop_made g t u label place row room s su h z k =
    let is = drop_is t u label place row h in
    makes_rows g t u (remove t.rows place) (table_after (NoName label) (without_row label t)) (Insert place row room) s (ap (table_after (NoName label)) h) is.1 su
    (All-append (Fits g) (take place t.rows) (drop (suc place) t.rows) (All-take (Fits g) place t.rows s.rows) (All-drop (Fits g) (suc place) t.rows s.rows))
    (comes_again t.rows place row room is.0 z k)

-- ---- another price of a row
two : {A F : Type 0} (r : Result (Unit {0}) F) (v w : A) → (r ▸ λ _. Ok v) ≡ Ok w → v ≡ w
two (Ok a) v w h = cc
two (Err f) v w h = absurd (cc)

price_case : (t u : Table) (price old : Fraction) (k : ℕ) (row : TableRow) → priced t price k (Some row) ≡ Ok (old, u) → (row.price ≡ old) × (u ≡ record t { rows = slice_set t.rows k (with_row_price price row) })
price_case t u price old k row h =
    let made : Fraction × Table = (row.price, record t { rows = slice_set t.rows k (with_row_price price row) }) in
    let both : made ≡ (old, u) = two (guard (is_negative price) Negative) made (old, u) h in (ap (λ (p : Fraction × Table). p.0) both, sym (ap (λ (p : Fraction × Table). p.1) both))

same_price : (row : TableRow) (price old : Fraction) → row.price ≡ old → with_row_price old (with_row_price price row) ≡ row
same_price row price old e = ap (λ (p : Fraction). with_row_price p row) (sym e)

pub price_made : (g : Game) (t u : Table) (label : List ℕ) (price old : Fraction) (place : ℕ) → IsSoundOn g t → IsSoundTable u → position (is_label label) t.rows ≡ Some place
    → with_price label price t ≡ Ok (old, u) → MakesTable g (table_after (NoName label) (with_price label price t)) (part.Price place old) t u
price_made g t u label price old place s su at h =
    let there = place_is label t.rows place at in
    let found = some_row t.rows place there.1 in
    let row : TableRow = found.0 in
    let is = price_case t u price old place row (sym (price_is t label price place row at found.1) ∙ h) in
    let new : TableRow = with_row_price price row in
    let same : row ≡ get_or t.rows place row = sym (get_or_from_slice_get t.rows place row row found.1) in
    let fits : Fits g row = subst (Fits g) (sym same) (All-get_or (Fits g) t.rows place row there.1 s.rows) in
    record {
      made = ap (table_after (NoName label)) h;
      back = ap (with_price_at place old) is.1 ∙ ap (λ (rs : List TableRow). (let x : Table = record t { rows = rs } in x)) (put_back (with_row_price old) place t.rows row new there.1 (same_price row price old is.0 ∙ same));
      name = ap (λ (x : Table). x.name) is.1;
      sound = sound_rows g t u (slice_set t.rows place new) s is.1 su (All-set (Fits g) t.rows place new fits s.rows);
    }

pub price_unknown : (t : Table) (label : List ℕ) (price : Fraction) → position (is_label label) t.rows ≡ None → table_after (NoName label) (with_price label price t) ≡ Err (NoName label)
price_unknown t label price h = ap (table_after (NoName label)) (no_price t label price h)

-- ---- other numbers of goods
module _ (P : GoodId × Fraction → Type 0) where
  number_put : (good : GoodId) (number : Fraction) (pairs : List (GoodId × Fraction)) → P (good, number) → All P pairs → All P (with_number good number pairs)
  unfolding with_number
  number_put good number [] h hs = All-cons P (good, number) [] h hs
  number_put good number (p ∷ ps) h hs =
      elim (nat_lt good.0 p.0.0) as (λ b. All P (if b then (good, number) ∷ p ∷ ps else if p.0.0 == good.0 then (good, number) ∷ ps else p ∷ with_number good number ps)) [
        | true ↦ All-cons P (good, number) (p ∷ ps) h hs
        | false ↦ elim (p.0.0 == good.0) as (λ b. All P (if b then (good, number) ∷ ps else p ∷ with_number good number ps)) [
          | true ↦ All-cons P (good, number) ps h (All-tail P p ps hs)
          | false ↦ All-cons P p (with_number good number ps) (All-head P p ps hs) (number_put good number ps h (All-tail P p ps hs))
        ]
      ]

  number_taken : (good : GoodId) (pairs : List (GoodId × Fraction)) → All P pairs → All P (without_number good pairs)
  unfolding without_number
  number_taken good [] hs = hs
  number_taken good (p ∷ ps) hs =
      elim (p.0.0 == good.0) as (λ b. All P (if b then ps else p ∷ without_number good ps)) [
        | true ↦ All-tail P p ps hs
        | false ↦ All-cons P p (without_number good ps) (All-head P p ps hs) (number_taken good ps (All-tail P p ps hs))
      ]

goods_after : (g : Game) (good : GoodId) (number : Option Fraction) (pairs : List (GoodId × Fraction)) → good.0 < good_count g → AreGoods g pairs → AreGoods g (put_or_take good number pairs)
goods_after g good None pairs h hs = number_taken (λ pair. pair.0.0 < good_count g) good pairs hs
goods_after g good (Some number) pairs h hs = number_put (λ pair. pair.0.0 < good_count g) good number pairs h hs

abbrev Pairs : Type 0
Pairs = List (GoodId × Fraction)

passed : {A B F : Type 0} (r : Result (Unit {0}) F) (v : A) (f : A → B) (w : B) → ((r ▸ λ _. Ok v) ▸ λ x. Ok (f x)) ≡ Ok w → f v ≡ w
passed (Ok a) v f w h = ok_same (f v) w h
passed (Err e) v f w h = absurd (cc)

want_is : (t u : Table) (good : GoodId) (rate : Fraction) (old : Option Fraction) → with_want good rate t ≡ Ok (old, u) → u ≡ record t { wants = put_or_take good (or_nothing rate) t.wants }
unfolding with_want rewanted
want_is t u good rate old h =
    let made : Option Fraction × Pairs = (number_of t.wants good, put_or_take good (or_nothing rate) t.wants) in
    let both : (made.0, (let x : Table = record t { wants = made.1 } in x)) ≡ (old, u) = passed (want_fits t.wants good rate) made (λ both. (both.0, (let x : Table = record t { wants = both.1 } in x))) (old, u) h in
    sym (ap (λ (p : Option Fraction × Table). p.1) both)

import_is : (t u : Table) (good : GoodId) (price : Option Fraction) (old : Option Fraction) → with_import good price t ≡ Ok (old, u) → u ≡ record t { imports = put_or_take good price t.imports }
unfolding with_import repriced
import_is t u good price old h =
    let made : Option Fraction × Pairs = (number_of t.imports good, put_or_take good price t.imports) in
    let both : (made.0, (let x : Table = record t { imports = made.1 } in x)) ≡ (old, u) = passed (price_fits t.imports good price) made (λ both. (both.0, (let x : Table = record t { imports = both.1 } in x))) (old, u) h in
    sym (ap (λ (p : Option Fraction × Table). p.1) both)

surplus_is : (t u : Table) (good : GoodId) (price : Option Fraction) (old : Option Fraction) → with_surplus good price t ≡ Ok (old, u) → u ≡ record t { surpluses = put_or_take good price t.surpluses }
unfolding with_surplus repriced
surplus_is t u good price old h =
    let made : Option Fraction × Pairs = (number_of t.surpluses good, put_or_take good price t.surpluses) in
    let both : (made.0, (let x : Table = record t { surpluses = made.1 } in x)) ≡ (old, u) = passed (price_fits t.surpluses good price) made (λ both. (both.0, (let x : Table = record t { surpluses = both.1 } in x))) (old, u) h in
    sym (ap (λ (p : Option Fraction × Table). p.1) both)

pub want_made : (g : Game) (t u : Table) (unknown : TableRefusal) (good : GoodId) (rate : Fraction) (old : Option Fraction) (numbers : Pairs) → IsSoundOn g t → IsSoundTable u → good.0 < good_count g → numbers ≡ t.wants
    → with_want good rate t ≡ Ok (old, u) → MakesTable g (table_after unknown (with_want good rate t)) (part.Goods Wants numbers) t u
want_made g t u unknown good rate old numbers s su below e h =
    let new : Pairs = put_or_take good (or_nothing rate) t.wants in
    let is = want_is t u good rate old h in
    let on : IsSoundOn g (record t { wants = new }) = record {
      table = subst IsSoundTable is su;
      goods = record { wants = goods_after g good (or_nothing rate) t.wants below s.goods.wants; imports = s.goods.imports; surpluses = s.goods.surpluses };
      rows = s.rows;
    } in
    record {
      made = ap (table_after unknown) h;
      back = ap (λ (x : Table). (let y : Table = record x { wants = numbers } in y)) is ∙ ap (λ (ns : Pairs). (let y : Table = record t { wants = ns } in y)) e;
      name = ap (λ (x : Table). x.name) is;
      sound = subst (IsSoundOn g) (sym is) on;
    }

pub import_made : (g : Game) (t u : Table) (unknown : TableRefusal) (good : GoodId) (price old : Option Fraction) (numbers : Pairs) → IsSoundOn g t → IsSoundTable u → good.0 < good_count g → numbers ≡ t.imports
    → with_import good price t ≡ Ok (old, u) → MakesTable g (table_after unknown (with_import good price t)) (part.Goods Imports numbers) t u
import_made g t u unknown good price old numbers s su below e h =
    let new : Pairs = put_or_take good price t.imports in
    let is = import_is t u good price old h in
    let on : IsSoundOn g (record t { imports = new }) = record {
      table = subst IsSoundTable is su;
      goods = record { wants = s.goods.wants; imports = goods_after g good price t.imports below s.goods.imports; surpluses = s.goods.surpluses };
      rows = s.rows;
    } in
    record {
      made = ap (table_after unknown) h;
      back = ap (λ (x : Table). (let y : Table = record x { imports = numbers } in y)) is ∙ ap (λ (ns : Pairs). (let y : Table = record t { imports = ns } in y)) e;
      name = ap (λ (x : Table). x.name) is;
      sound = subst (IsSoundOn g) (sym is) on;
    }

pub surplus_made : (g : Game) (t u : Table) (unknown : TableRefusal) (good : GoodId) (price old : Option Fraction) (numbers : Pairs) → IsSoundOn g t → IsSoundTable u → good.0 < good_count g → numbers ≡ t.surpluses
    → with_surplus good price t ≡ Ok (old, u) → MakesTable g (table_after unknown (with_surplus good price t)) (part.Goods Surpluses numbers) t u
surplus_made g t u unknown good price old numbers s su below e h =
    let new : Pairs = put_or_take good price t.surpluses in
    let is = surplus_is t u good price old h in
    let on : IsSoundOn g (record t { surpluses = new }) = record {
      table = subst IsSoundTable is su;
      goods = record { wants = s.goods.wants; imports = s.goods.imports; surpluses = goods_after g good price t.surpluses below s.goods.surpluses };
      rows = s.rows;
    } in
    record {
      made = ap (table_after unknown) h;
      back = ap (λ (x : Table). (let y : Table = record x { surpluses = numbers } in y)) is ∙ ap (λ (ns : Pairs). (let y : Table = record t { surpluses = ns } in y)) e;
      name = ap (λ (x : Table). x.name) is;
      sound = subst (IsSoundOn g) (sym is) on;
    }
