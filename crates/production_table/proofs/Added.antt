-- A row that comes in.
use Rattle.std.proofs.Common.{◌≡◌, ◌∙◌, ◌<◌, ◌++◌, ℕ, List, [], ◌∷◌, length, refl, sym, ap, subst, arith}
use Rattle.std.specs.Prelude.{Bool, true, false, not, nat_lt, Result, Ok, Err}
use Rattle.std.specs.List.{insert}
use Rattle.std.proofs.lemmas.Bool.Decides.{nat_tests}
use Rattle.plan_base.specs.declared.denied.Denied.{Denied}
use Rattle.plan_base.specs.declared.denied.Denied.TheVariants.{Refused}
use Rattle.plan_base.proofs.Outcomes.{is_refused}
use Rattle.fractions.specs.Fraction.{zero_fraction}
use Rattle.fractions.proofs.Order.{≤ʳ_refl}
use Rattle.game_types.specs.declared.setups.Setup.{Setup}
use Rattle.game_types.specs.declared.games.Game.{Game}
use Rattle.game_types.specs.Steps.{◌▸◌}
use Rattle.table_rows.specs.declared.faults.SetupFault.{SetupFault}
use Rattle.table_rows.specs.Setups.{checked_setup}
use Rattle.production_table.specs.declared.faults.TableFault.{TableFault}
use Rattle.production_table.specs.declared.faults.TableFault.TheVariants.{Full, LabelUsed}
use Rattle.production_table.specs.declared.tables.Table.{Table}
use Rattle.production_table.specs.declared.tables.TableRow.{TableRow}
use Rattle.production_table.specs.Changes.{in_table, is_used, new_row, row_fits, with_row, ChangesInMemory}
use Rattle.production_table.specs.Numbers.{guard, is_full}
use Rattle.production_table.specs.Tables.{IsSoundTable}
use Rattle.production_table.proofs.Sound.{sound_push}

-- what is known of a row that can come in
pub record IsNew (g : Game) (label : List ℕ) (setup : Setup) (t : Table) : Type 0 where
  pub label_new : is_used t label ≡ false
  pub room : length t.rows < 512
  pub fits : checked_setup g setup ≡ Ok tt

spare : (n : ℕ) (b : Bool) → nat_lt n 512 ≡ b → not b ≡ false → n < 512
spare n true h e = grind (arith, nat_tests)
spare n false h e = absurd (cc)

three : (b c : Bool) (r : Result (Unit {0}) SetupFault) → (guard b LabelUsed ▸ λ _. guard c Full ▸ λ _. in_table r) ≡ Ok tt → (b ≡ false) × (c ≡ false) × (r ≡ Ok tt)
three false false (Ok fine) h = (refl, refl, refl)
three false false (Err fault) h = absurd (cc)
three false true r h = absurd (cc)
three true c r h = absurd (cc)

pub new_is : (g : Game) (label : List ℕ) (setup : Setup) (t : Table) → row_fits g label setup t ≡ Ok tt → IsNew g label setup t
new_is g label setup t h =
    let all = three (is_used t label) (is_full t.rows) (checked_setup g setup) h in
    record { label_new = all.0; room = spare (length t.rows) (nat_lt (length t.rows) 512) refl all.1; fits = all.2 }

pub added_fault : (g : Game) (label : List ℕ) (setup : Setup) (t : Table) (fault : TableFault) (r : Result (Unit {0}) (Denied TableFault)) → r ≡ Err (Refused fault) → row_fits g label setup t ≡ Err fault → ChangesInMemory (with_row g label setup t) r t t
unfolding with_row
added_fault g label setup t fault r e h =
    subst (λ (s : Result (Unit {0}) (Denied TableFault)). ChangesInMemory (with_row g label setup t) s t t) (sym e)
    (is_refused (with_row g label setup t) fault (ap (λ (o : Result (Unit {0}) TableFault). o ▸ λ _. Ok (tt, record t { rows = t.rows ++ new_row label setup ∷ [] })) h), refl)

at_end : (rows : List TableRow) (row : TableRow) → insert rows (length rows) row ≡ rows ++ row ∷ []
at_end [] row = refl
at_end (x ∷ rows) row = ap (λ (ys : List TableRow). x ∷ ys) (at_end rows row)

pub added_rows : (t : Table) (rows : List TableRow) (n : ℕ) (row new : TableRow) → n ≡ length t.rows → row ≡ new → rows ≡ insert t.rows n row → rows ≡ t.rows ++ new ∷ []
added_rows t rows n row new e f h = h ∙ ap (λ k. insert t.rows k row) e ∙ ap (λ (r : TableRow). insert t.rows (length t.rows) r) f ∙ at_end t.rows new

pub added_is : (g : Game) (label : List ℕ) (setup : Setup) (t : Table) (rows : List TableRow) → row_fits g label setup t ≡ Ok tt → rows ≡ t.rows ++ new_row label setup ∷ [] → with_row g label setup t ≡ Ok (tt, record t { rows = rows })
unfolding with_row
added_is g label setup t rows h e =
    ap (λ (o : Result (Unit {0}) TableFault). o ▸ λ _. Ok (tt, record t { rows = t.rows ++ new_row label setup ∷ [] })) h
    ∙ ap (λ (rs : List TableRow). let both : Unit {0} × Table = (tt, record t { rows = rs }) in Ok both) (sym e)

pub added_sound : (g : Game) (label : List ℕ) (setup : Setup) (t : Table) (rows : List TableRow) → row_fits g label setup t ≡ Ok tt → rows ≡ t.rows ++ new_row label setup ∷ [] → IsSoundTable t → IsSoundTable (record t { rows = rows })
added_sound g label setup t rows h e s =
    let new = new_is g label setup t h in
    subst (λ (rs : List TableRow). IsSoundTable (record t { rows = rs })) (sym e) (sound_push t (new_row label setup) s new.label_new new.room (≤ʳ_refl zero_fraction))
