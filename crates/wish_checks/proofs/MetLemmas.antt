-- A table meets a wish exactly where each part of it passes, and it has a plan.
use Rattle.std.proofs.Common.{◌≡◌, ℕ, Bool, true, false, List, All, Result, Ok, Err, IfOk, sym, ◌∙◌}
use Rattle.plan_base.specs.declared.text.NoMemory.{NoMemory}
use Rattle.std.specs.Bool.{Decides, OnFalse, OnTrue}
use Rattle.std.proofs.lemmas.Bool.{OnTrue_from, both_ways}
use Rattle.game_types.specs.declared.games.Game.{Game}
use Rattle.production_table.specs.declared.tables.TableRow.{TableRow}
use Rattle.production_table.specs.Tables.{IsSoundTable}
use Rattle.table_rows.specs.Setups.{IsFitting}
use Rattle.wish_setups.proofs.FitLemmas.{decides_all_fitting}
use Rattle.wish_setups.specs.declared.wish.Met.{Met}
use Rattle.wish_setups.specs.declared.wish.Wish.{Wish}
use Rattle.wish_checks.specs.Answers.{IsMet, IsSolvable, are_fitting, columns_of, keeps_form, keeps_table}

-- ---- rows
decides_rows : (g : Game) (rows : List TableRow) → Decides (are_fitting g rows) (All (λ row. IsFitting g row.setup) rows)
decides_rows g rows = decides_all_fitting g (λ row. row.setup) rows

pub fitting_where : (g : Game) (rows : List TableRow) (b : Bool) → b ≡ are_fitting g rows → OnTrue b (All (λ row. IsFitting g row.setup) rows)
fitting_where g rows b e = OnTrue_from b _ (λ t. (decides_rows g rows).0 (sym e ∙ t))

-- ---- a table that meets a wish
met_if : {P Q : Type 0} (b : Bool) → (P → Q) → OnTrue b P → OnTrue b Q
met_if true f h = f h
met_if false f h = tt

met_if_ok : {P Q : Type 0} (r : Result Bool NoMemory) → (P → Q) → IfOk r (λ b. OnTrue b P) → IfOk r (λ b. OnTrue b Q)
met_if_ok (Ok b) f h = met_if b f h
met_if_ok (Err fault) f h = tt

pub met_where : (g : Game) (marks : List Bool) (name : List ℕ) (wish : Wish) (met : Met) (r : Result Bool NoMemory)
    → IsSoundTable met.table
    → All (λ row. IsFitting g row.setup) met.table.rows
    → keeps_form name wish met.table ≡ true
    → keeps_table g marks wish met (columns_of g met.table) ≡ true
    → IfOk r (λ b. OnTrue b (IsSolvable g met.table))
    → IfOk r (λ b. OnTrue b (IsMet g marks name wish met))
met_where g marks name wish met r s f a b h =
    met_if_ok r (λ p. record { sound = s; fits = f; form = a; parts = b; solvable = p }) h

-- ---- a table that doesn't
pub not_fitting : (g : Game) (marks : List Bool) (name : List ℕ) (wish : Wish) (met : Met) → are_fitting g met.table.rows ≡ false → ¬ IsMet g marks name wish met
not_fitting g marks name wish met n = λ h. both_ways (are_fitting g met.table.rows) n ((decides_rows g met.table.rows).1 h.fits)

pub of_other_form : (g : Game) (marks : List Bool) (name : List ℕ) (wish : Wish) (met : Met) → keeps_form name wish met.table ≡ false → ¬ IsMet g marks name wish met
of_other_form g marks name wish met n = λ h. both_ways (keeps_form name wish met.table) n h.form

pub of_other_parts : (g : Game) (marks : List Bool) (name : List ℕ) (wish : Wish) (met : Met) → keeps_table g marks wish met (columns_of g met.table) ≡ false → ¬ IsMet g marks name wish met
of_other_parts g marks name wish met n = λ h. both_ways (keeps_table g marks wish met (columns_of g met.table)) n h.parts

unmet_if : {P Q : Type 0} (b : Bool) → (Q → P) → OnFalse b (¬ P) → OnFalse b (¬ Q)
unmet_if true f h = tt
unmet_if false f h = λ q. h (f q)

pub without_plan : (g : Game) (marks : List Bool) (name : List ℕ) (wish : Wish) (met : Met) (r : Result Bool NoMemory)
    → IfOk r (λ b. OnFalse b (¬ IsSolvable g met.table))
    → IfOk r (λ b. OnFalse b (¬ IsMet g marks name wish met))
without_plan g marks name wish met (Ok b) h = unmet_if b (λ m. m.solvable) h
without_plan g marks name wish met (Err fault) h = tt
