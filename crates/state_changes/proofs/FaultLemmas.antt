-- Faults of entries.
use Rattle.std.proofs.Common.{◌≡◌, ℕ, Result, Err, refl, subst}
use Rattle.plan_base.specs.declared.denied.Denied.TheVariants.{Refused, NoMemory}
use Rattle.plan_base.specs.Outcomes.{IsRefused}
use Rattle.plan_base.specs.declared.denied.Denied.{Denied}
use Rattle.data_edit.specs.declared.edits.EditFault.{EditFault}
use Rattle.edit_undo.specs.Edits.{IsFaultOf}
use Rattle.table_rows.specs.declared.refusals.TableRefusal.{TableRefusal}
use Rattle.state_changes.specs.declared.refusals.Refusal.{Refusal}
use Rattle.state_changes.specs.declared.refusals.Refusal.TheVariants.{OfEdit, OfTables}
use Rattle.state_changes.specs.Faults.{edit_fault, entry_fault, tables_fault}

pub is-fault : {S : Type 0} (outcome : Result S (ℕ × Refusal)) (place : ℕ) (fault : Denied Refusal) → ((refusal : Refusal) → fault ≡ Refused refusal → outcome ≡ Err (place, refusal)) → IsFaultOf outcome (entry_fault place fault)
is-fault outcome place (Refused refusal) h = h refusal refl
is-fault outcome place NoMemory h = tt

pub of-edit : {A : Type 0} (outcome : Result A EditFault) (result : (Refusal → Type 0)) (fault : Denied EditFault) → IsRefused outcome fault → ((f : EditFault) → outcome ≡ Err f → result (OfEdit f)) → (refusal : Refusal) → edit_fault fault ≡ Refused refusal → result refusal
of-edit outcome result (Refused f) h k refusal e = let same : OfEdit f ≡ refusal = cc in subst result same (k f (h f refl))
of-edit outcome result NoMemory h k refusal e = absurd cc

pub of-tables : (fault : Denied TableRefusal) (result : (Refusal → Type 0)) → ((r : TableRefusal) → fault ≡ Refused r → result (OfTables r)) → (refusal : Refusal) → tables_fault fault ≡ Refused refusal → result refusal
of-tables (Refused r) result h refusal e = let same : OfTables r ≡ refusal = cc in subst result same (h r refl)
of-tables NoMemory result h refusal e = absurd cc
