-- Refusals, as they come from the crates below.
use Rattle.std.specs.Prelude.{ℕ}
use Rattle.plan_base.specs.declared.denied.Denied.TheVariants.{Refused, NoMemory}
use Rattle.plan_base.specs.declared.denied.Denied.{Denied}
use Rattle.data_edit.specs.declared.edits.EditFault.{EditFault}
use Rattle.milestone_masks.specs.declared.worlds.MilestoneFault.{MilestoneFault}
use Rattle.milestone_masks.specs.declared.worlds.MilestoneFault.TheVariants as of_milestone
use Rattle.edit_undo.specs.declared.editable.EntryFault.{EntryFault}
use Rattle.edit_undo.specs.declared.editable.EntryFault.TheVariants as entry
use Rattle.table_rows.specs.declared.refusals.TableRefusal.{TableRefusal}
use Rattle.state_changes.specs.declared.refusals.Refusal.{Refusal}
use Rattle.state_changes.specs.declared.refusals.Refusal.TheVariants.{OfEdit, OfMilestone, OfTables}

abbrev pub entry_fault : ℕ → Denied Refusal → EntryFault Refusal
entry_fault place (Refused refusal) = entry.At place refusal
entry_fault place NoMemory = entry.NoMemory

abbrev pub edit_fault : Denied EditFault → Denied Refusal
edit_fault (Refused fault) = Refused (OfEdit fault)
edit_fault NoMemory = NoMemory

abbrev pub milestone_fault : MilestoneFault → Denied Refusal
milestone_fault of_milestone.NoMemory = NoMemory
milestone_fault fault = Refused (OfMilestone fault)

abbrev pub tables_fault : Denied TableRefusal → Denied Refusal
tables_fault (Refused refusal) = Refused (OfTables refusal)
tables_fault NoMemory = NoMemory
