-- When a history does not move.
use Rattle.std.specs.Prelude.{◌≡◌, ℕ, List, [], Result, Err}
use Rattle.edit_undo.specs.declared.history.DoFault.{DoFault}
use Rattle.edit_undo.specs.declared.history.DoFault.TheVariants.{Refused, NothingToUndo, NothingToRedo, NoMemory}

-- new edits: the fault of the first that is refused; want of memory has no cause here
abbrev pub IsFaultOfEdits : {S F : Type 0} → Result S (ℕ × F) → DoFault F → Type 0
IsFaultOfEdits outcome (Refused place fault) = outcome ≡ Err (place, fault)
IsFaultOfEdits outcome NothingToUndo = ⊥
IsFaultOfEdits outcome NothingToRedo = ⊥
IsFaultOfEdits outcome NoMemory = Unit

-- undo: nothing is done
abbrev pub IsFaultOfUndo : {D F : Type 0} → List (List D) → DoFault F → Type 0
IsFaultOfUndo done (Refused place fault) = ⊥
IsFaultOfUndo done NothingToUndo = done ≡ []
IsFaultOfUndo done NothingToRedo = ⊥
IsFaultOfUndo done NoMemory = Unit

-- redo: nothing is undone
abbrev pub IsFaultOfRedo : {D F : Type 0} → List (List D) → DoFault F → Type 0
IsFaultOfRedo undone (Refused place fault) = ⊥
IsFaultOfRedo undone NothingToUndo = ⊥
IsFaultOfRedo undone NothingToRedo = undone ≡ []
IsFaultOfRedo undone NoMemory = Unit
