-- What a list of edits does to a state, told by what each edit does. The form is this project's own.
use Rattle.std.specs.Prelude.{◌≡◌, ℕ, Bool, true, ◌+◌, ◌<◌, ◌^◌, List, [], ◌∷◌, length, Result, Ok, Err}
use Rattle.edit_undo.specs.declared.editable.EntryFault.{EntryFault}
use Rattle.edit_undo.specs.declared.editable.EntryFault.TheVariants.{At, NoMemory}

-- on to what comes next with the state, or the place and the fault of the edit that is refused
abbrev pub then_apply : {S F : Type 0} → Result S F → ℕ → (S → Result S (ℕ × F)) → Result S (ℕ × F)
then_apply (Ok s) place next = next s
then_apply (Err fault) place next = Err (place, fault)

-- the edits from a place on, one after another
abbrev pub apply_from : {S D F : Type 0} → (S → D → Result S F) → ℕ → S → List D → Result S (ℕ × F)
apply_from effect place s [] = Ok s
apply_from effect place s (d ∷ ds) = then_apply (effect s d) place (λ t. apply_from effect (place + 1) t ds)

-- The state after the edits in order. If one is refused at its turn: its place, from 0, and its fault.
abbrev pub apply_edits : {S D F : Type 0} → (S → D → Result S F) → S → List D → Result S (ℕ × F)
apply_edits effect s ds = apply_from effect 0 s ds

-- an entry has an edit, its places are numbers of 32 bits, and it is a list that is taken as one
pub record IsEntry {D : Type 0} (takes : List D → Bool) (edits : List D) : Type 0 where
  pub some : 0 < length edits
  pub few : length edits < 2 ^ 32
  pub taken : takes edits ≡ true

-- The entry leads from one state to another, and these inverses of it lead back.
pub record Leads {S D I F : Type 0} (effect : S → D → Result S F) (takes : List D → Bool) (leads_back : S → List D → List I → S → Type 0) (before : S) (edits : List D) (inverses : List I) (after : S) : Type 0 where
  pub entry : IsEntry takes edits
  pub accepted : apply_edits effect before edits ≡ Ok after
  pub back : leads_back after edits inverses before

-- the fault is the one of the first edit that is refused; want of memory has no cause here
abbrev pub IsFaultOf : {S F : Type 0} → Result S (ℕ × F) → EntryFault F → Type 0
IsFaultOf outcome (At place fault) = outcome ≡ Err (place, fault)
IsFaultOf outcome NoMemory = Unit
