-- The active edits: what was done, what was undone, and what each call makes of the two. The form is this project's own.
use Rattle.std.specs.Prelude.{List, [], ◌∷◌, ◌++◌}

-- the entries that are done and those that are undone, each in the order in which they came to stand there
pub record Session (D : Type 0) : Type 0 where
  pub done : List (List D)
  pub undone : List (List D)

-- the edits of entries, in order
abbrev pub edits_of : {D : Type 0} → List (List D) → List D
edits_of [] = []
edits_of (entry ∷ entries) = entry ++ edits_of entries

-- the active edits are those of the entries that are done
abbrev pub active_edits : {D : Type 0} → Session D → List D
active_edits session = edits_of session.done

abbrev pub last_of : {D : Type 0} → List (List D) → List D
last_of [] = []
last_of (entry ∷ []) = entry
last_of (entry ∷ next ∷ entries) = last_of (next ∷ entries)

abbrev pub all_but_last : {D : Type 0} → List (List D) → List (List D)
all_but_last [] = []
all_but_last (entry ∷ []) = []
all_but_last (entry ∷ next ∷ entries) = entry ∷ all_but_last (next ∷ entries)

-- an entry that is accepted comes behind those that are done, and nothing is left to redo
abbrev pub with_entry : {D : Type 0} → Session D → List D → Session D
with_entry session entry = record { done = session.done ++ entry ∷ []; undone = [] }

-- the last of done becomes the last of undone
abbrev pub undo_of : {D : Type 0} → Session D → Session D
undo_of session = record { done = all_but_last session.done; undone = session.undone ++ last_of session.done ∷ [] }

-- the last of undone becomes the last of done
abbrev pub redo_of : {D : Type 0} → Session D → Session D
redo_of session = record { done = session.done ++ last_of session.undone ∷ []; undone = all_but_last session.undone }
