-- What a history keeps, and when it is the history of a state.
use Rattle.std.specs.Prelude.{◌≡◌, Bool, List, [], ◌∷◌, map, reverse, Result, Ok, refl}
use Rattle.std.specs.Coded.{Coded, code_by, coded×, coded_list}
use Rattle.edit_undo.specs.Edits.{apply_edits, IsEntry, Leads}
use Rattle.edit_undo.specs.Session.{Session}

-- the entries that are done, each with its inverses, and those that are undone
pub record Kept (D I : Type 0) : Type 0 where
  pub done : List (List D × List I)
  pub undone : List (List D)

abbrev pub kept_code : {D I : Type 0} → Coded D → Coded I → Coded (Kept D I)
kept_code {D} {I} d i =
    code_by (List (List D × List I) × List (List D)) (coded× (coded_list (coded× (coded_list d) (coded_list i))) (coded_list (coded_list d)))
    (λ k. (k.done, k.undone)) (λ p. record { done = p.0; undone = p.1 }) (λ _. refl)

-- nothing was done yet
abbrev pub nothing : {D I : Type 0} → Kept D I
nothing = record { done = []; undone = [] }

abbrev pub session_of : {D I : Type 0} → Kept D I → Session D
session_of kept = record { done = map (λ entry. entry.0) kept.done; undone = kept.undone }

-- the entries lead from one state to another, one after another, and their inverses lead back
abbrev pub AllLead : {S D I F : Type 0} → (S → D → Result S F) → (List D → Bool) → (S → List D → List I → S → Type 0) → S → List (List D × List I) → S → Type 0
AllLead effect takes leads_back base [] state = base ≡ state
AllLead effect takes leads_back base (entry ∷ entries) state = (next : _) × Leads effect takes leads_back base entry.0 entry.1 next × AllLead effect takes leads_back next entries state

-- the entries are accepted one after another
abbrev pub AllAccepted : {S D F : Type 0} → (S → D → Result S F) → (List D → Bool) → S → List (List D) → Type 0
AllAccepted effect takes state [] = Unit {0}
AllAccepted effect takes state (entry ∷ entries) = (next : _) × IsEntry takes entry × (apply_edits effect state entry ≡ Ok next) × AllAccepted effect takes next entries

-- What is kept is the history of a state that grew from the base: what is done leads from the base to the state, and
-- what is undone can be done again, the last of it first.
pub record IsHistoryOf {S D I F : Type 0} (effect : S → D → Result S F) (takes : List D → Bool) (leads_back : S → List D → List I → S → Type 0) (kept : Kept D I) (base state : S) : Type 0 where
  pub past : AllLead effect takes leads_back base kept.done state
  pub future : AllAccepted effect takes state (reverse kept.undone)
