-- What the moves of a history keep.
use Rattle.std.specs.Prelude.{◌≡◌, ℕ, ◌+◌, ◌<◌, Bool, List, [], ◌∷◌, ◌++◌, map, reverse, Result, Ok, Err, length}
use Rattle.std.proofs.Common.{refl, sym, ap, subst, ◌∙◌, arith}
use Rattle.std.proofs.lemmas.List.{reverse-append}
use Rattle.edit_undo.specs.Edits.{then_apply, apply_from, apply_edits, Leads}
use Rattle.edit_undo.specs.Session.{Session, edits_of, active_edits, last_of, all_but_last, with_entry, undo_of, redo_of}
use Rattle.edit_undo.specs.Kept.{Kept, nothing, session_of, AllLead, AllAccepted, IsHistoryOf}

-- ---- lists
pub last-push : {D : Type 0} (entries : List (List D)) (entry : List D) → last_of (entries ++ entry ∷ []) ≡ entry
last-push [] entry = refl
last-push (e ∷ []) entry = refl
last-push (e ∷ f ∷ es) entry = last-push (f ∷ es) entry

pub front-push : {D : Type 0} (entries : List (List D)) (entry : List D) → all_but_last (entries ++ entry ∷ []) ≡ entries
front-push [] entry = refl
front-push (e ∷ []) entry = refl
front-push (e ∷ f ∷ es) entry = ap (λ l. e ∷ l) (front-push (f ∷ es) entry)

pub edits-push : {D I : Type 0} (done : List (List D × List I)) (entry : List D × List I) → map (λ e. e.0) (done ++ entry ∷ []) ≡ map (λ e. e.0) done ++ entry.0 ∷ []
edits-push [] entry = refl
edits-push (e ∷ es) entry = ap (λ l. e.0 ∷ l) (edits-push es entry)

-- ---- the past
pub lead_more : {S D I F : Type 0} (effect : S → D → Result S F) (takes : List D → Bool) (back : S → List D → List I → S → Type 0) (base : S) (done : List (List D × List I)) (state : S) (entry : List D × List I) (after : S) → AllLead effect takes back base done state → Leads effect takes back state entry.0 entry.1 after → AllLead effect takes back base (done ++ entry ∷ []) after
lead_more effect takes back base [] state entry after e h = (after, subst (λ s. Leads effect takes back s entry.0 entry.1 after) (sym e) h, refl)
lead_more effect takes back base (first ∷ done) state entry after a h = (a.0, a.1, lead_more effect takes back a.0 done state entry after a.2 h)

pub record LeadsLast {S D I F : Type 0} (effect : S → D → Result S F) (takes : List D → Bool) (back : S → List D → List I → S → Type 0) (base : S) (done : List (List D × List I)) (entry : List D × List I) (state : S) : Type 0 where
  pub before : S
  pub past : AllLead effect takes back base done before
  pub last : Leads effect takes back before entry.0 entry.1 state

pub lead_less : {S D I F : Type 0} (effect : S → D → Result S F) (takes : List D → Bool) (back : S → List D → List I → S → Type 0) (base : S) (done : List (List D × List I)) (entry : List D × List I) (state : S) → AllLead effect takes back base (done ++ entry ∷ []) state → LeadsLast effect takes back base done entry state
lead_less effect takes back base [] entry state a = record { before = base; past = refl; last = subst (λ s. Leads effect takes back base entry.0 entry.1 s) a.2 a.1 }
lead_less effect takes back base (first ∷ done) entry state a =
    let l : LeadsLast effect takes back a.0 done entry state = lead_less effect takes back a.0 done entry state a.2 in
    record { before = l.before; past = (a.0, a.1, l.past); last = l.last }

-- ---- edits of several entries
then_known : {S F : Type 0} (r : Result S F) (place other : ℕ) (f g : S → Result S (ℕ × F)) (state : S) → ((t : S) → f t ≡ Ok state → g t ≡ Ok state) → then_apply r place f ≡ Ok state → then_apply r other g ≡ Ok state
then_known (Ok t) place other f g state h e = h t e
then_known (Err fault) place other f g state h e = cc

-- that edits are accepted doesn't depend on the place of the first
place_free : {S D F : Type 0} (effect : S → D → Result S F) (place other : ℕ) (s : S) (ds : List D) (t : S) → apply_from effect place s ds ≡ Ok t → apply_from effect other s ds ≡ Ok t
place_free effect place other s [] t e = e
place_free effect place other s (d ∷ ds) t e = then_known (effect s d) place other _ _ t (λ u h. place_free effect (place + 1) (other + 1) u ds t h) e

then_both : {S F : Type 0} (r : Result S F) (place : ℕ) (f g : S → Result S (ℕ × F)) (mid state : S) → ((t : S) → f t ≡ Ok mid → g t ≡ Ok state) → then_apply r place f ≡ Ok mid → then_apply r place g ≡ Ok state
then_both (Ok t) place f g mid state h e = h t e
then_both (Err fault) place f g mid state h e = cc

on_append : {S D F : Type 0} (effect : S → D → Result S F) (place other : ℕ) (s : S) (ds es : List D) (mid t : S) → apply_from effect place s ds ≡ Ok mid → apply_from effect other mid es ≡ Ok t → apply_from effect place s (ds ++ es) ≡ Ok t
on_append effect place other s [] es mid t e h = let same : s ≡ mid = cc in place_free effect other place s es t (subst (λ m. apply_from effect other m es ≡ Ok t) (sym same) h)
on_append effect place other s (d ∷ ds) es mid t e h = then_both (effect s d) place _ _ mid t (λ u k. on_append effect (place + 1) other u ds es mid t k h) e

-- the state is the base with the active edits applied
pub active : {S D I F : Type 0} (effect : S → D → Result S F) (takes : List D → Bool) (back : S → List D → List I → S → Type 0) (base : S) (done : List (List D × List I)) (state : S) → AllLead effect takes back base done state → apply_edits effect base (edits_of (map (λ e. e.0) done)) ≡ Ok state
active effect takes back base [] state e = ap Ok e
active effect takes back base (entry ∷ done) state a = on_append effect 0 0 base entry.0 (edits_of (map (λ e. e.0) done)) a.0 state a.1.accepted (active effect takes back a.0 done state a.2)

-- ---- the three moves
pub history_more : {S D I F : Type 0} (effect : S → D → Result S F) (takes : List D → Bool) (back : S → List D → List I → S → Type 0) (kept : Kept D I) (base state after : S) (edits kept_edits : List D) (inverses kept_inverses : List I) (room done : List (List D × List I)) (undone : List (List D)) → done ≡ room ++ (kept_edits, kept_inverses) ∷ [] → room ≡ kept.done → kept_edits ≡ edits → kept_inverses ≡ inverses → undone ≡ [] → Leads effect takes back state edits inverses after → IsHistoryOf effect takes back kept base state → IsHistoryOf effect takes back (record { done = done; undone = undone }) base after
history_more effect takes back kept base state after edits kept_edits inverses kept_inverses room done undone e r p q f l h = record {
  past = subst (λ d. AllLead effect takes back base d after) (sym same) (lead_more effect takes back base kept.done state (edits, inverses) after h.past l);
  future = subst (λ u. AllAccepted effect takes after (reverse u)) (sym f) tt;
}
  where
    same : done ≡ kept.done ++ (edits, inverses) ∷ []
    same = e ∙ (ap (λ d. d ++ (kept_edits, kept_inverses) ∷ []) r ∙ (ap (λ d. kept.done ++ (d, kept_inverses) ∷ []) p ∙ ap (λ d. kept.done ++ (edits, d) ∷ []) q))

pub history_less : {S D I F : Type 0} (effect : S → D → Result S F) (takes : List D → Bool) (back : S → List D → List I → S → Type 0) (kept : Kept D I) (base state after : S) (edits : List D) (inverses : List I) (rest : List (List D × List I)) (undone : List (List D)) → kept.done ≡ rest ++ (edits, inverses) ∷ [] → undone ≡ kept.undone ++ edits ∷ [] → ((before : S) → Leads effect takes back before edits inverses state → after ≡ before) → IsHistoryOf effect takes back kept base state → IsHistoryOf effect takes back (record { done = rest; undone = undone }) base after
history_less effect takes back kept base state after edits inverses rest undone e f r h =
    let l : LeadsLast effect takes back base rest (edits, inverses) state = lead_less effect takes back base rest (edits, inverses) state (subst (λ d. AllLead effect takes back base d state) e h.past) in
    let same : l.before ≡ after = sym (r l.before l.last) in
    record {
      past = subst (λ s. AllLead effect takes back base rest s) same l.past;
      future = subst (λ u. AllAccepted effect takes after u) (sym (ap reverse f ∙ reverse-append kept.undone (edits ∷ []))) (state, l.last.entry, subst (λ s. apply_edits effect s edits ≡ Ok state) same l.last.accepted, h.future);
    }

-- what the last entry that is done needs
pub can_undo : {S D I F : Type 0} (effect : S → D → Result S F) (takes : List D → Bool) (back : S → List D → List I → S → Type 0) (kept : Kept D I) (state : S) (edits : List D) (inverses : List I) (rest : List (List D × List I)) → kept.done ≡ rest ++ (edits, inverses) ∷ [] → ((base : S) × IsHistoryOf effect takes back kept base state) → (before : S) × Leads effect takes back before edits inverses state
can_undo effect takes back kept state edits inverses rest e h =
    let l : LeadsLast effect takes back h.0 rest (edits, inverses) state = lead_less effect takes back h.0 rest (edits, inverses) state (subst (λ d. AllLead effect takes back h.0 d state) e h.1.past) in
    (l.before, l.last)

-- what the last entry that is undone needs
pub can_redo : {S D I F : Type 0} (effect : S → D → Result S F) (takes : List D → Bool) (back : S → List D → List I → S → Type 0) (kept : Kept D I) (base state : S) (edits : List D) (rest : List (List D)) → kept.undone ≡ rest ++ edits ∷ [] → IsHistoryOf effect takes back kept base state → AllAccepted effect takes state (edits ∷ reverse rest)
can_redo effect takes back kept base state edits rest e h = subst (λ u. AllAccepted effect takes state u) (ap reverse e ∙ reverse-append rest (edits ∷ [])) h.future

pub history_again : {S D I F : Type 0} (effect : S → D → Result S F) (takes : List D → Bool) (back : S → List D → List I → S → Type 0) (kept : Kept D I) (base state after : S) (edits : List D) (inverses kept_inverses : List I) (done : List (List D × List I)) (rest : List (List D)) → kept.undone ≡ rest ++ edits ∷ [] → done ≡ kept.done ++ (edits, kept_inverses) ∷ [] → kept_inverses ≡ inverses → Leads effect takes back state edits inverses after → IsHistoryOf effect takes back kept base state → IsHistoryOf effect takes back (record { done = done; undone = rest }) base after
history_again effect takes back kept base state after edits inverses kept_inverses done rest e f q l h =
    let a : AllAccepted effect takes state (edits ∷ reverse rest) = can_redo effect takes back kept base state edits rest e h in
    record {
      past = subst (λ d. AllLead effect takes back base d after) (sym (f ∙ ap (λ i. kept.done ++ (edits, i) ∷ []) q)) (lead_more effect takes back base kept.done state (edits, inverses) after h.past l);
      future = subst (λ s. AllAccepted effect takes s (reverse rest)) (one_outcome (apply_edits effect state edits) a.0 after a.2 l.accepted) a.3;
    }
  where
    one_outcome : {S F : Type 0} (r : Result S F) (s t : S) → r ≡ Ok s → r ≡ Ok t → s ≡ t
    one_outcome r s t e f = cc

-- ---- the sessions after undo and redo, and the entry that moves
pub last_done : {D I : Type 0} (kept : Kept D I) (edits : List D) (inverses : List I) (rest : List (List D × List I)) → kept.done ≡ rest ++ (edits, inverses) ∷ [] → last_of (session_of kept).done ≡ edits
last_done kept edits inverses rest e = ap (λ d. last_of (map (λ x. x.0) d)) e ∙ (ap last_of (edits-push rest (edits, inverses)) ∙ last-push (map (λ x. x.0) rest) edits)

pub last_undone : {D I : Type 0} (kept : Kept D I) (edits : List D) (rest : List (List D)) → kept.undone ≡ rest ++ edits ∷ [] → last_of (session_of kept).undone ≡ edits
last_undone kept edits rest e = ap last_of e ∙ last-push rest edits

same_session : {D : Type 0} (a b c d : List (List D)) → a ≡ c → b ≡ d → (let x : Session D = record { done = a; undone = b } in x) ≡ (let y : Session D = record { done = c; undone = d } in y)
same_session a b c d e f = cc

pub session_less : {D I : Type 0} (kept : Kept D I) (edits : List D) (inverses : List I) (rest : List (List D × List I)) (undone : List (List D)) → kept.done ≡ rest ++ (edits, inverses) ∷ [] → undone ≡ kept.undone ++ edits ∷ [] → session_of (record { done = rest; undone = undone }) ≡ undo_of (session_of kept)
session_less kept edits inverses rest undone e f =
    same_session (map (λ x. x.0) rest) undone _ _
    (sym (ap (λ d. all_but_last (map (λ x. x.0) d)) e ∙ (ap all_but_last (edits-push rest (edits, inverses)) ∙ front-push (map (λ x. x.0) rest) edits)))
    (f ∙ ap (λ l. kept.undone ++ l ∷ []) (sym (last_done kept edits inverses rest e)))

pub session_again : {D I : Type 0} (kept : Kept D I) (edits : List D) (inverses : List I) (done : List (List D × List I)) (rest : List (List D)) → kept.undone ≡ rest ++ edits ∷ [] → done ≡ kept.done ++ (edits, inverses) ∷ [] → session_of (record { done = done; undone = rest }) ≡ redo_of (session_of kept)
session_again kept edits inverses done rest e f =
    same_session (map (λ x. x.0) done) rest _ _
    (ap (map (λ x. x.0)) f ∙ (edits-push kept.done (edits, inverses) ∙ ap (λ l. map (λ x. x.0) kept.done ++ l ∷ []) (sym (last_undone kept edits rest e))))
    (sym (ap all_but_last e ∙ front-push rest edits))

-- ---- laws
pub history_first : {S D I F : Type 0} (effect : S → D → Result S F) (takes : List D → Bool) (back : S → List D → List I → S → Type 0) (base : S) → IsHistoryOf {I = I} effect takes back nothing base base
history_first effect takes back base = record { past = refl; future = tt }

pub history_active : {S D I F : Type 0} (effect : S → D → Result S F) (takes : List D → Bool) (back : S → List D → List I → S → Type 0) (kept : Kept D I) (base state : S) → IsHistoryOf effect takes back kept base state → apply_edits effect base (active_edits (session_of kept)) ≡ Ok state
history_active effect takes back kept base state h = active effect takes back base kept.done state h.past

pub history_same : {S D I F : Type 0} (effect : S → D → Result S F) (takes : List D → Bool) (back : S → List D → List I → S → Type 0) (kept other : Kept D I) (base state changed : S) → IsHistoryOf effect takes back kept base state → IsHistoryOf effect takes back other base changed → (session_of kept).done ≡ (session_of other).done → state ≡ changed
history_same effect takes back kept other base state changed h k e =
    let first : apply_edits effect base (active_edits (session_of kept)) ≡ Ok state = history_active effect takes back kept base state h in
    let second : apply_edits effect base (active_edits (session_of other)) ≡ Ok changed = history_active effect takes back other base changed k in
    let both : apply_edits effect base (active_edits (session_of kept)) ≡ apply_edits effect base (active_edits (session_of other)) = ap (λ d. apply_edits effect base (edits_of d)) e in
    one_state (sym first ∙ (both ∙ second))
  where
    one_state : {S P : Type 0} {s t : S} → (let a : Result S P = Ok s in a) ≡ (let b : Result S P = Ok t in b) → s ≡ t
    one_state e = cc

front-last : {D : Type 0} (entries : List (List D)) → 0 < length entries → all_but_last entries ++ last_of entries ∷ [] ≡ entries
front-last [] h = absurd (omega arith)
front-last (e ∷ []) h = refl
front-last (e ∷ f ∷ es) h = ap (λ l. e ∷ l) (front-last (f ∷ es) (omega arith))

pub undone_entry : {D : Type 0} (session : Session D) (entry : List D) → (undo_of (with_entry session entry)).done ≡ session.done
undone_entry session entry = front-push session.done entry

pub redone_entry : {D : Type 0} (session : Session D) → 0 < length session.done → redo_of (undo_of session) ≡ session
redone_entry session h =
    same_session _ _ session.done session.undone
    (ap (λ l. all_but_last session.done ++ l ∷ []) (last-push session.undone (last_of session.done)) ∙ front-last session.done h)
    (front-push session.undone (last_of session.done))
