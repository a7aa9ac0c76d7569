-- Entries of a planning state, and their work.
use Rattle.std.proofs.Common.{◌≡◌, ◌∙◌, ℕ, ◌+◌, ◌*◌, ◌<◌, ◌≤◌, Bool, false, true, List, [], ◌∷◌, None, Some, Result, Ok, Err, length, get_or, refl, sym, ap, subst, arith, OnOk}
use Rattle.std.specs.Prelude.{if◌then◌else◌, insert, nat_lt}
use Rattle.std.specs.List.{list_all}
use Rattle.std.proofs.lemmas.Bool.Decides.{nat_tests}
use Rattle.std.proofs.lemmas.List.Edits.{get_or-insert_at, length-insert}
use Rattle.plan_base.specs.Shape.{node_count}
use Rattle.plan_base.specs.declared.ids.NodeId.{NodeId}
use Rattle.game_types.specs.Nodes.{shape_of}
use Rattle.reach_ranks.specs.Given.{size_of}
use Rattle.data_edit.specs.declared.books.Book.{Book}
use Rattle.depend_rows.specs.Rows.{rows_of}
use Rattle.plan_lines.specs.declared.change.Object.{Object}
use Rattle.plan_lines.specs.declared.change.Change.{Change}
use Rattle.plan_lines.specs.declared.change.Change.TheVariants.{Grant, Revoke, Forbid, Permit, Milestone, Unmilestone, Ingredient, Product, Unlock, Time, Enabled, Table, Untable, Row, Unrow, Price, Want, Import, Surplus, Power}
use Rattle.state_changes.specs.declared.refusals.Refusal.{Refusal}
use Rattle.state_changes.specs.declared.undos.Undo.{Undo}
use Rattle.state_changes.specs.declared.undos.Undo.TheVariants.{Taken}
use Rattle.state_changes.specs.Actions.{can_be_held, node_named}
use Rattle.state_changes.specs.States.{State, state_of, AreSoundMilestones}
use Rattle.state_changes.specs.Undoing.{Fits, FitsTaken, LeadsBack, taken_back}
use Rattle.planning_state.specs.Work.{milestone_named, work_by, work_of, work_of_book, work_of_milestone}
use Rattle.planning_state.specs.Worlds.{ranks_in, world_of}

-- ---- the work of an entry
pub work-add : (s own t : State) (changes : List Change) (object : Object) → own ≡ s → changes ≡ Milestone object ∷ [] → work_of_milestone (node_named own.book.game object) own t ≡ work_of s changes t
unfolding work_of
work-add s own t changes object e f = ap (λ (u : State). work_of_milestone (node_named u.book.game object) u t) e ∙ sym (ap (λ cs. work_of s cs t) f)

no-milestone : (change : Change) → can_be_held change ≡ true → milestone_named change ≡ None
no-milestone (Grant object) h = refl
no-milestone (Revoke object) h = refl
no-milestone (Forbid object) h = refl
no-milestone (Permit object) h = refl
no-milestone (Milestone object) h = absurd cc
no-milestone (Unmilestone object) h = absurd cc
no-milestone (Ingredient recipe good amount) h = refl
no-milestone (Product recipe good amount) h = refl
no-milestone (Unlock tech recipe on) h = refl
no-milestone (Time recipe seconds) h = refl
no-milestone (Enabled recipe on) h = refl
no-milestone (Table table) h = refl
no-milestone (Untable table) h = refl
no-milestone (Row table label activity machine parts) h = refl
no-milestone (Unrow table label) h = refl
no-milestone (Price table label price) h = refl
no-milestone (Want table good amount) h = refl
no-milestone (Import table good price) h = refl
no-milestone (Surplus table good price) h = refl
no-milestone (Power table on) h = refl

pub held-work : (s t : State) (changes : List Change) → list_all can_be_held changes ≡ true → work_of s changes t ≡ work_of_book changes s t
unfolding work_of
held-work s t [] held = refl
held-work s t (change ∷ []) held = ap (λ o. work_by o (change ∷ []) s t) (no-milestone change (first (can_be_held change) held))
  where
    first : (b : Bool) → list_all (λ (c : Bool). c) (b ∷ []) ≡ true → b ≡ true
    first true e = refl
    first false e = absurd cc
held-work s t (change ∷ next ∷ changes) held = refl

pub work-book : (s own t : State) (changes : List Change) → own ≡ s → list_all can_be_held changes ≡ true → work_of_book changes own t ≡ work_of s changes t
work-book s own t changes e held = ap (λ (u : State). work_of_book changes u t) e ∙ sym (held-work s t changes held)

unmilestone-work : (s own t : State) (changes : List Change) (object : Object) → own ≡ s → changes ≡ Unmilestone object ∷ [] → work_of s changes t ≡ work_of_milestone (node_named own.book.game object) own t
unfolding work_of
unmilestone-work s own t changes object e f = ap (λ cs. work_of s cs t) f ∙ ap (λ (u : State). work_of_milestone (node_named u.book.game object) u t) (sym e)

pub work-put : {E : Type 0} (result : Result (Unit {0}) E) (s own t : State) (book : Book) (changes : List Change) (node : NodeId) (place old new : ℕ) → own ≡ s → t.book ≡ book → own.book ≡ book → FitsTaken book.game changes node place (length own.milestones)
    → OnOk result (t.milestones ≡ insert own.milestones place node)
    → new ≤ old + 8 * size_of (rows_of book.game) (node ∷ []) (ranks_in (world_of book None)) (ranks_in (world_of book (Some node)))
    → OnOk result (new ≤ old + work_of s changes t)
work-put (Err fault) s own t book changes node place old new e b f fits put h = tt
work-put (Ok u) s own t book changes node place old new e b f fits put h =
    subst (λ (n : ℕ). new ≤ old + n) (sym (unfolded ∙ worth)) h
  where
    unfolded : work_of s changes t ≡ work_of_milestone (node_named own.book.game fits.object) own t
    unfolded = unmilestone-work s own t changes fits.object e fits.change

    longer : nat_lt (length own.milestones) (length t.milestones) ≡ true
    longer = let count : length t.milestones ≡ length own.milestones + 1 = ap length put ∙ length-insert own.milestones place node fits.room in grind (arith, nat_tests, count)

    worth : work_of_milestone (node_named own.book.game fits.object) own t ≡ 8 * size_of (rows_of book.game) (node ∷ []) (ranks_in (world_of book None)) (ranks_in (world_of book (Some node)))
    worth =
        ap (λ (o : Result NodeId Refusal). work_of_milestone o own t) (ap (λ (c : Book). node_named c.game fits.object) f ∙ fits.named)
        ∙ (ap (λ (c : Bool). if c then 8 * size_of (rows_of t.book.game) (node ∷ []) (ranks_in (world_of t.book None)) (ranks_in (world_of t.book (Some node))) else 0) longer
        ∙ ap (λ (c : Book). 8 * size_of (rows_of c.game) (node ∷ []) (ranks_in (world_of c None)) (ranks_in (world_of c (Some node)))) b)

-- ---- a milestone that comes back
pub put-within : (s t : State) (changes : List Change) (undos : List Undo) (node : NodeId) (place : ℕ) → undos ≡ Taken node place ∷ [] → LeadsBack t changes undos s → node.0 < node_count (shape_of t.book.game)
put-within s t changes undos node place is leads =
    subst (λ (u : State). node.0 < node_count (shape_of u.book.game)) same_book
    (subst (λ (m : NodeId). m.0 < node_count (shape_of s.book.game)) there (leads.sound.milestones.nodes place node inside))
  where
    put : state_of t.book (insert t.milestones place node) t.tables ≡ s
    put = ap (λ us. taken_back us t) (sym is) ∙ leads.back

    room : place ≤ length t.milestones
    room = (subst (λ us. Fits changes us t) is leads.fits).room

    there : get_or s.milestones place node ≡ node
    there = ap (λ (u : State). get_or u.milestones place node) (sym put) ∙ get_or-insert_at t.milestones place node node room

    inside : place < length s.milestones
    inside = omega (arith, room, ap (λ (u : State). length u.milestones) put, length-insert t.milestones place node room)

    same_book : s ≡ state_of t.book (insert t.milestones place node) t.tables
    same_book = sym put

pub fits-put : (s t : State) (changes : List Change) (undos : List Undo) (node : NodeId) (place : ℕ) → undos ≡ Taken node place ∷ [] → LeadsBack t changes undos s → FitsTaken t.book.game changes node place (length t.milestones)
fits-put s t changes undos node place is leads = subst (λ us. Fits changes us t) is leads.fits

pub put-sound : (s t : State) (changes : List Change) (undos : List Undo) (node : NodeId) (place : ℕ) → undos ≡ Taken node place ∷ [] → LeadsBack t changes undos s → AreSoundMilestones t.book (insert t.milestones place node)
put-sound s t changes undos node place is leads =
    subst (λ (u : State). AreSoundMilestones u.book u.milestones) (sym (ap (λ us. taken_back us t) (sym is) ∙ leads.back)) leads.sound.milestones
