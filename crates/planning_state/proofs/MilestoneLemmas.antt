-- Milestones added and taken away.
use Rattle.std.proofs.Common.{inl, inr, ◌≡◌, ◌≢◌, ◌∙◌, ℕ, ◌+◌, ◌*◌, ◌<◌, ◌≤◌, zero, suc, Bool, false, true, cond, eqb, List, [], ◌∷◌, ◌++◌, Option, None, Some, Result, Ok, Err, length, map, get_or, take, drop, refl, sym, ap, subst, arith, All, OnOk, OnErr, IfOk}
use Rattle.std.specs.Prelude.{◌==◌, if◌then◌else◌, AllPairs, IsSome, insert, nat_le, nat_lt, not, remove}
use Rattle.std.specs.List.{position_or_len}
use Rattle.std.proofs.lemmas.Bool.{cases_lt}
use Rattle.std.proofs.lemmas.Bool.Decides.{nat_tests}
use Rattle.std.proofs.lemmas.List.{length_push}
use Rattle.std.proofs.lemmas.List.Edits.{insert_end, length-insert, length-remove, get_or-insert_at, get_or-insert_below, get_or-insert_above}
use Rattle.std.proofs.lemmas.List.Kept.{AllPairs-cons}
use Rattle.std.proofs.lemmas.List.Quantifiers.{all_pairs_remove}
use Rattle.std.proofs.lemmas.List.Sums.{passes_at_first, prefix_len-le-length}
use Rattle.std.proofs.lemmas.List.Elements.{All-append, All-drop, All-take}
use Rattle.std.proofs.lemmas.List.Folds.{position_or_len_push}
use Rattle.plan_base.specs.declared.denied.Denied.TheVariants.{Refused}
use Rattle.plan_base.specs.Shape.{node_count}
use Rattle.plan_base.specs.declared.ids.NodeId.{NodeId}
use Rattle.graph_store.specs.declared.Row.{Row}
use Rattle.reach_ranks.specs.Rounds.{World, world, IsWhole}
use Rattle.reach_ranks.specs.Ranks.{AreRanks}
use Rattle.reach_ranks.specs.Given.{size_of}
use Rattle.game_types.specs.Nodes.{shape_of}
use Rattle.data_edit.specs.declared.books.Book.{Book}
use Rattle.data_edit.specs.Books.{IsSoundBook}
use Rattle.depend_rows.specs.Rows.{rows_of}
use Rattle.depend_rows.proofs.Below.{length-rows_of}
use Rattle.milestone_masks.specs.declared.worlds.Milestone.{Milestone}
use Rattle.milestone_masks.specs.declared.worlds.MilestoneFault.{MilestoneFault}
use Rattle.milestone_masks.specs.Worlds.{AddAnswer, AreWorlds, Kept, milestones_of, place_of}
use Rattle.milestone_masks.proofs.WorldLemmas.{All-insert, map-drop, map-both, map-take}
use Rattle.production_table.specs.declared.tables.Table.{Table}
use Rattle.planner_tables.specs.Effects.{AreSoundTables}
use Rattle.state_changes.specs.States.{State, milestone_place, state_of, AreSoundMilestones}
use Rattle.edit_undo.specs.Edits.{apply_edits, then_apply, IsEntry, Leads}
use Rattle.milestone_masks.specs.declared.worlds.MilestoneFault.TheVariants as of_milestone
use Rattle.plan_lines.specs.declared.change.Object.{Object}
use Rattle.plan_lines.specs.declared.change.Change.{Change}
use Rattle.plan_lines.specs.declared.change.Change.TheVariants.{Milestone as MilestoneLine, Unmilestone as UnmilestoneLine}
use Rattle.state_changes.specs.declared.refusals.Refusal.{Refusal}
use Rattle.state_changes.specs.declared.refusals.Refusal.TheVariants.{OfMilestone}
use Rattle.state_changes.specs.declared.undos.Undo.{Undo}
use Rattle.state_changes.specs.declared.undos.Undo.TheVariants.{Added, Taken}
use Rattle.state_changes.specs.Actions.{◌▸◌, node_named}
use Rattle.state_changes.specs.Effects.{effect_of, is_entry, with_milestone, without_milestone}
use Rattle.state_changes.specs.Faults.{milestone_fault}
use Rattle.state_changes.specs.Undoing.{Fits, LeadsBack, removed_at, taken_back}
use Rattle.state_changes.proofs.Changing.{names-refl}
use Rattle.planning_state.specs.Worlds.{ranks_in, world_of, IsKept}
use Rattle.planning_state.proofs.Kept.{are-ranks_in, ranks_in-are}

-- ---- what is as the book is
pub same_world : (rows other : List Row) (barred own granted mine : List Bool) (extra : Option NodeId) → rows ≡ other → barred ≡ own → granted ≡ mine → world rows barred granted extra ≡ world other own mine extra
same_world rows other barred own granted mine extra e f h = cc

pub whole-as : (book : Book) (rows : List Row) (barred granted : List Bool) (extra : Option NodeId) → IsSoundBook book → rows ≡ rows_of book.game → barred ≡ book.barred → granted ≡ book.granted → IsWhole (world rows barred granted extra)
whole-as book rows barred granted extra sound e f h = record {
  barred = ap length f ∙ (sound.barred ∙ (sym (length-rows_of book.game) ∙ ap length (sym e)));
  granted = ap length h ∙ (sound.granted ∙ (sym (length-rows_of book.game) ∙ ap length (sym e)));
}

pub within-rows : (book : Book) (rows : List Row) (n : ℕ) → rows ≡ rows_of book.game → n < node_count (shape_of book.game) → n < length rows
within-rows book rows n e h = omega (arith, h, ap length e, length-rows_of book.game)

pub nodes-within : (book : Book) (rows : List Row) (nodes : List NodeId) → rows ≡ rows_of book.game → All (λ (n : NodeId). n.0 < node_count (shape_of book.game)) nodes → All (λ (n : NodeId). n.0 < length rows) nodes
nodes-within book rows nodes e all k d inside = within-rows book rows (get_or nodes k d).0 e (all k d inside)

pub worlds-as : (book : Book) (rows : List Row) (barred granted : List Bool) (kept : Kept) → rows ≡ rows_of book.game → barred ≡ book.barred → granted ≡ book.granted → AreWorlds rows barred granted kept → AreWorlds (rows_of book.game) book.barred book.granted kept
worlds-as book rows barred granted kept e f h are =
    subst (λ (r : List Row). AreWorlds r book.barred book.granted kept) e
    (subst (λ (b : List Bool). AreWorlds rows b book.granted kept) f
    (subst (λ (g : List Bool). AreWorlds rows barred g kept) h are))

pub steps-add : (book : Book) (rows : List Row) (barred granted : List Bool) (base : List ℕ) (node : NodeId) (old new : ℕ) → rows ≡ rows_of book.game → barred ≡ book.barred → granted ≡ book.granted → AreRanks (world_of book None) base
    → ((ranks : List ℕ) → AreRanks (world rows barred granted (Some node)) ranks → new ≤ old + 6 * size_of rows (node ∷ []) base ranks)
    → new ≤ old + 8 * size_of (rows_of book.game) (node ∷ []) (ranks_in (world_of book None)) (ranks_in (world_of book (Some node)))
steps-add book rows barred granted base node old new e f h are bound =
    let own : AreRanks (world rows barred granted (Some node)) (ranks_in (world_of book (Some node))) =
    subst (λ (w : World). AreRanks w (ranks_in (world_of book (Some node)))) (sym (same_world rows (rows_of book.game) barred book.barred granted book.granted (Some node) e f h)) (ranks_in-are (world_of book (Some node))) in
    let least : new ≤ old + 6 * size_of rows (node ∷ []) base (ranks_in (world_of book (Some node))) = bound (ranks_in (world_of book (Some node))) own in
    let same : size_of rows (node ∷ []) base (ranks_in (world_of book (Some node))) ≡ size_of (rows_of book.game) (node ∷ []) (ranks_in (world_of book None)) (ranks_in (world_of book (Some node))) =
    ap (λ (r : List Row). size_of r (node ∷ []) base (ranks_in (world_of book (Some node)))) e
    ∙ ap (λ (b : List ℕ). size_of (rows_of book.game) (node ∷ []) b (ranks_in (world_of book (Some node)))) (are-ranks_in (world_of book None) base are) in
    more (size_of rows (node ∷ []) base (ranks_in (world_of book (Some node)))) (size_of (rows_of book.game) (node ∷ []) (ranks_in (world_of book None)) (ranks_in (world_of book (Some node)))) same least
  where
    more : (a b : ℕ) → a ≡ b → new ≤ old + 6 * a → new ≤ old + 8 * b
    more a b e h = omega (arith, e, h)

-- ---- places
position-map : {X Y : Type 0} (p : Y → Bool) (f : X → Y) (xs : List X) → position_or_len p (map f xs) ≡ position_or_len (λ x. p (f x)) xs
position-map p f [] = refl
position-map p f (x ∷ xs) = ap (λ n. cond (not (p (f x))) (1 + n) 0) (position-map p f xs)

length-of : {X Y : Type 0} (f : X → Y) (xs : List X) → length (map f xs) ≡ length xs
length-of f [] = refl
length-of f (x ∷ xs) = ap suc (length-of f xs)

pub place-is : (ms : List Milestone) (node : ℕ) → milestone_place (map (λ m. m.node) ms) node ≡ place_of ms node
place-is ms node =
    ap (λ n. cond (nat_lt n (length (map (λ (m : Milestone). m.node) ms))) (Some n) None) (position-map (λ (m : NodeId). m.0 == node) (λ (m : Milestone). m.node) ms)
    ∙ ap (λ k. cond (nat_lt (position_or_len (λ (m : Milestone). m.node.0 == node) ms) k) (Some (position_or_len (λ (m : Milestone). m.node.0 == node) ms)) None) (length-of (λ (m : Milestone). m.node) ms)

-- ---- a node that is no milestone, and one that is
absent-more : (m : NodeId) (xs : List NodeId) (n : ℕ) (b : Bool) → (m.0 == n) ≡ b → (length xs ≤ position_or_len (λ (m : NodeId). m.0 == n) xs → (k : ℕ) (d : NodeId) → k < length xs → (get_or xs k d).0 ≢ n)
    → length (m ∷ xs) ≤ cond (not b) (1 + position_or_len (λ (m : NodeId). m.0 == n) xs) 0 → (k : ℕ) (d : NodeId) → k < length (m ∷ xs) → (get_or (m ∷ xs) k d).0 ≢ n
absent-more m xs n true is later h k d inside = absurd (omega (arith, h))
absent-more m xs n false is later h zero d inside = λ e. apart ((let same : (m.0 == n) ≡ true = grind (arith, e) in sym same) ∙ is)
  where
    apart : (let b : Bool = true in b) ≡ false → ⊥
    apart e = cc
absent-more m xs n false is later h (suc k) d inside = later (omega (arith, h)) k d (omega (arith, inside))

absent : (xs : List NodeId) (n : ℕ) → length xs ≤ position_or_len (λ (m : NodeId). m.0 == n) xs → (k : ℕ) (d : NodeId) → k < length xs → (get_or xs k d).0 ≢ n
absent [] n h k d inside = absurd (omega (arith, inside))
absent (m ∷ xs) n h k d inside = absent-more m xs n (m.0 == n) refl (absent xs n) h k d inside

pub none-is : (nodes : List NodeId) (n : ℕ) → milestone_place nodes n ≡ None → All (λ (m : NodeId). m.0 ≢ n) nodes
none-is nodes n e = absent nodes n (least (position_or_len (λ (m : NodeId). m.0 == n) nodes) (length nodes) e)
  where
    least : (pos len : ℕ) → cond (nat_lt pos len) (Some pos) None ≡ None → len ≤ pos
    least pos len e = grind (arith, nat_tests, e)

place-parts : (pos len k : ℕ) → cond (nat_lt pos len) (Some pos) None ≡ Some k → (pos < len) × (pos ≡ k)
place-parts pos len k e = chosen (nat_lt pos len) refl
  where
    chosen : (b : Bool) → nat_lt pos len ≡ b → (pos < len) × (pos ≡ k)
    chosen true is = (grind (arith, nat_tests, is), some-same pos k (ap (λ b. cond b (Some pos) None) (sym is) ∙ e))
      where
        some-same : (a b : ℕ) → (let o : Option ℕ = Some a in o) ≡ Some b → a ≡ b
        some-same a b e = cc
    chosen false is = absurd (none-some k (ap (λ b. cond b (Some pos) None) (sym is) ∙ e))
      where
        none-some : (b : ℕ) → (let o : Option ℕ = None in o) ≡ Some b → ⊥
        none-some b e = cc

pub stands-at : (nodes : List NodeId) (n place : ℕ) (d : NodeId) → milestone_place nodes n ≡ Some place → (place < length nodes) × ((get_or nodes place d).0 ≡ n)
stands-at nodes n place d found =
    let at : (position_or_len (λ (m : NodeId). m.0 == n) nodes < length nodes) × (position_or_len (λ (m : NodeId). m.0 == n) nodes ≡ place) = place-parts (position_or_len (λ (m : NodeId). m.0 == n) nodes) (length nodes) place found in
    let first : ((get_or nodes (position_or_len (λ (m : NodeId). m.0 == n) nodes) d).0 == n) ≡ true = passes_at_first (λ (m : NodeId). m.0 == n) nodes d at.0 in
    (omega (arith, at.0, at.1), subst (λ (k : ℕ). (get_or nodes k d).0 ≡ n) at.1 (grind (arith, first)))

pairs-tail : (m : NodeId) (xs : List NodeId) → AllPairs (λ (m n : NodeId). m.0 ≢ n.0) (m ∷ xs) → AllPairs (λ (m n : NodeId). m.0 ≢ n.0) xs
pairs-tail m xs once i j d less inside = once (suc i) (suc j) d (omega (arith, less)) (omega (arith, inside))

pairs-head : (m : NodeId) (xs : List NodeId) → AllPairs (λ (m n : NodeId). m.0 ≢ n.0) (m ∷ xs) → All (λ (n : NodeId). m.0 ≢ n.0) xs
pairs-head m xs once j d inside = once zero (suc j) d (omega arith) (omega (arith, inside))

-- one more that differs from all
pub once-insert : (xs : List NodeId) (i : ℕ) (x : NodeId) → i ≤ length xs → All (λ (m : NodeId). m.0 ≢ x.0) xs → AllPairs (λ (m n : NodeId). m.0 ≢ n.0) xs → AllPairs (λ (m n : NodeId). m.0 ≢ n.0) (insert xs i x)
once-insert xs zero x room apart once = AllPairs-cons (λ (m n : NodeId). m.0 ≢ n.0) x xs (λ k d inside e. apart k d inside (sym e)) once
once-insert [] (suc i) x room apart once = absurd (omega (arith, room))
once-insert (m ∷ xs) (suc i) x room apart once =
    AllPairs-cons (λ (m n : NodeId). m.0 ≢ n.0) m (insert xs i x)
    (All-insert (λ (n : NodeId). m.0 ≢ n.0) xs i x (omega (arith, room)) (pairs-head m xs once) (apart zero m (omega arith)))
    (once-insert xs i x (omega (arith, room)) (λ k d inside. apart (suc k) d (omega (arith, inside))) (pairs-tail m xs once))

-- where one more at a place leaves each once, it was not there
pub not-twice : (xs : List NodeId) (i k : ℕ) (x : NodeId) → i ≤ length xs → k < length xs → AllPairs (λ (m n : NodeId). m.0 ≢ n.0) (insert xs i x) → (get_or xs k x).0 ≡ x.0 → ⊥
not-twice xs i k x room inside once e = elim (cases_lt k i) [ inl lower ↦ before lower | inr upper ↦ behind upper ]
  where
    long : length (insert xs i x) ≡ length xs + 1
    long = length-insert xs i x room

    at : get_or (insert xs i x) i x ≡ x
    at = get_or-insert_at xs i x x room

    before : k < i → ⊥
    before lower = once k i x lower (omega (arith, room, long)) (ap (λ (m : NodeId). m.0) (get_or-insert_below xs i x x k lower room) ∙ (e ∙ sym (ap (λ (m : NodeId). m.0) at)))

    behind : i ≤ k → ⊥
    behind upper = once i (k + 1) x (omega (arith, upper)) (omega (arith, inside, long)) (ap (λ (m : NodeId). m.0) at ∙ (sym e ∙ sym (ap (λ (m : NodeId). m.0) (get_or-insert_above xs i x x k upper room))))

-- ---- a milestone more
pub kept-add : (book : Book) (rows : List Row) (barred granted : List Bool) (old new : Kept) (node : NodeId) (place : ℕ) (result : Result (Unit {0}) MilestoneFault)
    → IsKept book rows old → barred ≡ book.barred → granted ≡ book.granted → node.0 < node_count (shape_of book.game) → place ≤ length (milestones_of old)
    → AddAnswer result old.milestones node.0
    → OnOk result (milestones_of new ≡ insert (milestones_of old) place node) → OnErr result (new ≡ old) → AreWorlds rows barred granted new → IsKept book rows new
kept-add book rows barred granted old new node place (Ok u) kept f h within room answer added same are = record {
  sound = record {
    book = kept.sound.book;
    nodes = subst (All (λ (m : NodeId). m.0 < node_count (shape_of book.game))) (sym added) (All-insert (λ (m : NodeId). m.0 < node_count (shape_of book.game)) (milestones_of old) place node room kept.sound.nodes within);
    once = subst (AllPairs (λ (m n : NodeId). m.0 ≢ n.0)) (sym added) (once-insert (milestones_of old) place node room (none-is (milestones_of old) node.0 (place-is old.milestones node.0 ∙ answer.0)) kept.sound.once);
    few = omega (arith, ap length added, length-insert (milestones_of old) place node room, length-of (λ (m : Milestone). m.node) old.milestones, answer.1);
  };
  rows_are = kept.rows_are;
  worlds = worlds-as book rows barred granted new kept.rows_are f h are;
}
kept-add book rows barred granted old new node place (Err fault) kept f h within room answer added same are = subst (IsKept book rows) (sym same) kept

-- ---- a milestone less
map-remove : {X Y : Type 0} (f : X → Y) (xs : List X) (i : ℕ) → map f (remove xs i) ≡ remove (map f xs) i
map-remove f xs i =
    map-both f (take i xs) (drop (suc i) xs)
    ∙ (ap (λ ys. ys ++ map f (drop (suc i) xs)) (map-take f xs i) ∙ ap (λ ys. take i (map f xs) ++ ys) (map-drop f xs (suc i)))

All-remove : {X : Type 0} (P : X → Type 0) (xs : List X) (i : ℕ) → All P xs → All P (remove xs i)
All-remove P xs i all = All-append P (take i xs) (drop (suc i) xs) (All-take P i xs all) (All-drop P (suc i) xs all)

found-within : (nodes : List NodeId) (n place : ℕ) → milestone_place nodes n ≡ Some place → place < length nodes
found-within nodes n place found = (stands-at nodes n place (record { 0 = 0 }) found).0

-- what is kept without the milestone at a place
pub kept-remove : (book : Book) (rows : List Row) (old new : Kept) (node place : ℕ) → place_of old.milestones node ≡ Some place → new.base ≡ old.base → new.milestones ≡ remove old.milestones place → IsKept book rows old → IsKept book rows new
kept-remove book rows old new node place found e f kept = record {
  sound = record {
    book = kept.sound.book;
    nodes = subst (All (λ (m : NodeId). m.0 < node_count (shape_of book.game))) (sym (ap (map (λ (m : Milestone). m.node)) f ∙ map-remove (λ (m : Milestone). m.node) old.milestones place))
        (All-remove (λ (m : NodeId). m.0 < node_count (shape_of book.game)) (milestones_of old) place kept.sound.nodes);
    once = subst (AllPairs (λ (m n : NodeId). m.0 ≢ n.0)) (sym less) (all_pairs_remove (λ (m n : NodeId). m.0 ≢ n.0) (milestones_of old) place inside kept.sound.once);
    few = omega (arith, ap length less, length-remove (milestones_of old) place inside, kept.sound.few);
  };
  rows_are = kept.rows_are;
  worlds = record {
    base = subst (AreRanks (world_of book None)) (sym e) kept.worlds.base;
    each = subst (All (λ (m : Milestone). AreRanks (world_of book (Some m.node)) m.ranks)) (sym f)
        (All-remove (λ (m : Milestone). AreRanks (world_of book (Some m.node)) m.ranks) old.milestones place kept.worlds.each);
  };
}
  where
    less : milestones_of new ≡ remove (milestones_of old) place
    less = ap (map (λ (m : Milestone). m.node)) f ∙ map-remove (λ (m : Milestone). m.node) old.milestones place

    inside : place < length (milestones_of old)
    inside = found-within (milestones_of old) node place (place-is old.milestones node ∙ found)

pub kept-drop : (book : Book) (rows : List Row) (old new : Kept) (node : ℕ) (result : Result ℕ MilestoneFault) → IfOk result (λ place. place_of old.milestones node ≡ Some place) → IfOk result (λ place. new.milestones ≡ remove old.milestones place) → new.base ≡ old.base → OnErr result (new ≡ old) → IsKept book rows old → IsKept book rows new
kept-drop book rows old new node (Ok place) found dropped base same kept = kept-remove book rows old new node place found base dropped kept
kept-drop book rows old new node (Err fault) found dropped base same kept = subst (IsKept book rows) (sym same) kept

pub nodes-remove : (old new : Kept) (place : ℕ) → new.milestones ≡ remove old.milestones place → milestones_of new ≡ remove (milestones_of old) place
nodes-remove old new place e = ap (map (λ (m : Milestone). m.node)) e ∙ map-remove (λ (m : Milestone). m.node) old.milestones place

pub nodes-drop : (old new : Kept) (node : ℕ) (result : Result ℕ MilestoneFault) → IfOk result (λ place. place_of old.milestones node ≡ Some place) → IfOk result (λ place. new.milestones ≡ remove old.milestones place)
    → OnErr result (place_of old.milestones node ≡ None) → OnErr result (new ≡ old) → milestones_of new ≡ removed_at (milestones_of old) (milestone_place (milestones_of old) node)
nodes-drop old new node (Ok place) found dropped none same =
    nodes-remove old new place dropped ∙ sym (ap (removed_at (milestones_of old)) (place-is old.milestones node ∙ found))
nodes-drop old new node (Err fault) found dropped none same =
    ap milestones_of same ∙ sym (ap (removed_at (milestones_of old)) (place-is old.milestones node ∙ none))

-- ---- an entry of one milestone
entry-one : (change : Change) → IsEntry is_entry (change ∷ [])
entry-one change = record { some = omega arith; few = omega arith; taken = refl }

pub add-unnamed : (s : State) (object : Object) (refusal : Refusal) → node_named s.book.game object ≡ Err refusal → apply_edits effect_of s (MilestoneLine object ∷ []) ≡ Err (0, refusal)
unfolding effect_of
add-unnamed s object refusal e = ap (λ (o : Result NodeId Refusal). then_apply (o ▸ λ node. with_milestone s node (milestone_place s.milestones node.0)) 0 (λ t. Ok t)) e

pub take-unnamed : (s : State) (object : Object) (refusal : Refusal) → node_named s.book.game object ≡ Err refusal → apply_edits effect_of s (UnmilestoneLine object ∷ []) ≡ Err (0, refusal)
unfolding effect_of
take-unnamed s object refusal e = ap (λ (o : Result NodeId Refusal). then_apply (o ▸ λ node. without_milestone s (milestone_place s.milestones node.0)) 0 (λ t. Ok t)) e

add-named : (s : State) (object : Object) (node : NodeId) → node_named s.book.game object ≡ Ok node → effect_of s (MilestoneLine object) ≡ with_milestone s node (milestone_place s.milestones node.0)
unfolding effect_of
add-named s object node e = ap (λ (o : Result NodeId Refusal). o ▸ λ node. with_milestone s node (milestone_place s.milestones node.0)) e

take-named : (s : State) (object : Object) (node : NodeId) → node_named s.book.game object ≡ Ok node → effect_of s (UnmilestoneLine object) ≡ without_milestone s (milestone_place s.milestones node.0)
unfolding effect_of
take-named s object node e = ap (λ (o : Result NodeId Refusal). o ▸ λ node. without_milestone s (milestone_place s.milestones node.0)) e

on-one : (s : State) (change : Change) (outcome : Result State Refusal) (whole : Result State (ℕ × Refusal)) → effect_of s change ≡ outcome → then_apply outcome 0 (λ t. Ok t) ≡ whole → apply_edits effect_of s (change ∷ []) ≡ whole
on-one s change outcome whole e f = ap (λ (o : Result State Refusal). then_apply o 0 (λ t. Ok t)) e ∙ f

-- what is refused of a milestone more
there : (o : Option ℕ) → IsSome o → (place : ℕ) × (o ≡ Some place)
there None h = absurd cc
there (Some place) h = (place, refl)

length-nodes : (kept : Kept) → length (milestones_of kept) ≡ length kept.milestones
length-nodes kept = length-of (λ (m : Milestone). m.node) kept.milestones

pub add-refused : (book : Book) (kept : Kept) (tables : List Table) (object : Object) (node : NodeId) (fault : MilestoneFault) (refusal : Refusal) → node_named book.game object ≡ Ok node → AddAnswer (Err fault) kept.milestones node.0 → milestone_fault fault ≡ Refused refusal
    → apply_edits effect_of (state_of book (milestones_of kept) tables) (MilestoneLine object ∷ []) ≡ Err (0, refusal)
add-refused book kept tables object node of_milestone.NoMemory refusal named answer e = absurd cc
add-refused book kept tables object node of_milestone.NotOne refusal named answer e = absurd answer
add-refused book kept tables object node of_milestone.Already refusal named answer e =
    let found : (place : ℕ) × (place_of kept.milestones node.0 ≡ Some place) = there (place_of kept.milestones node.0) answer in
    let same : OfMilestone of_milestone.Already ≡ refusal = cc in
    on-one (state_of book (milestones_of kept) tables) (MilestoneLine object) (Err (OfMilestone of_milestone.Already)) (Err (0, refusal))
    (add-named (state_of book (milestones_of kept) tables) object node named ∙ ap (with_milestone (state_of book (milestones_of kept) tables) node) (place-is kept.milestones node.0 ∙ found.1))
    (ap (λ r. Err (0, r)) same)
add-refused book kept tables object node of_milestone.Full refusal named answer e =
    let full : nat_le 256 (length (milestones_of kept)) ≡ true = grind (arith, nat_tests, answer.1, length-nodes kept) in
    let same : OfMilestone of_milestone.Full ≡ refusal = cc in
    on-one (state_of book (milestones_of kept) tables) (MilestoneLine object) (Err (OfMilestone of_milestone.Full)) (Err (0, refusal))
    (add-named (state_of book (milestones_of kept) tables) object node named
    ∙ (ap (with_milestone (state_of book (milestones_of kept) tables) node) (place-is kept.milestones node.0 ∙ answer.0)
    ∙ ap (λ (b : Bool). if b then Err (OfMilestone of_milestone.Full) else Ok (state_of book (milestones_of kept ++ node ∷ []) tables)) full))
    (ap (λ r. Err (0, r)) same)

-- a milestone more at the end
last-place : (nodes : List NodeId) (node : NodeId) → milestone_place nodes node.0 ≡ None → milestone_place (nodes ++ node ∷ []) node.0 ≡ Some (length nodes)
last-place nodes node none =
    let p : NodeId → Bool = λ m. m.0 == node.0 in
    let at_end : position_or_len p (nodes ++ node ∷ []) ≡ length nodes = end (position_or_len p nodes) (length nodes) (position_or_len p (nodes ++ node ∷ [])) (position_or_len_push p nodes node) (le p nodes) none in
    let long : length (nodes ++ node ∷ []) ≡ length nodes + 1 = length_push nodes node in
    ap (λ n. cond (nat_lt n (length (nodes ++ node ∷ []))) (Some n) None) at_end
    ∙ (let inside : nat_lt (length nodes) (length (nodes ++ node ∷ [])) ≡ true = grind (arith, nat_tests, long) in ap (λ b. cond b (Some (length nodes)) None) inside)
  where
    le : (p : NodeId → Bool) (xs : List NodeId) → position_or_len p xs ≤ length xs
    le p xs = prefix_len-le-length (λ x. not (p x)) xs

    end : (pos len more : ℕ) → more ≡ cond (eqb pos len) (len + cond (node.0 == node.0) 0 1) pos → pos ≤ len → cond (nat_lt pos len) (Some pos) None ≡ None → more ≡ len
    end pos len more e h n = grind (arith, nat_tests, e, h, n)

pub add-leads : (book : Book) (rows : List Row) (old new : Kept) (tables : List Table) (object : Object) (node : NodeId) (place : ℕ) (undos : List Undo) → IsKept book rows old → AreSoundTables book.game tables → node_named book.game object ≡ Ok node
    → place_of old.milestones node.0 ≡ None → length old.milestones < 256 → place ≡ length old.milestones → milestones_of new ≡ insert (milestones_of old) place node → undos ≡ Added node ∷ []
    → Leads effect_of is_entry LeadsBack (state_of book (milestones_of old) tables) (MilestoneLine object ∷ []) undos (state_of book (milestones_of new) tables)
add-leads book rows old new tables object node place undos kept fit named none room at put is = record {
  entry = entry-one (MilestoneLine object);
  accepted = on-one (state_of book (milestones_of old) tables) (MilestoneLine object) (Ok (state_of book (milestones_of old ++ node ∷ []) tables)) (Ok (state_of book (milestones_of new) tables))
      (add-named (state_of book (milestones_of old) tables) object node named
      ∙ (ap (with_milestone (state_of book (milestones_of old) tables) node) (place-is old.milestones node.0 ∙ none)
      ∙ ap (λ (b : Bool). if b then Err (OfMilestone of_milestone.Full) else Ok (state_of book (milestones_of old ++ node ∷ []) tables)) not_full))
      (ap (λ ms. Ok (state_of book ms tables)) (sym pushed));
  back = record {
    sound = record { milestones = kept.sound; tables = fit };
    names = names-refl book.game;
    fits = subst (λ us. Fits (MilestoneLine object ∷ []) us (state_of book (milestones_of new) tables)) (sym is) tt;
    back = ap (λ us. taken_back us (state_of book (milestones_of new) tables)) is
        ∙ (ap (λ ms. state_of book (removed_at ms (milestone_place ms node.0)) tables) pushed
        ∙ (ap (λ o. state_of book (removed_at (milestones_of old ++ node ∷ []) o) tables) (last-place (milestones_of old) node (place-is old.milestones node.0 ∙ none))
        ∙ ap (λ ms. state_of book ms tables) (remove-last (milestones_of old) node)));
  };
}
  where
    pushed : milestones_of new ≡ milestones_of old ++ node ∷ []
    pushed = put ∙ (ap (λ k. insert (milestones_of old) k node) (at ∙ sym (length-nodes old)) ∙ insert_end (milestones_of old) node)

    not_full : nat_le 256 (length (milestones_of old)) ≡ false
    not_full = grind (arith, nat_tests, room, length-nodes old)

    remove-last : (xs : List NodeId) (x : NodeId) → remove (xs ++ x ∷ []) (length xs) ≡ xs
    remove-last [] x = refl
    remove-last (y ∷ xs) x = ap (λ ys. y ∷ ys) (remove-last xs x)

-- ---- a milestone less
pub take-refused : (book : Book) (kept : Kept) (tables : List Table) (object : Object) (node : NodeId) (fault : MilestoneFault) (refusal : Refusal) → node_named book.game object ≡ Ok node → fault ≡ of_milestone.NotOne → place_of kept.milestones node.0 ≡ None → milestone_fault fault ≡ Refused refusal
    → apply_edits effect_of (state_of book (milestones_of kept) tables) (UnmilestoneLine object ∷ []) ≡ Err (0, refusal)
take-refused book kept tables object node fault refusal named is none e =
    let not_one : milestone_fault of_milestone.NotOne ≡ Refused refusal = subst (λ f. milestone_fault f ≡ Refused refusal) is e in
    let same : OfMilestone of_milestone.NotOne ≡ refusal = cc in
    on-one (state_of book (milestones_of kept) tables) (UnmilestoneLine object) (Err (OfMilestone of_milestone.NotOne)) (Err (0, refusal))
    (take-named (state_of book (milestones_of kept) tables) object node named ∙ ap (without_milestone (state_of book (milestones_of kept) tables)) (place-is kept.milestones node.0 ∙ none))
    (ap (λ r. Err (0, r)) same)

-- a node that is put where it stood
same_node : (m n : NodeId) → (m.0 == n.0) ≡ true → m ≡ n
same_node m n e =
    let same : m.0 ≡ n.0 = grind (arith, e) in
    let Of : ℕ → NodeId = λ k. record { 0 = k } in
    ap Of same

put-at : (xs : List NodeId) (i : ℕ) (x : NodeId) → i < length xs → get_or xs i x ≡ x → insert (remove xs i) i x ≡ xs
put-at [] i x inside e = absurd (omega (arith, inside))
put-at (y ∷ xs) zero x inside e = ap (λ z. z ∷ xs) (sym e)
put-at (y ∷ xs) (suc i) x inside e = ap (λ ys. y ∷ ys) (put-at xs i x (omega (arith, inside)) e)

found-at : (nodes : List NodeId) (node : NodeId) (place : ℕ) → milestone_place nodes node.0 ≡ Some place → (place < length nodes) × (insert (remove nodes place) place node ≡ nodes)
found-at nodes node place found =
    let p : NodeId → Bool = λ m. m.0 == node.0 in
    let at : (position_or_len p nodes < length nodes) × (position_or_len p nodes ≡ place) = place-parts (position_or_len p nodes) (length nodes) place found in
    (omega (arith, at.0, at.1), subst (λ k. insert (remove nodes k) k node ≡ nodes) at.1 (put-back nodes at.0))
  where
    put-back : (xs : List NodeId) → position_or_len (λ (m : NodeId). m.0 == node.0) xs < length xs → insert (remove xs (position_or_len (λ (m : NodeId). m.0 == node.0) xs)) (position_or_len (λ (m : NodeId). m.0 == node.0) xs) node ≡ xs
    put-back xs h = put-at xs (position_or_len (λ (m : NodeId). m.0 == node.0) xs) node h (same_node (get_or xs (position_or_len (λ (m : NodeId). m.0 == node.0) xs) node) node (passes_at_first (λ (m : NodeId). m.0 == node.0) xs node h))

pub take-leads : (book : Book) (rows : List Row) (old new : Kept) (tables : List Table) (object : Object) (node : NodeId) (place : ℕ) (undos : List Undo) → IsKept book rows old → AreSoundTables book.game tables → node_named book.game object ≡ Ok node
    → place_of old.milestones node.0 ≡ Some place → new.milestones ≡ remove old.milestones place → undos ≡ Taken node place ∷ []
    → Leads effect_of is_entry LeadsBack (state_of book (milestones_of old) tables) (UnmilestoneLine object ∷ []) undos (state_of book (milestones_of new) tables)
take-leads book rows old new tables object node place undos kept fit named found dropped is = record {
  entry = entry-one (UnmilestoneLine object);
  accepted = on-one (state_of book (milestones_of old) tables) (UnmilestoneLine object) (Ok (state_of book (remove (milestones_of old) place) tables)) (Ok (state_of book (milestones_of new) tables))
      (take-named (state_of book (milestones_of old) tables) object node named ∙ ap (without_milestone (state_of book (milestones_of old) tables)) (place-is old.milestones node.0 ∙ found))
      (ap (λ ms. Ok (state_of book ms tables)) (sym less));
  back = record {
    sound = record { milestones = kept.sound; tables = fit };
    names = names-refl book.game;
    fits = subst (λ us. Fits (UnmilestoneLine object ∷ []) us (state_of book (milestones_of new) tables)) (sym is) (record { object = object; change = refl; named = named; room = room });
    back = ap (λ us. taken_back us (state_of book (milestones_of new) tables)) is
        ∙ (ap (λ ms. state_of book (insert ms place node) tables) less ∙ ap (λ ms. state_of book ms tables) stood.1);
  };
}
  where
    less : milestones_of new ≡ remove (milestones_of old) place
    less = nodes-remove old new place dropped

    stood : (place < length (milestones_of old)) × (insert (remove (milestones_of old) place) place node ≡ milestones_of old)
    stood = found-at (milestones_of old) node place (place-is old.milestones node.0 ∙ found)

    room : place ≤ length (milestones_of new)
    room = omega (arith, stood.0, ap length less, length-remove (milestones_of old) place stood.0)

-- ---- a milestone that comes back is none, and there is room for it
pub not-already : (book : Book) (kept : Kept) (node : NodeId) (place : ℕ) → place ≤ length (milestones_of kept) → AreSoundMilestones book (insert (milestones_of kept) place node) → IsSome (place_of kept.milestones node.0) → ⊥
not-already book kept node place room sound is =
    let found : (k : ℕ) × (place_of kept.milestones node.0 ≡ Some k) = there (place_of kept.milestones node.0) is in
    let stands : (found.0 < length (milestones_of kept)) × ((get_or (milestones_of kept) found.0 node).0 ≡ node.0) = stands-at (milestones_of kept) node.0 found.0 node (place-is kept.milestones node.0 ∙ found.1) in
    not-twice (milestones_of kept) place found.0 node room stands.0 sound.once stands.1

pub not-full : (book : Book) (kept : Kept) (node : NodeId) (place : ℕ) → place ≤ length (milestones_of kept) → AreSoundMilestones book (insert (milestones_of kept) place node) → 256 ≤ length kept.milestones → ⊥
not-full book kept node place room sound full = omega (arith, sound.few, full, length-insert (milestones_of kept) place node room, length-nodes kept)
