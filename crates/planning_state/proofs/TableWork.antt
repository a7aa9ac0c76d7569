-- Entries of changes of the tables alone take no step.
use Rattle.std.proofs.Common.{◌≡◌, ◌∙◌, ℕ, ◌+◌, ◌*◌, ◌<◌, ◌||◌, ◌&&◌, zero, suc, Bool, false, true, List, [], ◌∷◌, Option, Result, Ok, Err, length, refl, sym, ap, arith, All}
use Rattle.std.specs.Prelude.{◌==◌, if◌then◌else◌, slice_get, slice_index}
use Rattle.std.specs.List.{list_all}
use Rattle.std.proofs.lemmas.List.Elements.{All-head}
use Rattle.std.proofs.lemmas.Bool.{and_parts}
use Rattle.plan_base.specs.Shape.{node_count}
use Rattle.plan_base.specs.declared.ids.NodeId.{NodeId}
use Rattle.plan_base.specs.declared.shape.Shape.{Shape}
use Rattle.graph_store.specs.declared.Row.{Row}
use Rattle.graph_store.specs.Rows.{has_node, user_count}
use Rattle.reach_ranks.specs.Given.{size_of, sum_below}
use Rattle.game_types.specs.Nodes.{shape_of}
use Rattle.game_types.specs.declared.games.Game.{Game}
use Rattle.data_edit.specs.declared.books.Book.{Book}
use Rattle.data_edit.specs.declared.edits.Edit.{Edit}
use Rattle.depend_rows.specs.Rows.{rows_of}
use Rattle.depend_rows.specs.Touched.{touched_by_all}
use Rattle.depend_rows.proofs.TouchedNodes.{touched_are, touched_below}
use Rattle.milestone_masks.specs.Worlds.{Kept, ranks_of, size_in_world, size_of_all}
use Rattle.edit_undo.specs.Edits.{apply_from}
use Rattle.plan_lines.specs.declared.change.Change.{Change}
use Rattle.plan_lines.specs.declared.change.Change.TheVariants.{Grant, Revoke, Forbid, Permit, Milestone, Unmilestone, Ingredient, Product, Unlock, Time, Enabled, Table, Untable, Row as RowLine, Unrow, Price, Want, Import, Surplus, Power}
use Rattle.production_table.specs.declared.tables.Table.{Table as ProductionTable}
use Rattle.table_rows.specs.declared.refusals.TableRefusal.{TableRefusal}
use Rattle.planner_tables.specs.Effects.{is_of_tables, tables_effect}
use Rattle.state_changes.specs.declared.refusals.Refusal.{Refusal}
use Rattle.state_changes.specs.Actions.{can_be_held, edit_and, edits_named}
use Rattle.state_changes.specs.States.{State, state_of}
use Rattle.state_changes.specs.Effects.{effect_of, with_tables}
use Rattle.planning_state.specs.Work.{touched_in, work_of}
use Rattle.planning_state.specs.Worlds.{worlds_of}
use Rattle.state_changes.proofs.Changing.{effect-tables, no-edit}
use Rattle.planning_state.proofs.EntryLemmas.{held-work}
use Rattle.planning_state.proofs.HeldLemmas.{ok-same, then-ok}

-- ---- the book and the milestones stay
table-alone : (s t : State) (outcome : Result (List ProductionTable) TableRefusal) → with_tables s outcome ≡ Ok t → (s.book ≡ t.book) × (s.milestones ≡ t.milestones)
table-alone s t (Ok tables) e =
    let same : state_of s.book s.milestones tables ≡ t = ok-same (state_of s.book s.milestones tables) t e in
    (ap (λ (u : State). u.book) same, ap (λ (u : State). u.milestones) same)
table-alone s t (Err refusal) e = absurd cc

tables-alone : (s t : State) (place : ℕ) (changes : List Change) → list_all is_of_tables changes ≡ true → apply_from effect_of place s changes ≡ Ok t → (s.book ≡ t.book) × (s.milestones ≡ t.milestones)
tables-alone s t place [] h e =
    let same : s ≡ t = cc in
    (ap (λ (u : State). u.book) same, ap (λ (u : State). u.milestones) same)
tables-alone s t place (change ∷ changes) h e =
    let apart : (is_of_tables change ≡ true) × (list_all is_of_tables changes ≡ true) = and_parts (is_of_tables change) (list_all is_of_tables changes) h in
    let found : (u : State) × (effect_of s change ≡ Ok u) × (apply_from effect_of (place + 1) u changes ≡ Ok t) = then-ok (effect_of s change) place _ t e in
    let one : (s.book ≡ found.0.book) × (s.milestones ≡ found.0.milestones) = table-alone s found.0 (tables_effect s.book.game s.tables change) (sym (effect-tables s change apart.0) ∙ found.1) in
    let rest : (found.0.book ≡ t.book) × (found.0.milestones ≡ t.milestones) = tables-alone found.0 t (place + 1) changes apart.1 found.2 in
    (one.0 ∙ rest.0, one.1 ∙ rest.1)

-- ---- no node is touched
no-edits : (g : Game) (changes : List Change) → list_all is_of_tables changes ≡ true → edits_named g changes ≡ []
no-edits g [] h = refl
no-edits g (change ∷ changes) h =
    let apart : (is_of_tables change ≡ true) × (list_all is_of_tables changes ≡ true) = and_parts (is_of_tables change) (list_all is_of_tables changes) h in
    ap (λ (o : Result (Option Edit) Refusal). edit_and o (edits_named g changes)) (no-edit g change apart.0) ∙ no-edits g changes apart.1

none-among : (count : ℕ) (nodes : List NodeId) → All (λ (m : NodeId). m.0 < count) nodes → ((n : ℕ) → n < count → has_node nodes n ≡ false) → nodes ≡ []
none-among count [] below none = refl
none-among count (m ∷ nodes) below none =
    let own : (m.0 == m.0) ≡ true = grind arith in
    let held : has_node (m ∷ nodes) m.0 ≡ true = ap (λ b. b || has_node nodes m.0) own in
    absurd (apart (has_node (m ∷ nodes) m.0) held (none m.0 (All-head (λ (m : NodeId). m.0 < count) m nodes below)))
  where
    apart : (b : Bool) → b ≡ true → b ≡ false → ⊥
    apart true e f = cc
    apart false e f = cc

none-touched : (shape : Shape) → touched_by_all shape [] ≡ []
none-touched shape = none-among (node_count shape) (touched_by_all shape []) (touched_below shape []) (λ n inside. touched_are shape [] n inside)

-- ---- the size of no change
none-below : (f : ℕ → ℕ) (n : ℕ) → ((k : ℕ) → f k ≡ 0) → sum_below f n ≡ 0
none-below f zero h = refl
none-below f (suc n) h = omega (arith, h n, none-below f n h)

no-size : (rows : List Row) (ranks : List ℕ) → size_of rows [] ranks ranks ≡ 0
no-size rows ranks = omega (arith, none-below (λ n. if has_node [] n || (slice_index ranks n == slice_index ranks n) then 0 else 1 + user_count rows n) (length rows) each)
  where
    each : (k : ℕ) → (if has_node [] k || (slice_index ranks k == slice_index ranks k) then 0 else 1 + user_count rows k) ≡ 0
    each k = let own : (slice_index ranks k == slice_index ranks k) ≡ true = grind arith in ap (λ (b : Bool). if b then 0 else 1 + user_count rows k) own

no-size-at-all : (rows : List Row) (kept : Kept) → size_of_all rows [] kept kept ≡ 0
no-size-at-all rows kept =
    omega (arith, no-size rows kept.base, none-below (size_in_world rows [] kept.milestones kept.milestones) (length kept.milestones) (λ k. no-size rows (ranks_of (slice_get kept.milestones k))))

-- ---- the work
same-worlds : (s t : State) → s.book ≡ t.book → s.milestones ≡ t.milestones → worlds_of s ≡ worlds_of t
unfolding worlds_of
same-worlds s t e f =
    ap (λ (b : Book). worlds_of (state_of b s.milestones s.tables)) e ∙ ap (λ (ms : List NodeId). worlds_of (state_of t.book ms s.tables)) f

tables-held : (change : Change) → is_of_tables change ≡ true → can_be_held change ≡ true
tables-held (Grant object) h = refl
tables-held (Revoke object) h = refl
tables-held (Forbid object) h = refl
tables-held (Permit object) h = refl
tables-held (Milestone object) h = absurd cc
tables-held (Unmilestone object) h = absurd cc
tables-held (Ingredient recipe good amount) h = refl
tables-held (Product recipe good amount) h = refl
tables-held (Unlock tech recipe on) h = refl
tables-held (Time recipe seconds) h = refl
tables-held (Enabled recipe on) h = refl
tables-held (Table table) h = refl
tables-held (Untable table) h = refl
tables-held (RowLine table label activity machine parts) h = refl
tables-held (Unrow table label) h = refl
tables-held (Price table label price) h = refl
tables-held (Want table good amount) h = refl
tables-held (Import table good price) h = refl
tables-held (Surplus table good price) h = refl
tables-held (Power table on) h = refl

all-held : (changes : List Change) → list_all is_of_tables changes ≡ true → list_all can_be_held changes ≡ true
all-held [] h = refl
all-held (change ∷ changes) h =
    let apart : (is_of_tables change ≡ true) × (list_all is_of_tables changes ≡ true) = and_parts (is_of_tables change) (list_all is_of_tables changes) h in
    ap (λ b. b && list_all can_be_held changes) (tables-held change apart.0) ∙ all-held changes apart.1

no-work : (s t : State) (changes : List Change) → list_all is_of_tables changes ≡ true → s.book ≡ t.book → s.milestones ≡ t.milestones → work_of s changes t ≡ 0
no-work s t changes h e f =
    held-work s t changes (all-held changes h)
    ∙ (ap (λ (k : Kept). 8 * size_of_all (rows_of t.book.game) (touched_in s.book.game changes) (worlds_of s) k) (sym (same-worlds s t e f))
    ∙ (ap (λ es. 8 * size_of_all (rows_of t.book.game) (touched_by_all (shape_of s.book.game) es) (worlds_of s) (worlds_of s)) (no-edits s.book.game changes h)
    ∙ (ap (λ nodes. 8 * size_of_all (rows_of t.book.game) nodes (worlds_of s) (worlds_of s)) (none-touched (shape_of s.book.game))
    ∙ ap (λ (n : ℕ). 8 * n) (no-size-at-all (rows_of t.book.game) (worlds_of s)))))

pub tables-take-none : (before after : State) (changes : List Change) → list_all is_of_tables changes ≡ true → apply_from effect_of 0 before changes ≡ Ok after → (work_of before changes after ≡ 0) × (work_of after changes before ≡ 0)
tables-take-none before after changes h e =
    let stays : (before.book ≡ after.book) × (before.milestones ≡ after.milestones) = tables-alone before after 0 changes h e in
    (no-work before after changes h stays.0 stays.1, no-work after before changes h (sym stays.0) (sym stays.1))
