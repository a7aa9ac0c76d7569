-- What a line does: the planner after it, and its reply.
use Rattle.std.specs.Prelude.{◌≡◌, ℕ, Bool, true, false, List, [], ◌∷◌, ◌++◌, Option, None, Some, Result, Ok, Err, if◌then◌else◌, length, map, nat_lt, slice_get}
use Rattle.plan_base.specs.declared.ids.NodeId.{NodeId}
use Rattle.game_types.specs.declared.games.Game.{Game}
use Rattle.edit_undo.specs.Edits.{apply_edits}
use Rattle.edit_undo.specs.Session.{Session, last_of, redo_of, undo_of, with_entry}
use Rattle.edit_undo.specs.Kept.{Kept, nothing, session_of, IsHistoryOf}
use Rattle.plan_lines.specs.declared.change.Change.{Change}
use Rattle.plan_lines.specs.declared.command.Command.{Command}
use Rattle.plan_lines.specs.declared.command.Command.TheVariants as command
use Rattle.state_changes.specs.declared.refusals.Refusal.{Refusal}
use Rattle.plan_lines.specs.declared.reply.RefusalCode.{RefusalCode}
use Rattle.plan_lines.specs.declared.reply.RefusalCode.TheVariants as code
use Rattle.plan_lines.specs.declared.reply.Reply.{Reply}
use Rattle.plan_lines.specs.declared.reply.Reply.TheVariants as reply
use Rattle.planner_tables.specs.Questions.{rate_reply, IsSolveReply}
use Rattle.state_changes.specs.declared.undos.Undo.{Undo}
use Rattle.state_changes.specs.Actions.{can_be_held, node_named}
use Rattle.state_changes.specs.States.{State, first_state}
use Rattle.state_changes.specs.Effects.{effect_of, is_entry}
use Rattle.state_changes.specs.Undoing.{LeadsBack}
use Rattle.planning_state.specs.Work.{work_of}
use Rattle.planning_state.specs.Worlds.{is_reached, rank_of}
use Rattle.planner_core.specs.Replies.{AboutNode, IsWhyReply, done_reply, held_reply, list_reply, mask_reply, missing_reply, refused, refused_as, reply_work, summary_reply}

-- a change that is held in a batch, with its line
abbrev pub Held : Type 0
Held = ℕ × Change

-- The planning state, what was done and undone with what takes it back, the open batch, and whether the planner is quiet.
pub record Planned : Type 0 where
  pub state : State
  pub kept : Kept Change Undo
  pub batch : Option (List Held)
  pub quiet : Bool

abbrev pub planned : State → Kept Change Undo → Option (List Held) → Bool → Planned
planned state kept batch quiet = record { state = state; kept = kept; batch = batch; quiet = quiet }

abbrev pub first_planned : Game → Planned
first_planned g = planned (first_state g) nothing None false

-- what is done leads from the base to the state, and what is undone can be done again
abbrev pub IsSessionOf : State → Planned → Type 0
IsSessionOf base p = IsHistoryOf effect_of is_entry LeadsBack p.kept base p.state

-- ---- lines that change the planning state
-- the edits are one more entry, or the refusal of the first that is refused is told, at its line where there is one
pub record Enters (p : Planned) (edits : List Change) (r : Planned) : Type 0 where
  pub accepted : apply_edits effect_of p.state edits ≡ Ok r.state
  pub session : session_of r.kept ≡ with_entry (session_of p.kept) edits

-- the lines that stay beside an entry: the batch is closed, and the quiet mark stays
pub record Closes (p r : Planned) : Type 0 where
  pub batch : r.batch ≡ None
  pub quiet : r.quiet ≡ p.quiet

abbrev pub closed : Planned → Planned
closed p = record p { batch = None }

abbrev pub Tries : Result State (ℕ × Refusal) → (ℕ → Option ℕ) → Planned → List Change → Planned → Reply → Type 0
Tries (Ok state) line_of p edits r answer = Enters p edits r × Closes p r × (answer ≡ done_reply p.quiet)
Tries (Err fault) line_of p edits r answer = (r ≡ closed p) × (answer ≡ refused p.state.book.game fault.1 (line_of fault.0))

abbrev pub line_of : Option Held → Option ℕ
line_of None = None
line_of (Some held) = Some held.0

abbrev pub line_at : List Held → ℕ → Option ℕ
line_at held place = line_of (slice_get held place)

abbrev pub no_line : ℕ → Option ℕ
no_line place = None

-- one change by itself, and the changes of a batch
abbrev pub Does : Planned → Change → Planned → Reply → Type 0
Does p change r answer = Tries (apply_edits effect_of p.state (change ∷ [])) no_line p (change ∷ []) r answer

abbrev pub changes_of : List Held → List Change
changes_of held = map (λ h. h.1) held

abbrev pub Ends : Planned → List Held → Planned → Reply → Type 0
Ends p [] r answer = (r ≡ closed p) × (answer ≡ done_reply p.quiet)
Ends p (first ∷ rest) r answer = Tries (apply_edits effect_of p.state (changes_of (first ∷ rest))) (line_at (first ∷ rest)) p (changes_of (first ∷ rest)) r answer

-- the history moves, where it can
abbrev pub Moves : List (List Change) → RefusalCode → Session Change → Planned → Planned → Reply → Type 0
Moves [] why session p r answer = (r ≡ p) × (answer ≡ refused_as why)
Moves (entry ∷ entries) why session p r answer = (session_of r.kept ≡ session) × (r.batch ≡ p.batch) × (r.quiet ≡ p.quiet) × (answer ≡ done_reply p.quiet)

-- ---- lines that leave it
abbrev pub Says : Planned → Planned → Reply → Reply → Type 0
Says p r answer told = (r ≡ p) × (answer ≡ told)

abbrev pub Asks : Planned → Planned → Result NodeId Refusal → (NodeId → Reply → Type 0) → Reply → Type 0
Asks p r node ask answer = (r ≡ p) × AboutNode p.state.book.game node ask answer

-- ---- a line where no batch is open
abbrev pub IsFree : Planned → Command → Planned → Reply → Type 0
IsFree p (command.Reach object) r answer = Asks p r (node_named p.state.book.game object) (λ node told. told ≡ reply.Reach node (rank_of p.state.book node.0)) answer
IsFree p (command.Why object) r answer = Asks p r (node_named p.state.book.game object) (λ node told. IsWhyReply p.state node (is_reached p.state.book node.0) told) answer
IsFree p (command.Missing object) r answer = Asks p r (node_named p.state.book.game object) (λ node told. told ≡ missing_reply p.state node (is_reached p.state.book node.0)) answer
IsFree p (command.Mask object) r answer = Asks p r (node_named p.state.book.game object) (λ node told. told ≡ mask_reply p.state node (is_reached p.state.book node.0)) answer
IsFree p (command.List kind) r answer = Says p r answer (list_reply p.state.book kind)
IsFree p command.Milestones r answer = Says p r answer (reply.Milestones p.state.milestones)
IsFree p command.Summary r answer = Says p r answer (summary_reply p.state (length (session_of p.kept).done) (length (session_of p.kept).undone))
IsFree p (command.Rate table label) r answer = Says p r answer (rate_reply p.state.book.game p.state.tables table label)
IsFree p (command.Solve table budget) r answer = (r ≡ p) × IsSolveReply p.state.book.game p.state.tables table budget answer
IsFree p (command.Quiet on) r answer = (r ≡ record p { quiet = on }) × (answer ≡ reply.Nothing)
IsFree p command.Undo r answer = Moves (session_of p.kept).done code.H1 (undo_of (session_of p.kept)) p r answer
IsFree p command.Redo r answer = Moves (session_of p.kept).undone code.H2 (redo_of (session_of p.kept)) p r answer
IsFree p command.Batch r answer = (r ≡ record p { batch = Some [] }) × (answer ≡ done_reply p.quiet)
IsFree p command.End r answer = Says p r answer (refused_as code.H4)
IsFree p command.Cancel r answer = Says p r answer (refused_as code.H4)
IsFree p (command.Change change) r answer = Does p change r answer

-- ---- a line where a batch is open
-- at most 1,024 changes are held
abbrev pub Holds : ℕ → Planned → List Held → Change → Bool → Planned → Reply → Type 0
Holds line p held change true r answer = (r ≡ record p { batch = Some (held ++ (line, change) ∷ []) }) × (answer ≡ held_reply p.quiet)
Holds line p held change false r answer = Says p r answer (refused_as code.H5)

abbrev pub HoldsChange : ℕ → Planned → List Held → Change → Bool → Planned → Reply → Type 0
HoldsChange line p held change true r answer = Holds line p held change (nat_lt (length held) 1024) r answer
HoldsChange line p held change false r answer = Says p r answer (refused_as code.H3)

abbrev pub IsOpen : ℕ → Planned → List Held → Command → Planned → Reply → Type 0
IsOpen line p held (command.Quiet on) r answer = (r ≡ record p { quiet = on }) × (answer ≡ reply.Nothing)
IsOpen line p held command.End r answer = Ends p held r answer
IsOpen line p held command.Cancel r answer = (r ≡ closed p) × (answer ≡ done_reply p.quiet)
IsOpen line p held (command.Change change) r answer = HoldsChange line p held change (can_be_held change) r answer
IsOpen line p held other r answer = Says p r answer (refused_as code.H3)

abbrev pub IsStepIn : ℕ → Option (List Held) → Planned → Command → Planned → Reply → Type 0
IsStepIn line None p asked r answer = IsFree p asked r answer
IsStepIn line (Some held) p asked r answer = IsOpen line p held asked r answer

-- The planner after a line, and its reply: by the planner before, the line's number and its command. It has grown from whatever that one
-- has grown from: behind `undo` and `redo` too, the state is what the edits that are active then give on the base.
pub record IsStep (line : ℕ) (p : Planned) (asked : Command) (r : Planned) (answer : Reply) : Type 0 where
  pub does : IsStepIn line p.batch p asked r answer
  pub grows : (base : State) → IsSessionOf base p → IsSessionOf base r

-- ---- the work of a line
-- what an accepted entry takes, forth and back; a refused line takes nothing
abbrev pub entry_work : Bool → State → List Change → State → ℕ
entry_work true before edits after = 0
entry_work false before edits after = work_of before edits after

abbrev pub is_refused : Reply → Bool
is_refused (reply.Refused why detail at) = true
is_refused other = false

abbrev pub batch_changes : Option (List Held) → List Change
batch_changes None = []
batch_changes (Some held) = changes_of held

abbrev pub is_free : Option (List Held) → Bool
is_free None = true
is_free (Some held) = false

abbrev pub is_empty : List Change → Bool
is_empty [] = true
is_empty (change ∷ changes) = false

abbrev pub line_work : Command → Planned → Planned → Reply → ℕ
line_work (command.Change change) p r answer = if is_free p.batch then entry_work (is_refused answer) p.state (change ∷ []) r.state else 0
line_work command.End p r answer = if is_empty (batch_changes p.batch) then 0 else entry_work (is_refused answer) p.state (batch_changes p.batch) r.state
line_work command.Undo p r answer = entry_work (is_refused answer) p.state (last_of (session_of p.kept).done) r.state
line_work command.Redo p r answer = entry_work (is_refused answer) p.state (last_of (session_of p.kept).undone) r.state
line_work other p r answer = reply_work answer
