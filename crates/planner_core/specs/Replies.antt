-- What lines are answered, by the planning state alone.
use Rattle.std.specs.Prelude.{◌≡◌, ◌+◌, ℕ, Bool, true, false, List, [], Option, None, Some, Result, Ok, Err, filter, if◌then◌else◌, length, map, slice_get, slice_index_or, sum_by}
use Rattle.std.specs.List.{range_with_len}
use Rattle.plan_base.specs.Shape.{count_of, first_of, node_count}
use Rattle.plan_base.specs.declared.ids.NodeId.{NodeId}
use Rattle.plan_base.specs.declared.shape.Kind.{Kind}
use Rattle.graph_store.specs.declared.Group.{Group}
use Rattle.game_types.specs.Nodes.{shape_of}
use Rattle.game_types.specs.declared.games.Game.{Game}
use Rattle.data_edit.specs.declared.books.Book.{Book}
use Rattle.data_edit.specs.declared.edits.EditFault.{EditFault}
use Rattle.data_edit.specs.declared.edits.EditFault.TheVariants as of_edit
use Rattle.depend_rows.specs.Rows.{rows_of}
use Rattle.milestone_masks.specs.declared.worlds.MilestoneFault.{MilestoneFault}
use Rattle.milestone_masks.specs.declared.worlds.MilestoneFault.TheVariants as of_milestone
use Rattle.milestone_masks.specs.Why.{IsWhy}
use Rattle.milestone_masks.specs.Worlds.{missing_in}
use Rattle.state_changes.specs.declared.refusals.Refusal.{Refusal}
use Rattle.state_changes.specs.declared.refusals.Refusal.TheVariants.{Unknown, OfEdit, OfMilestone, OfTables}
use Rattle.table_rows.specs.Refusals.{code_of as table_code, detail_of as table_detail}
use Rattle.plan_lines.specs.declared.reply.Detail.{Detail}
use Rattle.plan_lines.specs.declared.reply.Detail.TheVariants.{Bare, Word}
use Rattle.plan_lines.specs.declared.reply.RefusalCode.{RefusalCode}
use Rattle.plan_lines.specs.declared.reply.RefusalCode.TheVariants as code
use Rattle.plan_lines.specs.declared.reply.Reply.{Reply}
use Rattle.plan_lines.specs.declared.reply.Reply.TheVariants as reply
use Rattle.state_changes.specs.States.{State}
use Rattle.planning_state.specs.Worlds.{is_reached, mask_in, rank_of, ranks_in, world_of}

-- ---- refusals
abbrev pub edit_code : EditFault → RefusalCode
edit_code of_edit.Unknown = code.X1
edit_code of_edit.NotPositive = code.X3
edit_code of_edit.NoChange = code.X2
edit_code of_edit.Limit = code.X4

-- want of memory is no refusal, and its code here is never told
abbrev pub milestone_code : MilestoneFault → RefusalCode
milestone_code of_milestone.Full = code.M1
milestone_code of_milestone.Already = code.M2
milestone_code of_milestone.NotOne = code.M3
milestone_code of_milestone.NoMemory = code.M1

abbrev pub code_of : Refusal → RefusalCode
code_of (Unknown object) = code.X1
code_of (OfEdit fault) = edit_code fault
code_of (OfMilestone fault) = milestone_code fault
code_of (OfTables refusal) = table_code refusal

-- a name that nothing has is told, and of a refusal of tables what they tell
abbrev pub detail_of : Game → Refusal → Detail
detail_of g (Unknown object) = Word (Some object.kind) object.name
detail_of g (OfEdit fault) = Bare
detail_of g (OfMilestone fault) = Bare
detail_of g (OfTables refusal) = table_detail g refusal

abbrev pub refused : Game → Refusal → Option ℕ → Reply
refused g refusal at = reply.Refused (code_of refusal) (detail_of g refusal) at

-- a refusal that has no details
abbrev pub refused_as : RefusalCode → Reply
refused_as code = reply.Refused code Bare None

-- ---- accepted lines
abbrev pub done_reply : Bool → Reply
done_reply quiet = if quiet then reply.Nothing else reply.Ok

abbrev pub held_reply : Bool → Reply
held_reply quiet = if quiet then reply.Nothing else reply.Held

-- ---- questions
-- the reached ones among so many nodes from the first on, each with its rank
abbrev pub reached_from : Book → ℕ → ℕ → List (NodeId × ℕ)
reached_from book first count = map (λ n. (record { 0 = n }, rank_of book n)) (filter (is_reached book) (range_with_len first count))

abbrev pub why_line : Book → NodeId → NodeId × ℕ × Bool
why_line book n = (n, rank_of book n.0, slice_index_or book.granted n.0 false)

abbrev pub missing_lines : List Group → List (Bool × List NodeId)
missing_lines groups = map (λ g. (g.all, g.members)) groups

-- where the node is reached: the least set that supports it
abbrev pub IsWhyReply : State → NodeId → Bool → Reply → Type 0
IsWhyReply s node false r = r ≡ reply.Why node []
IsWhyReply s node true r =
    (nodes : List NodeId) × IsWhy (rows_of s.book.game) s.book.granted (ranks_in (world_of s.book None)) node.0 nodes × (r ≡ reply.Why node (map (why_line s.book) nodes))

abbrev pub missing_reply : State → NodeId → Bool → Reply
missing_reply s node true = reply.Missing node true (slice_index_or s.book.barred node.0 false) []
missing_reply s node false =
    reply.Missing node false (slice_index_or s.book.barred node.0 false) (missing_lines (missing_in (is_reached s.book) (slice_get (rows_of s.book.game) node.0)))

abbrev pub mask_reply : State → NodeId → Bool → Reply
mask_reply s node true = reply.Mask node true (mask_in s node.0)
mask_reply s node false = reply.Mask node false []

abbrev pub list_reply : Book → Kind → Reply
list_reply book kind = reply.List kind (reached_from book (first_of (shape_of book.game) kind) (count_of (shape_of book.game) kind))

-- whether each node is reached, in node order
abbrev pub reached_marks : Book → List Bool
reached_marks book = map (is_reached book) (range_with_len 0 (node_count (shape_of book.game)))

-- how many nodes are reached
abbrev pub reached_count : Book → ℕ
reached_count book = length (filter (is_reached book) (range_with_len 0 (node_count (shape_of book.game))))

-- how many milestones lie in the mask of a node, where it is reached
abbrev pub bits_at : State → ℕ → ℕ
bits_at s n = if is_reached s.book n then length (mask_in s n) else 0

-- how many lie in the masks of the reached nodes, in all
abbrev pub bits_of : State → ℕ
bits_of s = sum_by (λ n. if is_reached s.book n then length (mask_in s n) else 0) (range_with_len 0 (node_count (shape_of s.book.game)))

abbrev pub summary_reply : State → ℕ → ℕ → Reply
summary_reply s done undone = reply.Summary (reached_count s.book) (node_count (shape_of s.book.game)) (length s.milestones) (bits_of s) (length s.tables) done undone

-- a name that nothing has is refused, and else the node is asked about
abbrev pub AboutNode : Game → Result NodeId Refusal → (NodeId → Reply → Type 0) → Reply → Type 0
AboutNode g (Ok node) ask r = ask node r
AboutNode g (Err refusal) ask r = r ≡ refused g refusal None

-- ---- the steps that an answer takes
abbrev pub reply_work : Reply → ℕ
reply_work (reply.Why node nodes) = length nodes + 2
reply_work (reply.Missing node reached forbidden groups) = 1
reply_work other = 0
