-- What a change does to a planning state.
use Rattle.std.specs.Prelude.{ℕ, Bool, true, List, [], ◌∷◌, ◌++◌, Option, Some, None, Result, Ok, Err, if◌then◌else◌, length, nat_le, remove}
use Rattle.std.specs.List.{list_all}
use Rattle.plan_base.specs.declared.ids.NodeId.{NodeId}
use Rattle.data_edit.specs.declared.books.Book.{Book}
use Rattle.data_edit.specs.declared.edits.Edit.{Edit}
use Rattle.data_edit.specs.declared.edits.EditFault.{EditFault}
use Rattle.data_edit.specs.Edits.{effect}
use Rattle.plan_lines.specs.declared.change.Change.{Change}
use Rattle.plan_lines.specs.declared.change.Change.TheVariants.{Milestone, Unmilestone}
use Rattle.milestone_masks.specs.declared.worlds.MilestoneFault.TheVariants.{Full, Already, NotOne}
use Rattle.production_table.specs.declared.tables.Table.{Table}
use Rattle.table_rows.specs.declared.refusals.TableRefusal.{TableRefusal}
use Rattle.planner_tables.specs.Effects.{is_of_tables, tables_effect}
use Rattle.state_changes.specs.declared.refusals.Refusal.{Refusal}
use Rattle.state_changes.specs.declared.refusals.Refusal.TheVariants.{OfEdit, OfMilestone, OfTables}
use Rattle.state_changes.specs.Actions.{◌▸◌, can_be_held, edit_named, node_named}
use Rattle.state_changes.specs.States.{State, milestone_place, state_of}

-- another book, or why there is none
abbrev pub with_book : State → Result Book EditFault → Result State Refusal
with_book s (Ok book) = Ok (state_of book s.milestones s.tables)
with_book s (Err fault) = Err (OfEdit fault)

-- other tables, or why there are none
abbrev pub with_tables : State → Result (List Table) TableRefusal → Result State Refusal
with_tables s (Ok tables) = Ok (state_of s.book s.milestones tables)
with_tables s (Err refusal) = Err (OfTables refusal)

-- a node that is no milestone yet becomes the last one, where there are fewer than 256
abbrev pub with_milestone : State → NodeId → Option ℕ → Result State Refusal
with_milestone s node (Some place) = Err (OfMilestone Already)
with_milestone s node None =
    if nat_le 256 (length s.milestones) then Err (OfMilestone Full) else Ok (state_of s.book (s.milestones ++ node ∷ []) s.tables)

-- the milestone at a place goes
abbrev pub without_milestone : State → Option ℕ → Result State Refusal
without_milestone s None = Err (OfMilestone NotOne)
without_milestone s (Some place) = Ok (state_of s.book (remove s.milestones place) s.tables)

-- a change of the book, by the edit that it asks for
abbrev pub edited : State → Option Edit → Result State Refusal
edited s (Some edit) = with_book s (effect edit s.book)
edited s None = Ok s

abbrev pub book_effect : State → Change → Result State Refusal
book_effect s change = edit_named s.book.game change ▸ edited s

-- a change of the tables on the game as it stands
abbrev pub table_effect : State → Change → Result State Refusal
table_effect s change = with_tables s (tables_effect s.book.game s.tables change)

-- the state after a change, or the first refusal: names come before all else
unfoldable pub effect_of : State → Change → Result State Refusal
effect_of s (Milestone object) = node_named s.book.game object ▸ λ node. with_milestone s node (milestone_place s.milestones node.0)
effect_of s (Unmilestone object) = node_named s.book.game object ▸ λ node. without_milestone s (milestone_place s.milestones node.0)
effect_of s change = if is_of_tables change then table_effect s change else book_effect s change

-- a change of the milestones is an entry by itself
abbrev pub is_entry : List Change → Bool
is_entry (change ∷ []) = true
is_entry changes = list_all can_be_held changes
