-- How many steps an entry may take: eight times what its change amounts to, over all worlds.
use Rattle.std.specs.Prelude.{ℕ, ◌*◌, List, [], ◌∷◌, Option, None, Some, Result, Ok, Err, if◌then◌else◌, length, nat_lt}
use Rattle.plan_base.specs.declared.ids.NodeId.{NodeId}
use Rattle.game_types.specs.Nodes.{shape_of}
use Rattle.game_types.specs.declared.games.Game.{Game}
use Rattle.depend_rows.specs.Rows.{rows_of}
use Rattle.depend_rows.specs.Touched.{touched_by_all}
use Rattle.reach_ranks.specs.Given.{size_of}
use Rattle.milestone_masks.specs.Worlds.{size_of_all}
use Rattle.plan_lines.specs.declared.change.Object.{Object}
use Rattle.plan_lines.specs.declared.change.Change.{Change}
use Rattle.plan_lines.specs.declared.change.Change.TheVariants.{Milestone, Unmilestone}
use Rattle.state_changes.specs.declared.refusals.Refusal.{Refusal}
use Rattle.state_changes.specs.Actions.{edits_named, node_named}
use Rattle.state_changes.specs.States.{State}
use Rattle.planning_state.specs.Worlds.{ranks_in, world_of, worlds_of}

-- the nodes that changes touch, each once
abbrev pub touched_in : Game → List Change → List NodeId
touched_in g changes = touched_by_all (shape_of g) (edits_named g changes)

-- a milestone that comes is a new world, in which its node is barred from the base world on; one that goes takes no step
abbrev pub work_of_milestone : Result NodeId Refusal → State → State → ℕ
work_of_milestone (Err refusal) before after = 0
work_of_milestone (Ok node) before after =
    if nat_lt (length before.milestones) (length after.milestones)
    then 8 * size_of (rows_of after.book.game) (node ∷ []) (ranks_in (world_of after.book None)) (ranks_in (world_of after.book (Some node)))
    else 0

-- over all worlds the size of the change of the book, by the nodes that it touches
abbrev pub work_of_book : List Change → State → State → ℕ
work_of_book changes before after =
    8 * size_of_all (rows_of after.book.game) (touched_in before.book.game changes) (worlds_of before) (worlds_of after)

-- the object that a change of the milestones names
abbrev pub milestone_named : Change → Option Object
milestone_named (Milestone object) = Some object
milestone_named (Unmilestone object) = Some object
milestone_named change = None

abbrev pub work_by : Option Object → List Change → State → State → ℕ
work_by None changes before after = work_of_book changes before after
work_by (Some object) changes before after = work_of_milestone (node_named before.book.game object) before after

unfoldable pub work_of : State → List Change → State → ℕ
work_of before (change ∷ []) after = work_by (milestone_named change) (change ∷ []) before after
work_of before changes after = work_of_book changes before after
