-- What the replies to questions about nodes tell.
use Rattle.std.specs.Prelude.{ℕ, ◌==◌, Bool, true, false, List, [], Option, None, Some, position}
use Rattle.std.specs.List.{filter_map}
use Rattle.plan_base.specs.declared.ids.NodeId.{NodeId}
use Rattle.plan_lines.specs.declared.reply.Reply.{Reply}
use Rattle.plan_lines.specs.declared.reply.Reply.TheVariants as reply
use Rattle.state_changes.specs.States.{State}
use Rattle.planning_state.specs.Worlds.{is_reached, mask_in}

-- the rank that is told; 0 where none is
abbrev pub told_rank : Reply → ℕ
told_rank (reply.Reach node rank) = rank
told_rank other = 0

-- the milestones that are told of a node
abbrev pub told_mask : Reply → List NodeId
told_mask (reply.Mask node reached milestones) = milestones
told_mask other = []

-- the milestones without which a node isn't reached; none of a node that isn't
abbrev pub mask_where : Bool → State → ℕ → List NodeId
mask_where true s n = mask_in s n
mask_where false s n = []

abbrev pub mask_of : State → ℕ → List NodeId
mask_of s n = mask_where (is_reached s.book n) s n

-- all milestones, where they are told
abbrev pub told_milestones : Reply → Option (List NodeId)
told_milestones (reply.Milestones milestones) = Some milestones
told_milestones other = None

-- the place of a node among the milestones, from 0
abbrev pub place_of : List NodeId → NodeId → Option ℕ
place_of milestones node = position (λ milestone. milestone.0 == node.0) milestones

abbrev pub places_of : List NodeId → List NodeId → List ℕ
places_of milestones nodes = filter_map (place_of milestones) nodes
