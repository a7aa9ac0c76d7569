-- The blocks come back from the slice.
use Rattle.std.proofs.Common.{◌∙◌, List, Some, All, sym, subst}
use Rattle.reach_ranks.specs.Rounds.{world}
use Rattle.reach_ranks.specs.Ranks.{AreRanks}
use Rattle.milestone_masks.specs.declared.slots.Slot.{Slot}
use Rattle.milestone_masks.specs.declared.blocks.Block.{Block}
use Rattle.milestone_masks.specs.Held.{milestones_in}
use Rattle.reach_incremental.proofs.RepairLemmas.{whole-back}
use Rattle.milestone_masks.proofs.milestones.Milestones.repair_each.Goals as goal

pub returns-clause-ranks : goal.returns-clause-ranks
returns-clause-ranks g c =
    subst
    (λ (bs : List Block). All (λ m. AreRanks (world (g.R.Rows.rows c.args.rows.now) c.args.marks.barred.now c.args.marks.granted.now (Some m.node)) m.ranks) (milestones_in bs c.self.inside.slots.items))
    (sym (whole-back c.self.inside.blocks.len c.repair_slots.new.blocks c.self.inside.blocks.items (c.repair_slots.ensures.long ∙ c.deref_mut.ensures.len)))
    (subst
    (λ (slots : List Slot). All (λ m. AreRanks (world (g.R.Rows.rows c.args.rows.now) c.args.marks.barred.now c.args.marks.granted.now (Some m.node)) m.ranks) (milestones_in c.repair_slots.new.blocks slots))
    c.deref.ensures.value
    c.repair_slots.ensures.ranks)
