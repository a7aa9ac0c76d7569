-- The block has the milestone in its lane.
use Rattle.std.proofs.Common.{get_or, refl, length}
use Rattle.std.proofs.lemmas.Option.{slice_get-get_or}
use Rattle.milestone_masks.proofs.SlotLemmas.{occupied}
use Rattle.milestone_masks.proofs.blocks.occupy.Goals as goal

pub returns : goal.returns
returns c =
    occupied
    (length c.args.ranks.now)
    c.args.place.block
    c.args.place.lane
    c.args.node
    c.args.ranks.now
    c.args.blocks.now
    _
    (get_or c.args.blocks.now c.args.place.block c.index-blocks-place.result)
    c.fill.new.block
    c.requires.inside.0
    (slice_get-get_or c.args.blocks.now c.args.place.block c.index-blocks-place.result c.requires.inside.0)
    refl
    c.requires.blocks
    c.fill.ensures.extra
    c.fill.ensures.extras
    c.fill.ensures.here
    c.fill.ensures.others
    c.fill.ensures.long
    c.fill.ensures.small
