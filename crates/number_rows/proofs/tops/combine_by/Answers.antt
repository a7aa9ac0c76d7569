use Rattle.std.specs.Int.{w64}
use Rattle.std.proofs.lemmas.Int.{to_z-of_z}
use Rattle.number_rows.proofs.Lists.{scaled_then, same_combined}
use Rattle.number_rows.proofs.tops.combine_by.Goals as goal

pub returns : goal.returns
returns c =
    same_combined c.args.tops.now c.args.others.now c.combine_at.new.tops c.args.scale _ c.args.factor _
    (to_z-of_z w64 c.args.scale c.ranges.scale) (to_z-of_z w64 c.args.factor c.ranges.factor)
    (scaled_then c.args.tops.now c.scale_by.new.tops c.args.others.now c.combine_at.new.tops _ _ c.scale_by.ensures c.combine_at.ensures)
