use Rattle.std.proofs.Common.{arith, get_or}
use Rattle.std.proofs.lemmas.List.{get_or_default}
use Rattle.fractions.specs.Fraction.{zero_fraction}
use Rattle.number_rows.proofs.Steps.{reduced_more, reduced_skip}
use Rattle.number_rows.proofs.ratios.reduce_numbers.Goals as goal
use Rattle.number_rows.proofs.ratios.reduce_numbers.Goals.{then-not-is_zero+in-Ok, else-not-is_zero}

pub loop-k-preserved : goal.loop-k-preserved
loop-k-preserved c =
    elim c.if-not-is_zero.branch [
      | then-not-is_zero+in-Ok w ↦
          rw w.row-is
          (reduced_more c.args.row.now c.args.factor.now c.args.pivot_row.now.items c.loop-k.row c.loop-k.k (get_or c.loop-k.row c.loop-k.k w.index-row-k.result) w.number-other.result w.in-Ok.number
          (omega arith) (omega arith) (get_or_default c.loop-k.row c.loop-k.k w.index-row-k.result zero_fraction (omega arith)) w.number-other.ensures w.in-Ok.ensures.0 w.in-Ok.ensures.1 c.loop-k.invariant)
      | else-not-is_zero w ↦
          rw w.row-is
          (reduced_skip c.args.row.now c.args.factor.now c.args.pivot_row.now.items c.loop-k.row c.loop-k.k (c.is_zero.ensures.0 w.if-not-is_zero.false)
          (c.requires.narrow c.loop-k.k (omega arith)) c.loop-k.invariant)
    ]
