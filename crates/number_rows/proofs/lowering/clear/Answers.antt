use Rattle.std.proofs.Common.{arith, refl}
use Rattle.number_rows.proofs.Quotients.{zero_more, zero_all}
use Rattle.number_rows.proofs.lowering.clear.Goals as goal

pub loop-k-preserved : goal.loop-k-preserved
loop-k-preserved c = zero_more c.loop-k.tops c.loop-k.k _ (omega arith) refl c.loop-k.invariant

pub returns-clause-zero : goal.returns-clause-zero
returns-clause-zero c = zero_all c.loop-k.tops (λ j q. c.loop-k.invariant j (omega arith))
