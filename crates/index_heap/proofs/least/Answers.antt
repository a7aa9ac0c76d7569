-- The least is the root's, or that of the node that waits.
use Rattle.std.proofs.Common.{arith}
use Rattle.index_heap.proofs.TreeLemmas.{heap-least}
use Rattle.index_heap.proofs.least.Goals as goal

pub returns-clause-some : goal.returns-clause-some
returns-clause-some c =
    rw c.lesser_entry.ensures (rw c.decoded.ensures (heap-least c.args.keys.now c.args.tree.now c.args.waiting (omega (arith, c.if-keys-eq0.false)) (λ i lt. omega (arith, c.type_inv.tree i)) c.requires).0)

pub returns-clause-none : goal.returns-clause-none
returns-clause-none c =
    rw c.lesser_entry.ensures (rw c.decoded.ensures (heap-least c.args.keys.now c.args.tree.now c.args.waiting (omega (arith, c.if-keys-eq0.false)) (λ i lt. omega (arith, c.type_inv.tree i)) c.requires).1)
