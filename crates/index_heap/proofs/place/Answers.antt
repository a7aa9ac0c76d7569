-- Who waits, or what the tree has, is as the node's next key wants it.
use Rattle.std.proofs.Common.{◌∙◌, sym}
use Rattle.std.proofs.lemmas.Bool.{OnTrue_at}
use Rattle.index_heap.proofs.TreeLemmas.{heap-waits, heap-stays, heap-written}
use Rattle.index_heap.proofs.place.Goals as goal

pub returns-then-may_wait : goal.returns-then-may_wait
returns-then-may_wait c =
    rw c.with_node.ensures (heap-waits c.args.keys.now c.args.tree.now c.args.waiting.now c.args.node c.args.key c.requires.node c.requires.heap (sym c.may_wait.ensures ∙ c.if-may_wait.true))

pub returns-then-is_same_key : goal.returns-then-is_same_key
returns-then-is_same_key c =
    heap-stays c.args.keys.now c.args.tree.now c.args.waiting.now c.args.node c.args.key c.requires.heap (OnTrue_at c.if-is_same_key.true c.is_same_key.ensures)

pub returns : goal.returns
returns c =
    heap-written c.args.keys.now c.args.tree.now c.put.new.tree c.args.waiting.now c.args.node c.args.key c.requires.node c.requires.heap (sym c.may_wait.ensures ∙ c.if-may_wait.false)
    c.put.ensures.long c.put.ensures.after (c.put.ensures.here ∙ c.encoded.ensures) c.put.ensures.others
