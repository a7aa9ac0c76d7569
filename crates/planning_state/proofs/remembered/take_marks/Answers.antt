use Rattle.std.proofs.Common.{◌+◌, List, subst}
use Rattle.std.proofs.Math.ListN.{drop}
use Rattle.std.proofs.lemmas.List.{drop_all, drop_more}
use Rattle.plan_base.specs.declared.ids.NodeId.{NodeId}
use Rattle.planning_state.specs.Remembered.{AreMarksBut}
use Rattle.planning_state.proofs.RememberedLemmas.{all-taken, mark-taken}
use Rattle.planning_state.proofs.remembered.take_marks.Goals as goal

pub loop-node-preserved : goal.loop-node-preserved
loop-node-preserved c =
    mark-taken c.args.book.now _ (drop (c.loop-node.node-index + 1) c.args.nodes.now) c.loop-node.marks c.take_mark.new.marks (c.requires.nodes c.loop-node.node-index _ c.loop-node-test.true)
    (subst (λ (nodes : List NodeId). AreMarksBut nodes c.args.book.now c.loop-node.marks) (drop_more c.args.nodes.now c.loop-node.node-index _ c.loop-node-test.true) c.loop-node.invariant)
    c.take_mark.ensures.barred c.take_mark.ensures.granted

pub returns : goal.returns
returns c =
    all-taken c.args.book.now c.loop-node.marks
    (subst (λ (nodes : List NodeId). AreMarksBut nodes c.args.book.now c.loop-node.marks) (drop_all c.loop-node.node-index c.args.nodes.now c.loop-node-test.false) c.loop-node.invariant)
