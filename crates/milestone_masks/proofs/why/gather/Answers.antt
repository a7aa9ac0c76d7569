-- A block more was visited; there are no more nodes than there are marks.
use Rattle.std.proofs.Common.{◌∙◌, List, arith, subst, sym}
use Rattle.plan_base.specs.declared.NodeId.{NodeId}
use Rattle.milestone_masks.specs.Found.{IsFound}
use Rattle.milestone_masks.proofs.Gathered.{gathered-block, gathered-done}
use Rattle.milestone_masks.proofs.WhyLemmas.{found-few}
use Rattle.milestone_masks.proofs.why.gather.Goals as goal

pub loop-i-smaller : goal.loop-i-smaller
loop-i-smaller g c =
    omega (
      arith,
      found-few c.loop-i.found c.loop-i.seen c.loop-i.invariant.seen,
      c.loop-i-test.true,
      c.len.ensures,
      c.len-in-loop-i.ensures,
      c.saturating_add.ensures,
      c.min-end.ensures,
      c.len-count.ensures.few,
      c.requires.long,
      c.note.auto.seen,
      c.loop-i.auto.seen,
      c.visit_block.auto.seen,
    )

pub loop-i-preserved : goal.loop-i-preserved
loop-i-preserved g c = record {
  gathered = gathered-block
      (g.R.Rows.rows c.args.rows.now)
      c.args.granted.now
      c.args.ranks.now
      c.args.node.0
      c.loop-i.i
      c.min-end.result
      c.loop-i.found
      c.visit_block.new.found
      (omega (arith, c.loop-i-test.true, c.len.ensures, c.len-in-loop-i.ensures, c.saturating_add.ensures, c.min-end.ensures))
      (omega (arith, c.len-in-loop-i.ensures, c.min-end.ensures))
      c.loop-i.invariant.gathered
      c.in_ok-visit_block.ensures.grows;
  seen = c.in_ok-visit_block.ensures.seen;
  steps = omega (arith, c.visit_block.ensures.steps, c.loop-i.invariant.steps);
  later = omega (arith, c.visit_block.ensures.later, c.loop-i.invariant.later);
}

pub returns-clause-found : goal.returns-clause-found
returns-clause-found g c =
    subst
    (λ (nodes : List NodeId). IsFound (g.R.Rows.rows c.args.rows.now) c.args.granted.now c.args.ranks.now c.args.node.0 nodes)
    (sym c.into_vec.ensures)
    (gathered-done
    (g.R.Rows.rows c.args.rows.now)
    c.args.granted.now
    c.args.ranks.now
    c.args.node.0
    c.loop-i.i
    c.loop-i.found
    c.loop-i.seen
    (omega (arith, c.len.ensures, c.loop-i-test.false))
    c.loop-i.invariant.gathered
    c.loop-i.invariant.seen
    (c.loop-i.auto.seen ∙ (c.note.auto.seen ∙ c.requires.long)))
