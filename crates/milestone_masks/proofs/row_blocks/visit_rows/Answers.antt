-- One node more was visited.
use Rattle.std.proofs.Common.{◌∙◌, ◌+◌, ℕ, Bor, List, Some, arith, drop, get_or, subst, take}
use Rattle.plan_base.specs.declared.NodeId.{NodeId}
use Rattle.graph_store.specs.declared.Row.{Row}
use Rattle.milestone_masks.specs.Found.{stands_by, stood_on, Grows}
use Rattle.milestone_masks.proofs.Gathered.{row-visited}
use Rattle.milestone_masks.proofs.row_blocks.visit_rows.Goals as goal

pub loop-k-preserved : goal.loop-k-preserved
loop-k-preserved c = record {
  seen = c.in_ok-visit.ensures.seen;
  longer = omega (arith, c.loop-k.invariant.longer, c.in_ok-visit.ensures.grows.longer);
  kept = λ j d lt. c.in_ok-visit.ensures.grows.kept j d (omega (arith, c.loop-k.invariant.longer)) ∙ c.loop-k.invariant.kept j d lt;
  grows = λ rows of. row-visited
      (λ (r : Bor Row). r.now)
      c.args.block.now
      rows
      c.args.granted.now
      c.args.ranks.now
      c.args.start
      c.loop-k.k
      (record { 0 = 0 })
      c.index-block-k.result
      c.args.found.now
      c.loop-k.found
      c.visit.new.found
      c.requires.within
      (omega (arith, c.loop-k-test.true))
      c.loop-k.invariant.kept
      of
      (c.loop-k.invariant.grows rows of)
      (subst
      (λ (r : Bor Row). Grows (stands_by (Some r.now) c.args.granted.now c.args.ranks.now (get_or c.loop-k.found (c.args.start + c.loop-k.k) (record { 0 = 0 })).0) c.loop-k.found c.visit.new.found)
      c.index-block-k.is
      (subst
      (λ (nodes : List NodeId). Grows (stands_by (Some c.index-block-k.result.now) c.args.granted.now c.args.ranks.now (get_or nodes (c.args.start + c.loop-k.k) (record { 0 = 0 })).0) c.loop-k.found c.visit.new.found)
      c.as_slice.ensures
      c.in_ok-visit.ensures.grows));
}

pub returns-clause-grows : goal.returns-clause-grows
returns-clause-grows c = λ rows of.
    subst
    (λ (n : ℕ). Grows (stood_on rows c.args.granted.now c.args.ranks.now (take n (drop c.args.start c.args.found.now))) c.args.found.now c.loop-k.found)
    (omega (arith, c.loop-k.auto.k-end, c.loop-k-test.false))
    (c.loop-k.invariant.grows rows of)
