-- One row more was read.
use Rattle.std.proofs.Common.{◌∙◌, ◌+◌, List, Bor, All, ap, arith, drop, map, length, slice_get, subst, sym, take}
use Rattle.std.proofs.lemmas.List.{get_or-drop, length-drop}
use Rattle.std.proofs.lemmas.List.Elements.{All-push}
use Rattle.plan_base.specs.declared.NodeId.{NodeId}
use Rattle.graph_store.specs.declared.Row.{Row}
use Rattle.graph_store.specs.Rows.{HasMembersBelow}
use Rattle.milestone_masks.specs.Found.{AreRowsOf}
use Rattle.milestone_masks.proofs.Gathered.{get-all, row-read}
use Rattle.milestone_masks.proofs.row_blocks.rows_of.Goals as goal

pub loop-k-preserved : goal.loop-k-preserved
loop-k-preserved g c = record {
  long = omega (arith, c.in_ok-push.ensures.len, c.loop-k.invariant.long);
  members = subst
      (λ (l : List (Bor Row)). All (λ (r : Bor Row). HasMembersBelow (length (g.R.Rows.rows c.args.rows.now)) r.now) l)
      (sym c.in_ok-push.ensures.items)
      (All-push
      (λ (r : Bor Row). HasMembersBelow (length (g.R.Rows.rows c.args.rows.now)) r.now)
      c.loop-k.block.items
      c.packed.result
      c.loop-k.invariant.members
      (get-all (HasMembersBelow (length (g.R.Rows.rows c.args.rows.now))) (g.R.Rows.rows c.args.rows.now) _ c.packed.result.now c.packed.ensures.row c.len-count.ensures.members));
  rows = subst
      (λ (l : List (Bor Row)). AreRowsOf (g.R.Rows.rows c.args.rows.now) (take (c.loop-k.k + 1) (drop c.args.start c.args.nodes.now)) (map (λ (r : Bor Row). r.now) l))
      (sym c.in_ok-push.ensures.items)
      (row-read (λ (r : Bor Row). r.now) c.loop-k.block.items c.packed.result (g.R.Rows.rows c.args.rows.now) (drop c.args.start c.args.nodes.now) c.loop-k.k (record { 0 = 0 })
      (omega (arith, c.loop-k-test.true, c.requires.within, length-drop c.args.start c.args.nodes.now))
      c.loop-k.invariant.rows
      (ap (λ (n : NodeId). slice_get (g.R.Rows.rows c.args.rows.now) n.0) (get_or-drop c.args.start c.args.nodes.now c.loop-k.k (record { 0 = 0 })) ∙ c.packed.ensures.row));
  steps = omega (arith, c.packed.ensures.step, c.loop-k.invariant.steps);
  later = omega (arith, c.packed.ensures.later, c.loop-k.invariant.later);
}
