-- The nodes of the block were visited.
use Rattle.std.proofs.Common.{◌≡◌, ◌-◌, ℕ, List, Bor, arith, drop, length, map, subst, sym, take}
use Rattle.plan_base.specs.declared.NodeId.{NodeId}
use Rattle.graph_store.specs.declared.Row.{Row}
use Rattle.milestone_masks.specs.Found.{stood_on, AreRowsOf, Grows}
use Rattle.milestone_masks.proofs.Gathered.{on-ok}
use Rattle.milestone_masks.proofs.row_blocks.visit_block.Goals as goal

pub returns-then-are_at_hand-clause-grows : goal.returns-then-are_at_hand-clause-grows
returns-then-are_at_hand-clause-grows g c =
    let long : length c.deref-then-are_at_hand.result.now ≡ c.args.end - c.args.start = omega (arith, c.deref-then-are_at_hand.ensures.len, c.in_ok-block.ensures.long) in
    on-ok c.visit_rows.result _ _ (λ visited. subst
    (λ (n : ℕ). Grows (stood_on (g.R.Rows.rows c.args.rows.now) c.args.granted.now c.args.ranks.now (take n (drop c.args.start c.args.found.now))) c.args.found.now c.visit_rows.new.found)
    long
    (visited
    (g.R.Rows.rows c.args.rows.now)
    (subst
    (λ (n : ℕ). AreRowsOf (g.R.Rows.rows c.args.rows.now) (take n (drop c.args.start c.args.found.now)) (map (λ (r : Bor Row). r.now) c.deref-then-are_at_hand.result.now))
    (sym long)
    (subst
    (λ (l : List (Bor Row)). AreRowsOf (g.R.Rows.rows c.args.rows.now) (take (c.args.end - c.args.start) (drop c.args.start c.args.found.now)) (map (λ (r : Bor Row). r.now) l))
    (sym c.deref-then-are_at_hand.ensures.value)
    (subst
    (λ (nodes : List NodeId). AreRowsOf (g.R.Rows.rows c.args.rows.now) (take (c.args.end - c.args.start) (drop c.args.start nodes)) (map (λ (r : Bor Row). r.now) c.in_ok-block.block.items))
    c.as_slice.ensures
    c.in_ok-block.ensures.rows))))) c.visit_rows.ensures.grows
