-- Each turn mends one place, and leaves at most the one above it.
use Rattle.std.proofs.Common.{◌≡◌, ℕ, ap, sym, ◌+◌, ◌*◌, min, arith, ◌∙◌, ◌/◌, ◌<◌, length-set, get_or-set_same, refl}
use Rattle.index_heap.specs.Tree.{entry_at}
use Rattle.index_heap.proofs.TreeLemmas.{climb-ends, climb-step, entry-set_other, lesser-of_both}
use Rattle.index_heap.proofs.put.Goals as goal

pub climb-preserved : goal.climb-preserved
climb-preserved c =
    let above : c.climb.j / 2 < c.args.n = omega (arith, c.climb.invariant.inside) in
    let both : c.min-least.result ≡ min (entry_at c.climb.tree (2 * (c.climb.j / 2))) (entry_at c.climb.tree (2 * (c.climb.j / 2) + 1)) =
    c.min-least.ensures ∙ (ap (λ (i : ℕ). min c.climb.least (entry_at c.climb.tree i)) c.sibling.ensures ∙ lesser-of_both c.climb.tree c.climb.j c.climb.least c.climb.invariant.least) in
    record {
      long = length-set c.climb.tree (c.climb.j / 2) c.min-least.result ∙ c.climb.invariant.long;
      positive = omega arith;
      inside = omega arith;
      least = get_or-set_same c.climb.tree (c.climb.j / 2) c.min-least.result 0 (omega (arith, c.climb.invariant.long));
      but = climb-step c.climb.tree c.args.n (c.climb.j / 2) c.min-least.result c.climb.invariant.long (omega arith) above c.climb.invariant.but both;
      here = entry-set_other c.climb.tree (c.climb.j / 2) c.args.at c.min-least.result (λ e. omega (arith, c.requires.leaf)) ∙ c.climb.invariant.here;
      others = λ i le lt ne. entry-set_other c.climb.tree (c.climb.j / 2) i c.min-least.result (λ e. omega arith) ∙ c.climb.invariant.others i le lt ne;
    }

pub returns-then-tree-j-clause-after : goal.returns-then-tree-j-clause-after
returns-then-tree-j-clause-after c =
    let both : c.min-least.result ≡ min (entry_at c.climb.tree (2 * (c.climb.j / 2))) (entry_at c.climb.tree (2 * (c.climb.j / 2) + 1)) =
    c.min-least.ensures ∙ (ap (λ (i : ℕ). min c.climb.least (entry_at c.climb.tree i)) c.sibling.ensures ∙ lesser-of_both c.climb.tree c.climb.j c.climb.least c.climb.invariant.least) in
    climb-ends c.climb.tree c.args.n (c.climb.j / 2) c.climb.invariant.but (c.if-tree-j.true ∙ both)
