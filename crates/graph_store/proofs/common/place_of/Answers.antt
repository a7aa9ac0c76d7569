use Rattle.std.proofs.Common.{◌∙◌, ◌≡◌, ◌+◌, sym, subst, arith}
use Rattle.graph_store.proofs.CommonLemmas.{sought_above, sought_below, Sought}
use Rattle.graph_store.proofs.common.place_of.Goals as goal

pub loop-low-preserved-then-is_below : goal.loop-low-preserved-then-is_below
loop-low-preserved-then-is_below c =
    let probe = c.loop-low.low + c.min-ahead.result in
    let same : probe + 1 ≡ c.loop-low.low + (c.min-ahead.result + 1) = omega arith in
    subst (λ low. Sought c.args.node.0 c.args.nodes.now low c.loop-low.high) same
    (sought_above c.args.node.0 c.args.nodes.now c.loop-low.low c.loop-low.high probe c.requires.rise (omega arith) (omega (arith, c.min-ahead.ensures, c.loop-low-test.true)) (sym c.is_below.ensures ∙ c.if-is_below.true) c.loop-low.invariant)

pub loop-low-preserved : goal.loop-low-preserved
loop-low-preserved c =
    sought_below c.args.node.0 c.args.nodes.now c.loop-low.low c.loop-low.high (c.loop-low.low + c.min-ahead.result) c.requires.rise (omega arith) (omega (arith, c.min-ahead.ensures, c.loop-low-test.true)) (sym c.is_below.ensures ∙ c.if-is_below.false) c.loop-low.invariant
