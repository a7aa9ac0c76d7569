use Rattle.std.proofs.Common.{◌∙◌, ◌-◌, arith, sym}
use Rattle.graph_store.proofs.AmongLemmas.{at_place, below_those, past_those}
use Rattle.graph_store.proofs.among.is_of_those.Goals as goal

pub returns-then-node-first : goal.returns-then-node-first
returns-then-node-first g c = sym (below_those (g.P.Test.passes c.args.test.now) c.args.things.now c.args.first c.args.node.0 (omega (arith, c.if-node-first.true)))

pub returns-then-place-things : goal.returns-then-place-things
returns-then-place-things g c =
    c.passes.ensures
    ∙ at_place (g.P.Test.passes c.args.test.now) c.args.things.now c.args.first (c.args.node.0 - c.args.first) c.args.node.0 c.index-things-place.result (omega (arith, c.if-node-first.false)) (omega (arith, c.if-place-things.true)) c.index-things-place.is

pub returns-else-place-things : goal.returns-else-place-things
returns-else-place-things g c =
    past_those (g.P.Test.passes c.args.test.now) c.args.things.now c.args.first (c.args.node.0 - c.args.first) c.args.node.0 (omega (arith, c.if-node-first.false)) (omega (arith, c.if-place-things.false))
