use Rattle.std.proofs.Common.{◌∙◌, ap}
use Rattle.std.proofs.Common.{length}
use Rattle.planning_state.proofs.QuestionLemmas.{granted-long, nodes-of-why, rows-within, why-is}
use Rattle.planning_state.proofs.WhyLemma.{whys}
use Rattle.planning_state.proofs.planning.Planning.why.Goals as goal

pub why-requires-clause-granted : goal.why-requires-clause-granted
why-requires-clause-granted g c = ap length c.as_slice.ensures ∙ granted-long c.args.self.now c.self.inside.book c.self.inside.tables.items c.self.inside.graph c.self.inside.worlds c.self.view_is c.self.invariant.0

pub why-requires-clause-node : goal.why-requires-clause-node
why-requires-clause-node g c = rows-within c.args.self.now c.self.inside.book c.self.inside.tables.items c.self.inside.graph c.self.inside.worlds c.self.view_is c.self.invariant.0 c.args.node.0 c.requires

pub returns-clause-why : goal.returns-clause-why
returns-clause-why g c = whys c.why.result _ _ (λ nodes why. why-is c.args.self.now c.self.inside.book c.self.inside.tables.items c.self.inside.graph c.self.inside.worlds c.self.view_is c.self.invariant.0 c.as_slice.result.now c.args.node.0 nodes.items c.as_slice.ensures why) c.why.ensures.why

pub returns-clause-nodes : goal.returns-clause-nodes
returns-clause-nodes g c = whys c.why.result _ _ (λ nodes why. nodes-of-why c.args.self.now c.self.inside.book c.self.inside.tables.items c.self.inside.graph c.self.inside.worlds c.self.view_is c.self.invariant.0 c.as_slice.result.now c.args.node.0 nodes.items c.requires why) c.why.ensures.why
