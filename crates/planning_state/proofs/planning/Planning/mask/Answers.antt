use Rattle.std.proofs.Common.{◌≡◌, IfOk, subst}
use Rattle.planning_state.proofs.QuestionLemmas.{base-within, mask-is}
use Rattle.planning_state.proofs.planning.Planning.mask.Goals as goal

pub mask-requires : goal.mask-requires
mask-requires c = base-within c.args.self.now c.self.inside.book c.self.inside.tables.items c.self.inside.graph c.self.inside.worlds c.self.view_is c.self.invariant.0 c.args.node.0 c.requires

pub returns : goal.returns
returns c = subst (λ ms. IfOk c.mask.result (λ nodes. nodes.items ≡ ms)) (mask-is c.args.self.now c.self.inside.book c.self.inside.tables.items c.self.inside.graph c.self.inside.worlds c.self.view_is c.self.invariant.0 c.args.node.0) c.mask.ensures
