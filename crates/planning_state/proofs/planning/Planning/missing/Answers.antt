use Rattle.std.proofs.Common.{◌≡◌, IfOk, subst}
use Rattle.planning_state.proofs.QuestionLemmas.{rows-within, missing-is}
use Rattle.planning_state.proofs.planning.Planning.missing.Goals as goal

pub missing-requires-clause-node : goal.missing-requires-clause-node
missing-requires-clause-node g c = rows-within c.args.self.now c.self.inside.book c.self.inside.tables.items c.self.inside.graph c.self.inside.worlds c.self.view_is c.self.invariant.0 c.args.node.0 c.requires

pub returns-clause-missing : goal.returns-clause-missing
returns-clause-missing g c = subst (λ gs. IfOk c.missing.result (λ groups. groups.items ≡ gs)) (missing-is c.args.self.now c.self.inside.book c.self.inside.tables.items c.self.inside.graph c.self.inside.worlds c.self.view_is c.self.invariant.0 c.args.node.0) c.missing.ensures.missing
