use Rattle.std.proofs.Common.{◌∙◌}
use Rattle.planning_state.proofs.QuestionLemmas.{base-within, rank-is}
use Rattle.planning_state.proofs.planning.Planning.rank.Goals as goal

pub rank-requires : goal.rank-requires
rank-requires c = base-within c.args.self.now c.self.inside.book c.self.inside.tables.items c.self.inside.graph c.self.inside.worlds c.self.view_is c.self.invariant.0 c.args.node.0 c.requires

pub returns : goal.returns
returns c = c.rank.ensures ∙ rank-is c.args.self.now c.self.inside.book c.self.inside.tables.items c.self.inside.graph c.self.inside.worlds c.self.view_is c.self.invariant.0 c.args.node.0 c.requires
