use Rattle.std.proofs.Common.{◌∙◌, ap}
use Rattle.std.specs.Prelude.{nat_lt}
use Rattle.planning_state.proofs.QuestionLemmas.{base-within, reached-is}
use Rattle.planning_state.proofs.planning.Planning.is_reached.Goals as goal

pub rank-requires : goal.rank-requires
rank-requires c = base-within c.args.self.now c.self.inside.book c.self.inside.tables.items c.self.inside.graph c.self.inside.worlds c.self.view_is c.self.invariant.0 c.args.node.0 c.requires

pub returns : goal.returns
returns c = ap (nat_lt 0) c.rank.ensures ∙ reached-is c.args.self.now c.self.inside.book c.self.inside.tables.items c.self.inside.graph c.self.inside.worlds c.self.view_is c.self.invariant.0 c.args.node.0
