use Rattle.std.proofs.Common.{◌∙◌, ap, length}
use Rattle.planning_state.proofs.QuestionLemmas.{base-within, mask-is}
use Rattle.planning_state.proofs.planning.Planning.mask_len.Goals as goal

pub mask_len-requires : goal.mask_len-requires
mask_len-requires c = base-within c.args.self.now c.self.inside.book c.self.inside.tables.items c.self.inside.graph c.self.inside.worlds c.self.view_is c.self.invariant.0 c.args.node.0 c.requires

pub returns-clause-count : goal.returns-clause-count
returns-clause-count c = c.mask_len.ensures.count ∙ ap length (mask-is c.args.self.now c.self.inside.book c.self.inside.tables.items c.self.inside.graph c.self.inside.worlds c.self.view_is c.self.invariant.0 c.args.node.0)
