-- A node that wasn't among those found stands at their end.
use Rattle.milestone_masks.proofs.WhyLemmas.{seen-noted}
use Rattle.milestone_masks.proofs.supports.note.Goals as goal

pub returns-clause-seen : goal.returns-clause-seen
returns-clause-seen c =
    seen-noted c.args.found.now c.add.new.self c.args.seen.now c.args.node c.requires.seen c.requires.node c.in_ok-add.ensures
