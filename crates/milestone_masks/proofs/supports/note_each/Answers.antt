-- The nodes of all numbers were added.
use Rattle.milestone_masks.proofs.NumberLemmas.{all-noted}
use Rattle.milestone_masks.proofs.supports.note_each.Goals as goal

pub returns-clause-grows : goal.returns-clause-grows
returns-clause-grows c = all-noted c.args.nodes.now c.loop-m.m-index c.args.found.now c.loop-m.found c.loop-m-test.false c.loop-m.invariant.grows
