use Rattle.std.proofs.Common.{Err, subst}
use Rattle.milestone_masks.specs.Worlds.{AddAnswer}
use Rattle.planning_state.proofs.MilestoneLemmas.{not-already, not-full}
use Rattle.planning_state.proofs.milestones.put_milestone.Goals as goal

pub unreachable-requires : goal.unreachable-requires
unreachable-requires g c =
    not-already c.args.book.now c.args.worlds.now c.args.node c.args.place c.requires.place c.requires.fits
    (subst (λ f. AddAnswer (Err f) c.args.worlds.now.milestones c.args.node.0) c.in-Err-Already.field-0-is c.in-Err-Already.ensures.answer)

pub unreachable-requires-in-Err-Full : goal.unreachable-requires-in-Err-Full
unreachable-requires-in-Err-Full g c =
    not-full c.args.book.now c.args.worlds.now c.args.node c.args.place c.requires.place c.requires.fits
    ((subst (λ f. AddAnswer (Err f) c.args.worlds.now.milestones c.args.node.0) c.in-Err-Full.field-0-is c.in-Err-Full.ensures.answer).1)

pub unreachable-requires-in-Err-NotOne : goal.unreachable-requires-in-Err-NotOne
unreachable-requires-in-Err-NotOne g c = subst (λ f. AddAnswer (Err f) c.args.worlds.now.milestones c.args.node.0) c.in-Err-NotOne.field-0-is c.in-Err-NotOne.ensures.answer
