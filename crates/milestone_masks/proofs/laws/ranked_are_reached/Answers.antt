use Rattle.milestone_masks.proofs.LawLemmas.{ranked-reached}
use Rattle.milestone_masks.proofs.laws.ranked_are_reached.Goals as goal

pub returns : goal.returns
returns c = ranked-reached
