use Rattle.milestone_masks.proofs.LawLemmas.{mask-same}
use Rattle.milestone_masks.proofs.laws.masks_are_of_the_worlds.Goals as goal

pub returns : goal.returns
returns c = λ rows barred granted kept node whole are.
    mask-same rows barred granted node kept.milestones (λ m. record { barred = whole.barred; granted = whole.granted }) are.each
