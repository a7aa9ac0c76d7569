use Rattle.data_edit.proofs.EffectLaw.{effect_law}
use Rattle.data_edit.proofs.laws.effects_are_changes.Goals as goal

pub returns-clause-accepted : goal.returns-clause-accepted
returns-clause-accepted c = λ edit book. (effect_law edit book).0

pub returns-clause-no_change : goal.returns-clause-no_change
returns-clause-no_change c = λ edit book. (effect_law edit book).1
