use Rattle.fractions.proofs.Laws.{one-ne-zero, *ʳ-inverse, /ʳ-*ʳ, *ʳ_cancel}
use Rattle.fractions.proofs.field_laws.inverses.Goals as goal

pub returns : goal.returns
returns c = record { one = one-ne-zero; inverse = *ʳ-inverse; quotient = /ʳ-*ʳ; cancel = *ʳ_cancel }
