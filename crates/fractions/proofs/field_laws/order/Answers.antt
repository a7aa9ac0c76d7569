use Rattle.fractions.proofs.Order.{≤ʳ_or_<ʳ, <ʳ_not_≤ʳ, ≤ʳ_refl, ≤ʳ_antisymm, ≤ʳ_trans}
use Rattle.fractions.proofs.field_laws.order.Goals as goal

pub returns : goal.returns
returns c = record { total = ≤ʳ_or_<ʳ; strict = <ʳ_not_≤ʳ; refl = ≤ʳ_refl; antisymm = ≤ʳ_antisymm; trans = ≤ʳ_trans }
