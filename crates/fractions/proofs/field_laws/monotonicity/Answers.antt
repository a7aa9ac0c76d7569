use Rattle.fractions.proofs.Order.{+ʳ-≤ʳ, +ʳ-<ʳ, *ʳ-≤ʳ, *ʳ-<ʳ, negated-≤ʳ}
use Rattle.fractions.proofs.field_laws.monotonicity.Goals as goal

pub returns : goal.returns
returns c = record { sum = +ʳ-≤ʳ; strict_sum = +ʳ-<ʳ; product = *ʳ-≤ʳ; strict_product = *ʳ-<ʳ; negated = negated-≤ʳ }
