use Rattle.fractions.proofs.Laws.{+ʳ_comm, +ʳ_assoc, +ʳ-zero, +ʳ-negated, *ʳ_comm, *ʳ_assoc, *ʳ-one, *ʳ-+ʳ}
use Rattle.fractions.proofs.field_laws.ring.Goals as goal

pub returns : goal.returns
returns c = record { sum_comm = +ʳ_comm; sum_assoc = +ʳ_assoc; sum_zero = +ʳ-zero; sum_opposite = +ʳ-negated; product_comm = *ʳ_comm; product_assoc = *ʳ_assoc; product_one = *ʳ-one; product_sum = *ʳ-+ʳ }
