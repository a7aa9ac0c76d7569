use Rattle.number_rows.proofs.Steps.{IsReducedBelow}
use Rattle.number_rows.proofs.ratios.reduce_numbers.Given as goal

abbrev pub invariant-loop-k : goal.invariant-loop-k
invariant-loop-k l = IsReducedBelow l.initial.row l.factor l.pivot_row.items l.row l.k
