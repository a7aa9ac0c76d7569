use Rattle.std.proofs.Common.{◌+◌}
use Rattle.pivot_solver.specs.Numbers.{IsBasicValue, ListsEach}
use Rattle.pivot_solver.proofs.answers.values.Given as goal

abbrev pub invariant-loop-j : goal.invariant-loop-j
invariant-loop-j l = ListsEach l.j (λ j x. IsBasicValue l.basis l.rows l.width (l.goods + j) x) l.rates.items
