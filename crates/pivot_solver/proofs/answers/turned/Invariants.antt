use Rattle.std.proofs.Common.{◌≡◌}
use Rattle.fractions.specs.Fraction.{negated}
use Rattle.linear_table.specs.Plans.{number_at}
use Rattle.pivot_solver.specs.Numbers.{ListsEach}
use Rattle.pivot_solver.proofs.answers.turned.Given as goal

abbrev pub invariant-loop-g : goal.invariant-loop-g
invariant-loop-g l = ListsEach l.g (λ g x. x ≡ negated (number_at l.row.items g)) l.prices.items
