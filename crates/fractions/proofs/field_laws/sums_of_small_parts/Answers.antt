use Rattle.std.proofs.Common.{lit≤}
use Rattle.fractions.specs.Fraction.{negated}
use Rattle.fractions.proofs.Bounds.{sum_fits_below, negated_below}
use Rattle.fractions.proofs.field_laws.sums_of_small_parts.Goals as goal

pub returns : goal.returns
returns c = record { sum = λ x y p q. sum_fits_below x y 62 62 (lit≤ tt) p q; difference = λ x y p q. sum_fits_below x (negated y) 62 62 (lit≤ tt) p (negated_below y 62 q) }
