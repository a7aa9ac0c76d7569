use Rattle.fractions.proofs.Common.{dvd-lcm_left, dvd-lcm_right, lcm-dvd, num_over_same}
use Rattle.fractions.proofs.field_laws.common_denominator.Goals as goal

pub returns : goal.returns
returns c = record { first = λ x y. dvd-lcm_left x.den y.den; second = λ x y. dvd-lcm_right x.den y.den; least = λ x y d p q. lcm-dvd x.den y.den d y.positive p q; numerator = num_over_same }
