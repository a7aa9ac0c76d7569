use Rattle.std.proofs.Common.{sym, subst}
use Rattle.fractions.specs.Fraction.{Fraction, zero_fraction, ◌<ʳ◌}
use Rattle.power_rows.proofs.Positive.{at_most_positive, shut_positive}
use Rattle.power_rows.proofs.generators.limited.Goals as goal

pub returns-in-Some-clause-positive : goal.returns-in-Some-clause-positive
returns-in-Some-clause-positive c =
    subst (λ (x : Fraction). zero_fraction <ʳ x) (sym c.at_most.ensures)
    (at_most_positive c.in-Some.output c.args.most.now (shut_positive c.args.output.now c.in-Some.output c.in-Some.is c.requires.output) c.requires.most)
