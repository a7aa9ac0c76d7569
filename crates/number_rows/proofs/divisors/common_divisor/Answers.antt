use Rattle.std.proofs.Common.{◌∙◌, arith}
use Rattle.fractions.specs.Gcd.{gcd-mod}
use Rattle.number_rows.proofs.Lists.{result_is, one_is, IsCommonDivisor, divisor_told}
use Rattle.number_rows.proofs.divisors.common_divisor.Goals as goal

pub loop-b-preserved : goal.loop-b-preserved
loop-b-preserved c = gcd-mod c.loop-b.a c.loop-b.b ∙ c.loop-b.invariant

pub returns-then-b-eq0 : goal.returns-then-b-eq0
returns-then-b-eq0 c =
    let t : IsCommonDivisor c.loop-b.a c.args.first c.args.second = divisor_told _ _ _ (result_is _ _ _ _ c.loop-b.invariant c.if-b-eq0.true) in
    record { exact = t.exact; positive = t.positive; first = t.first_divided; second = t.second_divided }

pub returns-else-b-eq0 : goal.returns-else-b-eq0
returns-else-b-eq0 c =
    let t : IsCommonDivisor 1 c.args.first c.args.second = divisor_told _ _ _ (one_is _ _ _ _ c.loop-b.invariant (omega (arith, c.loop-b-test.false, c.if-b-eq0.false))) in
    record { exact = t.exact; positive = t.positive; first = t.first_divided; second = t.second_divided }
