use Rattle.std.proofs.Common.{◌≤◌, arith}
use Rattle.std.proofs.lemmas.Nat.Gcd.{le_of_dvd}
use Rattle.fractions.proofs.Parts.{wrap_same}
use Rattle.std.specs.Prelude.{pos}
use Rattle.number_rows.proofs.Over.{top_is, nothing_over}
use Rattle.number_rows.proofs.bottoms.top_over.Goals as goal

pub overflow_cast-top : goal.overflow_cast-top
overflow_cast-top c =
    let x = c.args.number.now in
    let le : x.den ≤ c.args.bottom = le_of_dvd c.requires.positive c.requires.divides in
    rw (wrap_same c.denominator.result (pos x.den) c.denominator.ensures.narrow c.denominator.ensures.value) (tt, omega (arith, le, c.requires.small))

pub returns : goal.returns
returns c =
    top_is c.args.number.now c.numerator-own.result c.denominator.result c.args.bottom c.unsigned_abs.result c.unsigned_abs-2.result c.numerator-own.ensures.value c.numerator-own.ensures.narrow c.denominator.ensures.value c.denominator.ensures.narrow
    c.requires.divides c.requires.positive c.requires.small c.unsigned_abs.ensures.value (omega (arith, c.if-unsigned_abs.false)) c.unsigned_abs-2.ensures.value (omega (arith, c.if-unsigned_abs-2.false))

pub returns-then-own-eq0 : goal.returns-then-own-eq0
returns-then-own-eq0 c =
    (nothing_over c.args.number.now c.numerator-own.result c.args.bottom c.numerator-own.ensures.value c.numerator-own.ensures.narrow c.requires.divides c.requires.positive c.if-own-eq0.true, omega arith)
