use Rattle.std.proofs.Common.{◌≤◌, ◌^◌, arith, lit<}
use Rattle.std.proofs.Math.Nat.{one-le-pow, pow-le-pow_right}
use Rattle.fractions.proofs.numeral.rounded.Goals as goal

pub overflow_mul-result-2 : goal.overflow_mul-result-2
overflow_mul-result-2 c =
    let h : 10 ^ c.args.places ≤ 10 ^ 16 = pow-le-pow_right (lit< tt) c.requires.few in
    omega (arith, c.pow-unit.ensures, h)

pub nonzero_div-result : goal.nonzero_div-result
nonzero_div-result c = omega (arith, c.pow-unit.ensures, one-le-pow c.args.places 10 (lit< tt))
