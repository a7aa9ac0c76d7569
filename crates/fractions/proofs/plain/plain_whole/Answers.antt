use Rattle.std.proofs.Common.{arith}
use Rattle.fractions.proofs.plain.plain_whole.Goals as goal
use Rattle.fractions.proofs.Ceiling.{gcd-one}

pub with_sign-requires : goal.with_sign-requires
with_sign-requires c = record { positive = omega arith; lowest = gcd-one c.in-Some.top; narrow_top = omega (arith, c.in-Some.ensures.0, c.in-Some.ensures.1); narrow_bottom = omega arith }
