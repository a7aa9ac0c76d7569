use Rattle.std.proofs.Common.{arith, ap, length, length-append}
use Rattle.fractions.specs.Digits.{front_digits, behind_digits}
use Rattle.fractions.proofs.Run.{front-behind}
use Rattle.energy_units.proofs.whole_len.Goals as goal

pub returns-in_default-clause-within : goal.returns-in_default-clause-within
returns-in_default-clause-within c =
    let t = c.args.text.now in
    omega (arith, ap length c.split_digits.ensures.front, ap length (front-behind t), length-append (front_digits t) (behind_digits t))
