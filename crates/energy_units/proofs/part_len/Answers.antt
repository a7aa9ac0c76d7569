use Rattle.std.proofs.Common.{arith, ap, length, take, drop, ◌-◌, length-append, length-drop}
use Rattle.std.proofs.lemmas.List.{length-take}
use Rattle.fractions.specs.Digits.{front_digits, behind_digits}
use Rattle.fractions.proofs.Run.{front-behind}
use Rattle.energy_units.proofs.part_len.Goals as goal

pub returns-in_default-len-clause-within : goal.returns-in_default-len-clause-within
returns-in_default-len-clause-within c =
    let s = c.args.text.now in
    let t = take (length s - 1) (drop 1 s) in
    omega (arith, ap length c.split_digits.ensures.front, ap length (front-behind t), length-append (front_digits t) (behind_digits t), length-take (length s - 1) (drop 1 s), length-drop 1 s, c.in-46.len_at_least)
