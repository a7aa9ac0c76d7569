use Rattle.std.proofs.Common.{take, ◌++◌}
use Rattle.fractions.specs.Leading.{IsLeading}
use Rattle.fractions.proofs.numeral.leading_digits.Given as goal

abbrev pub invariant-loop-digit : goal.invariant-loop-digit
invariant-loop-digit l = IsLeading (take l.digit-index l.whole) l.seen

abbrev pub invariant-loop-digit-2 : goal.invariant-loop-digit-2
invariant-loop-digit-2 l = IsLeading (l.whole ++ take l.digit-index l.part) l.seen
