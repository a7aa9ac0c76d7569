use Rattle.std.proofs.Common.{arith}
use Rattle.json_text.proofs.Marks.{all_digits, digits_within, digits_before}
use Rattle.json_text.proofs.number_ends.digit_lanes.Goals as goal

pub returns-then-mask-eq0-clause-digits : goal.returns-then-mask-eq0-clause-digits
returns-then-mask-eq0-clause-digits c = all_digits c.args.bytes.now c.args.at c.requires c.if-mask-eq0.true

pub returns-else-mask-eq0-clause-within : goal.returns-else-mask-eq0-clause-within
returns-else-mask-eq0-clause-within c = digits_within c.args.bytes.now c.args.at c.requires (omega (arith, c.if-mask-eq0.false))

pub returns-else-mask-eq0-clause-digits : goal.returns-else-mask-eq0-clause-digits
returns-else-mask-eq0-clause-digits c = digits_before c.args.bytes.now c.args.at c.requires (omega (arith, c.if-mask-eq0.false))
