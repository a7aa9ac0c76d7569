use Rattle.std.proofs.Common.{arith}
use Rattle.json_text.proofs.Lanes.{none_marked, first_within, first_marked}
use Rattle.json_text.proofs.strings.plain_lanes.Goals as goal

pub returns-then-mask-eq0-clause-plain : goal.returns-then-mask-eq0-clause-plain
returns-then-mask-eq0-clause-plain c = none_marked c.args.bytes.now c.args.at c.requires c.if-mask-eq0.true

pub returns-else-mask-eq0-clause-within : goal.returns-else-mask-eq0-clause-within
returns-else-mask-eq0-clause-within c = first_within c.args.bytes.now c.args.at c.requires (omega (arith, c.if-mask-eq0.false))

pub returns-else-mask-eq0-clause-plain : goal.returns-else-mask-eq0-clause-plain
returns-else-mask-eq0-clause-plain c = first_marked c.args.bytes.now c.args.at c.requires (omega (arith, c.if-mask-eq0.false))
