use Rattle.std.proofs.Common.{arith}
use Rattle.json_text.proofs.Marks.{all_blanks, blanks_within, blanks_before}
use Rattle.json_text.proofs.scan.blank_lanes.Goals as goal

pub returns-then-mask-eq0-clause-blanks : goal.returns-then-mask-eq0-clause-blanks
returns-then-mask-eq0-clause-blanks c = all_blanks c.args.bytes.now c.args.at c.requires c.if-mask-eq0.true

pub returns-else-mask-eq0-clause-within : goal.returns-else-mask-eq0-clause-within
returns-else-mask-eq0-clause-within c = blanks_within c.args.bytes.now c.args.at c.requires (omega (arith, c.if-mask-eq0.false))

pub returns-else-mask-eq0-clause-blanks : goal.returns-else-mask-eq0-clause-blanks
returns-else-mask-eq0-clause-blanks c = blanks_before c.args.bytes.now c.args.at c.requires (omega (arith, c.if-mask-eq0.false))
