use Rattle.std.proofs.Common.{arith}
use Rattle.std.proofs.lemmas.Int.{fits_signed_from_abs}
use Rattle.std.specs.Int.{w128}
use Rattle.number_rows.proofs.Broad.{wide_is, wide_size}
use Rattle.number_rows.proofs.wide.wide_combined.Goals as goal

pub overflow_sub-result : goal.overflow_sub-result
overflow_sub-result c = fits_signed_from_abs w128 _ (wide_size c.args.top c.args.other c.args.factor c.args.scale c.requires.scale (omega (arith, c.requires.top)) c.requires.other (omega (arith, c.requires.factor)) c.requires.first c.requires.second)

pub returns-clause-value : goal.returns-clause-value
returns-clause-value c = (wide_is c.args.top c.args.other c.args.factor c.args.scale c.requires.scale (omega (arith, c.requires.top)) c.requires.other (omega (arith, c.requires.factor)) c.requires.first c.requires.second).value

pub returns-clause-small : goal.returns-clause-small
returns-clause-small c = (wide_is c.args.top c.args.other c.args.factor c.args.scale c.requires.scale (omega (arith, c.requires.top)) c.requires.other (omega (arith, c.requires.factor)) c.requires.first c.requires.second).small
