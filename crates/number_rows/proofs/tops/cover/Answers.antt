use Rattle.std.proofs.lemmas.Nat.{le_or_l, le_or_r, or_lt}
use Rattle.number_rows.proofs.tops.cover.Goals as goal

pub returns-clause-first : goal.returns-clause-first
returns-clause-first c = le_or_l c.args.a c.args.b

pub returns-clause-second : goal.returns-clause-second
returns-clause-second c = le_or_r c.args.a c.args.b

pub returns-clause-small : goal.returns-clause-small
returns-clause-small c = λ first second. or_lt 62 c.args.a c.args.b first second
