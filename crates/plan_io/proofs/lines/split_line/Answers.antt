use Rattle.std.proofs.Common.{sym}
use Rattle.plan_io.proofs.LinesLemmas.{cut_lines_at, cut_lines_none}
use Rattle.plan_io.proofs.lines.split_line.Goals as goal

pub returns-in-Some-clause-lines : goal.returns-in-Some-clause-lines
returns-in-Some-clause-lines c = cut_lines_at c.args.bytes.now c.in-Some.end (sym c.in-Some.ensures)

pub returns-in-None-clause-lines : goal.returns-in-None-clause-lines
returns-in-None-clause-lines c = cut_lines_none c.args.bytes.now c.requires (sym c.in-None.ensures)
