use Rattle.std.proofs.Common.{length}
use Rattle.solve_tables.proofs.reading.read_parts.Given as goal

abbrev pub decreases-loop-rest : goal.decreases-loop-rest
decreases-loop-rest l = length l.rest
