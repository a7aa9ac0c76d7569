use Rattle.std.proofs.Common.{length}
use Rattle.script_outputs.proofs.lines.over_lines.Given as goal

abbrev pub decreases-loop-line : goal.decreases-loop-line
decreases-loop-line g l = length l.lines.rest.now
