use Rattle.std.proofs.Common.{◌≡◌, drop}
use Rattle.planner_tables.specs.Figures.{nothing, summed}
use Rattle.planner_tables.proofs.figures.summed.Given as goal

abbrev pub invariant-loop-row : goal.invariant-loop-row
invariant-loop-row l = summed l.sum (drop l.row-index l.rows) ≡ summed nothing l.rows
