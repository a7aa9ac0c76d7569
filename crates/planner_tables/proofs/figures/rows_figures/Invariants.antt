use Rattle.std.proofs.Common.{◌≡◌, ◌++◌, Ok, drop, map}
use Rattle.planner_tables.specs.Figures.{rows_figures}
use Rattle.planner_tables.proofs.figures.rows_figures.Given as goal

abbrev pub invariant-loop-i : goal.invariant-loop-i
invariant-loop-i l = l.figures.items ++ rows_figures (map Ok (drop l.i l.rows)) (drop l.i l.rates) ≡ rows_figures (map Ok l.rows) l.rates
