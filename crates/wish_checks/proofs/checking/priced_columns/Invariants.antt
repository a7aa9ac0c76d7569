use Rattle.std.proofs.Common.{◌≡◌, ◌++◌, drop, map}
use Rattle.wish_checks.specs.Answers.{priced_column}
use Rattle.wish_checks.proofs.checking.priced_columns.Given as goal

abbrev pub invariant-loop-row : goal.invariant-loop-row
invariant-loop-row l = l.columns.items ++ map (priced_column l.game l.power) (drop l.row-index l.rows) ≡ map (priced_column l.game l.power) l.rows
