use Rattle.std.proofs.Common.{◌≡◌, ◌++◌, drop}
use Rattle.std.specs.Prelude.{Ok}
use Rattle.game_types.specs.Steps.{◌▸◌}
use Rattle.production_table.specs.Linear.{columns_of}
use Rattle.production_table.proofs.Forms.{HasFiguresTo}
use Rattle.production_table.proofs.linear.columns_of.Given as goal

abbrev pub invariant-loop-row : goal.invariant-loop-row
invariant-loop-row l =
    (columns_of l.game l.power l.rows ≡ (columns_of l.game l.power (drop l.row-index l.rows) ▸ λ rest. Ok (l.columns.items ++ rest)))
    × HasFiguresTo l.game l.rows l.row-index l.figures.items
