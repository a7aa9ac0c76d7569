use Rattle.std.proofs.Common.{List, sym, subst}
use Rattle.std.specs.Prelude.{All}
use Rattle.table_rows.specs.Setups.{IsFitting}
use Rattle.production_table.specs.declared.tables.TableRow.{TableRow}
use Rattle.production_table.specs.Tables.{is_label}
use Rattle.planner_tables.proofs.QuestionLemmas.{found_all}
use Rattle.planner_tables.proofs.rates.row_rates_of.Goals as goal

pub rates_of-requires-clause-fits : goal.rates_of-requires-clause-fits
rates_of-requires-clause-fits c =
    found_all (λ (row : TableRow). IsFitting c.args.game.now row.setup) (is_label c.as_str.result.now) c.as_slice.result.now c.in-Some.row.now (sym c.in-Some.ensures)
    (subst (λ (rows : List TableRow). All (λ row. IsFitting c.args.game.now row.setup) rows) (sym c.as_slice.ensures) c.requires.table.rows)
