use Rattle.std.proofs.Common.{string_bytes}
use Rattle.page_rows.specs.Rows.{row_at}
use Rattle.page_rows.proofs.Below.{TextBelow}
use Rattle.page_rows.proofs.rows.rows_text.Given as goal

abbrev pub invariant-loop-number : goal.invariant-loop-number
invariant-loop-number l = TextBelow (row_at l.game l.line l.rows l.rates l.figures) l.number (string_bytes l.text)
