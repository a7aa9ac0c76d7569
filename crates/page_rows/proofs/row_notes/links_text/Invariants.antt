use Rattle.std.proofs.Common.{string_bytes}
use Rattle.page_rows.specs.Rows.{link_at}
use Rattle.page_rows.proofs.Below.{TextBelow}
use Rattle.page_rows.proofs.row_notes.links_text.Given as goal

abbrev pub invariant-loop-number : goal.invariant-loop-number
invariant-loop-number l = TextBelow (link_at l.line l.rows l.figures l.row) l.number (string_bytes l.text)
