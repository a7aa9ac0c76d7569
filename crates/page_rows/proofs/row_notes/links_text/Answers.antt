use Rattle.std.proofs.Common.{◌++◌, ◌∙◌, List, ℕ, ap, string_bytes}
use Rattle.page_rows.specs.Rows.{link_at}
use Rattle.page_rows.proofs.Below.{below_more}
use Rattle.page_rows.proofs.row_notes.links_text.Goals as goal

pub loop-number-preserved : goal.loop-number-preserved
loop-number-preserved c =
    below_more (link_at c.args.line c.args.rows.now c.args.figures.now c.args.row.now) c.loop-number.number (string_bytes c.loop-number.text) (string_bytes c.push_str.new.self)
    (c.in_ok-push_str.ensures.bytes ∙ ap (λ (t : List ℕ). string_bytes c.loop-number.text ++ t) (c.as_str.ensures.value ∙ c.in_ok-link.ensures)) c.loop-number.invariant
