use Rattle.std.proofs.Common.{◌++◌, ◌∙◌, List, ℕ, ap, string_bytes}
use Rattle.page_rows.specs.Rows.{row_at}
use Rattle.page_rows.proofs.Below.{below_more}
use Rattle.page_rows.proofs.rows.rows_text.Goals as goal

pub loop-number-preserved : goal.loop-number-preserved
loop-number-preserved c =
    below_more (row_at c.args.game.now c.args.line c.args.rows.now c.args.rates.now c.args.figures.now) c.loop-number.number (string_bytes c.loop-number.text) (string_bytes c.push_str.new.self)
    (c.in_ok-push_str.ensures.bytes ∙ ap (λ (t : List ℕ). string_bytes c.loop-number.text ++ t) (c.as_str.ensures.value ∙ c.in_ok-row.ensures)) c.loop-number.invariant
