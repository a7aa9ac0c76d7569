use Rattle.page_rows.proofs.NumberLemmas.{near_text_is}
use Rattle.page_rows.proofs.numbers.near_text.Goals as goal

pub returns : goal.returns
returns c = near_text_is c.args.number.now c.in_ok-text.ensures.0 _ c.in_ok-text.ensures.1 c.in_ok-text.ensures.2
