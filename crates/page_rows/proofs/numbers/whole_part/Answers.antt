use Rattle.page_rows.proofs.NumberLemmas.{whole_is}
use Rattle.page_rows.proofs.numbers.whole_part.Goals as goal

pub returns : goal.returns
returns c = whole_is c.args.number.now c.rounded.result c.rounded.ensures
