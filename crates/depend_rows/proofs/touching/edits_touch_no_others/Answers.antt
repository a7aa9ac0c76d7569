use Rattle.depend_rows.proofs.TouchLemmas.{touches_all}
use Rattle.depend_rows.proofs.touching.edits_touch_no_others.Goals as goal

pub returns : goal.returns
returns c = λ edit book _. touches_all edit book
