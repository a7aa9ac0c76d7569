use Rattle.plan_report.proofs.Read.{spells-line, spells-object, spells-printed}
use Rattle.plan_report.proofs.laws.printed_words_are_read.Goals as goal

pub returns : goal.returns
returns c = record { word = spells-printed; line = spells-line; object = spells-object }
