use Rattle.script_reader.proofs.Readings.{answers_two, answers_gives, pairs}
use Rattle.script_reader.proofs.arguments.label.Goals as goal

pub returns : goal.returns
returns c = answers_two _ _ _ _ _ c.in-Some.ensures (answers_gives _ _ (pairs _ _ _ _ c.in-Ok.ensures c.in-Ok-copy_text.ensures))
