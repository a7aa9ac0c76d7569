use Rattle.script_reader.proofs.Readings.{answers_one, answers_gives}
use Rattle.script_reader.proofs.arguments.text.Goals as goal

pub returns-in-Ok : goal.returns-in-Ok
returns-in-Ok c = answers_one _ _ _ _ c.in-Some.ensures (answers_gives _ _ c.in-Ok.ensures)
