use Rattle.script_reader.proofs.Readings.{answers_one}
use Rattle.script_reader.proofs.arguments.node.Goals as goal

pub returns : goal.returns
returns c = answers_one _ _ _ _ c.in-Some.ensures c.object_word.ensures
