use Rattle.script_reader.proofs.Same.{same_command}
use Rattle.script_reader.proofs.One.{one_command, one_line}
use Rattle.script_reader.proofs.words.commands_of_words.Goals as goal

pub returns : goal.returns
returns c = record { one = one_command; line = one_line; same = same_command }
