use Rattle.script_reader.proofs.Spelling.{one_reading}
use Rattle.script_reader.proofs.Same.{bare_or_quoted, in_line}
use Rattle.script_reader.proofs.words.words_of_a_line.Goals as goal

pub returns : goal.returns
returns c = record { one = one_reading; quoted = bare_or_quoted; anywhere = in_line }
