use Rattle.std.proofs.Common.{rules, sym, ap, ◌∙◌}
use Rattle.script_reader.specs.Commands.{command_word}
use Rattle.script_reader.proofs.Said.{no_words_said, unknown_said}
use Rattle.script_reader.proofs.commands.read_words.Goals as goal

pub returns-in_default : goal.returns-in_default
returns-in_default c = no_words_said c.args.words.now (search rules)

pub returns-in-None : goal.returns-in-None
returns-in-None c = unknown_said c.args.words.now c.in-Some.first.now c.in-Some.rest.now (search rules) (ap command_word (sym c.as_str.ensures) ∙ (sym c.command_of.ensures ∙ c.in-None.is))
