-- Each word is looked up in the table.
use Rattle.std.proofs.Common.{sym, ap}
use Rattle.script_reader.specs.Commands.{session_word}
use Rattle.script_reader.proofs.command_words.session_of.Goals as goal

pub returns-in-quiet : goal.returns-in-quiet
returns-in-quiet c = sym (ap session_word c.in-quiet.is)

pub returns-in-undo : goal.returns-in-undo
returns-in-undo c = sym (ap session_word c.in-undo.is)

pub returns-in-redo : goal.returns-in-redo
returns-in-redo c = sym (ap session_word c.in-redo.is)

pub returns-in-batch : goal.returns-in-batch
returns-in-batch c = sym (ap session_word c.in-batch.is)

pub returns-in-end : goal.returns-in-end
returns-in-end c = sym (ap session_word c.in-end.is)

pub returns-in-cancel : goal.returns-in-cancel
returns-in-cancel c = sym (ap session_word c.in-cancel.is)
