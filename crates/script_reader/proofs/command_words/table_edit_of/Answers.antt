-- Each word is looked up in the table.
use Rattle.std.proofs.Common.{sym, ap}
use Rattle.script_reader.specs.Commands.{table_word}
use Rattle.script_reader.proofs.command_words.table_edit_of.Goals as goal

pub returns-in-table : goal.returns-in-table
returns-in-table c = sym (ap table_word c.in-table.is)

pub returns-in-untable : goal.returns-in-untable
returns-in-untable c = sym (ap table_word c.in-untable.is)

pub returns-in-row : goal.returns-in-row
returns-in-row c = sym (ap table_word c.in-row.is)

pub returns-in-unrow : goal.returns-in-unrow
returns-in-unrow c = sym (ap table_word c.in-unrow.is)

pub returns-in-price : goal.returns-in-price
returns-in-price c = sym (ap table_word c.in-price.is)

pub returns-in-want : goal.returns-in-want
returns-in-want c = sym (ap table_word c.in-want.is)

pub returns-in-import : goal.returns-in-import
returns-in-import c = sym (ap table_word c.in-import.is)

pub returns-in-surplus : goal.returns-in-surplus
returns-in-surplus c = sym (ap table_word c.in-surplus.is)

pub returns-in-power : goal.returns-in-power
returns-in-power c = sym (ap table_word c.in-power.is)
