use Rattle.std.proofs.Common.{sym}
use Rattle.script_reader.specs.Lines.{command_of_line}
use Rattle.script_runner.proofs.ReadingLemmas.{fault_read, value_read}
use Rattle.script_runner.proofs.reading.reading_of.Goals as goal

pub returns-in-Ok : goal.returns-in-Ok
returns-in-Ok c = value_read (command_of_line c.args.line.now) c.in-Ok.command c.in-Ok.ensures

pub returns-else-is_no_memory : goal.returns-else-is_no_memory
returns-else-is_no_memory c = fault_read (command_of_line c.args.line.now) c.in-Err.fault c.in-Err.ensures (sym c.if-is_no_memory.ensures)
