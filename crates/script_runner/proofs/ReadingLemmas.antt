-- A line that is read.
use Rattle.std.proofs.Common.{◌≡◌, false}
use Rattle.std.specs.Prelude.{Result, Ok, Err}
use Rattle.script_reader.specs.declared.fault.ScriptFault.{ScriptFault}
use Rattle.script_reader.specs.declared.fault.ScriptFault.TheVariants as fault
use Rattle.script_reader.specs.Reading.{Answers}
use Rattle.script_runner.specs.Answers.{is_no_memory}

-- a fault that is told
pub fault_read : {A : Type 0} (reading : Result A ScriptFault → Type 0) (why : ScriptFault) → Answers reading (Err why) → is_no_memory why ≡ false → reading (Err why)
unfolding Answers
fault_read reading fault.UnknownCommand read told = read
fault_read reading fault.WrongWords read told = read
fault_read reading fault.BadNumber read told = read
fault_read reading fault.BadQuoting read told = read
fault_read reading fault.BadObject read told = read
fault_read reading fault.NoMemory read told = cc

pub value_read : {A : Type 0} (reading : Result A ScriptFault → Type 0) (value : A) → Answers reading (Ok value) → reading (Ok value)
unfolding Answers
value_read reading value read = read
