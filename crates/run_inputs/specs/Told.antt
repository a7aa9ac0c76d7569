-- How a run ends whose script was answered, and the line of its steps.
use Rattle.std.specs.Prelude.{◌≡◌, ◌++◌, ℕ, Bool, true, false, List, [], Option, codes, decimal}
use Rattle.plan_io.specs.Writing.{Adds}
use Rattle.plan_io.specs.declared.ends.ScriptEnd.{ScriptEnd}
use Rattle.plan_io.specs.declared.ends.ScriptEnd.TheVariants as script
use Rattle.run_inputs.specs.declared.status.Status.{Status}
use Rattle.run_inputs.specs.declared.status.Status.TheVariants.{Done, SomeRefused, WriteFault, NoMemory, TooLong}
use Rattle.run_inputs.specs.declared.status.Long.TheVariants.{ScriptLines}
use Rattle.run_inputs.specs.Early.{is_cut}

-- the status of a run whose script ended so
abbrev pub status_of : ScriptEnd → Status
status_of script.Done = Done
status_of script.SomeRefused = SomeRefused
status_of script.TooManyLines = TooLong ScriptLines
status_of script.WriteFault = WriteFault
status_of script.NoMemory = NoMemory

-- whether every line was answered
abbrev pub is_answered : ScriptEnd → Bool
is_answered script.Done = true
is_answered script.SomeRefused = true
is_answered other = false

abbrev pub steps_line : ℕ → List ℕ
steps_line taken = codes "steps " ++ (decimal taken ++ codes "\n")

-- the line of the steps where it was told: whole, or none where memory for it could not be had
abbrev pub AreStepsTold : ScriptEnd → ℕ → Status → List ℕ → Type 0
AreStepsTold end taken WriteFault text = text ≡ steps_line taken
AreStepsTold end taken NoMemory text = text ≡ []
AreStepsTold end taken status text = (status ≡ status_of end) × (text ≡ steps_line taken)

-- the line was written, or a front of it where writing was cut off
pub record TellsSteps (end : ScriptEnd) (taken : ℕ) (before after : Option (List ℕ)) (status : Status) : Type 0 where
  pub text : List ℕ
  pub told : AreStepsTold end taken status text
  pub adds : Adds (is_cut status) before after text
