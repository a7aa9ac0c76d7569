-- A line that is read, and a script of too many lines.
use Rattle.std.proofs.Common.{◌≡◌, ◌<◌, ℕ, List, length, arith, refl, inr, false, []}
use Rattle.std.specs.Prelude.{Option, Result, Ok, Err, codes}
use Rattle.std.specs.Io.KnownBytes.{Appends}
use Rattle.linear_table.specs.declared.SolveAnswer.{SolveAnswer}
use Rattle.planner_core.specs.Lines.{Planned}
use Rattle.script_reader.specs.declared.fault.ScriptFault.{ScriptFault}
use Rattle.script_reader.specs.declared.fault.ScriptFault.TheVariants as fault
use Rattle.script_reader.specs.Reading.{Answers}
use Rattle.plan_io.specs.declared.ends.ScriptEnd.{ScriptEnd}
use Rattle.plan_io.specs.declared.ends.ScriptEnd.TheVariants.{Done, NoMemory, SomeRefused, TooManyLines, WriteFault}
use Rattle.script_runner.specs.Answers.{is_no_memory}
use Rattle.script_runner.specs.Leaves.{Leaves}
use Rattle.plan_io.specs.Lines.{lines_of}
use Rattle.script_runner.specs.Scripts.{EndsScript, is_cut}
use Rattle.script_runner.specs.TrialLines.{TellsMany}
use Rattle.plan_io.specs.Writing.{AppendsFront}

pub ends_long : (first : Planned) (script : List ℕ) (solved : List SolveAnswer) (before after : Option (List ℕ)) (steps : ℕ) → solved ≡ [] → 100_000 < length (lines_of script) → Appends before after (codes "too long script lines\n")
    → Leaves (EndsScript first script solved) is_cut before after steps steps TooManyLines
unfolding EndsScript
ends_long first script solved before after steps none many appends =
    record { text = codes "too long script lines\n"; work = 0; ends = record { many = many; none = none; told = refl; takes = refl }; adds = appends; steps = omega arith; later = omega arith }

pub cuts_long : (first : Planned) (script : List ℕ) (solved : List SolveAnswer) (before after : Option (List ℕ)) (steps : ℕ) → solved ≡ [] → 100_000 < length (lines_of script) → AppendsFront before after (codes "too long script lines\n")
    → Leaves (EndsScript first script solved) is_cut before after steps steps WriteFault
unfolding EndsScript
cuts_long first script solved before after steps none many front =
    record { text = codes "too long script lines\n"; work = 0; ends = inr (record { many = many; none = none; told = refl; takes = refl }); adds = front; steps = omega arith; later = omega arith }

-- a script of too many lines, told or cut off
pub ends_many : (first : Planned) (script : List ℕ) (solved : List SolveAnswer) (before after : Option (List ℕ)) (steps : ℕ) (end : ScriptEnd) → solved ≡ [] → 100_000 < length (lines_of script) → TellsMany before after end
    → Leaves (EndsScript first script solved) is_cut before after steps steps end
ends_many first script solved before after steps TooManyLines none many told = ends_long first script solved before after steps none many told
ends_many first script solved before after steps WriteFault none many told = cuts_long first script solved before after steps none many told
ends_many first script solved before after steps Done none many told = absurd told
ends_many first script solved before after steps SomeRefused none many told = absurd told
ends_many first script solved before after steps NoMemory none many told = absurd told
