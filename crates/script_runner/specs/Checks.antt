-- How a script ends that is checked against claims, the text that this leaves, and within how many steps.
use Rattle.std.specs.Prelude.{◌≡◌, ◌⊎◌, ◌++◌, ℕ, Bool, true, false, List, take}
use Rattle.planner_core.specs.Lines.{Planned}
use Rattle.certificate_file.specs.declared.CertEntry.{CertEntry}
use Rattle.plan_io.specs.declared.ends.ScriptEnd.{ScriptEnd}
use Rattle.plan_io.specs.declared.ends.ScriptEnd.TheVariants.{Done, SomeRefused, TooManyLines, WriteFault, NoMemory}
use Rattle.plan_io.specs.Lines.{lines_of}
use Rattle.script_runner.specs.Trials.{IsTrial, Judged, form_count, is_passed, proved_count, some_said_refused, tally_line, trial_text, trial_work}

-- these lines are judged so, with this text and within so many steps
pub record Judges (entries : List CertEntry) (first : Planned) (lines : List (List ℕ)) (text : List ℕ) (steps : ℕ) : Type 0 where
  pub judged : List Judged
  pub last : Planned
  pub trial : IsTrial entries 1 first lines judged last
  pub told : text ≡ trial_text judged
  pub takes : steps ≡ trial_work judged

-- all lines are judged, and the tally is told behind them
pub record JudgesAll (passed : Bool) (entries : List CertEntry) (first : Planned) (script : List ℕ) (text : List ℕ) (steps : ℕ) : Type 0 where
  pub lines_text : List ℕ
  pub judges : Judges entries first (lines_of script) lines_text steps
  pub told : text ≡ lines_text ++ tally_line (proved_count judges.judged) (form_count judges.judged)
  pub passes : is_passed (some_said_refused judges.judged) (proved_count judges.judged) (form_count judges.judged) ≡ passed

-- so many of the first lines are judged
pub record JudgesSome (entries : List CertEntry) (first : Planned) (script : List ℕ) (text : List ℕ) (steps : ℕ) : Type 0 where
  pub count : ℕ
  pub judges : Judges entries first (take count (lines_of script)) text steps

-- From this planner the script ends so, with this text and within so many steps: done where each form is proved and nothing is refused.
-- Where memory is wanted for a line, the steps of the lines before it are known, and those of that line are not. Where writing was cut
-- off, the text is the one of which a front is written.
unfoldable pub EndsCheck : List CertEntry → Planned → List ℕ → ScriptEnd → List ℕ → ℕ → Type 0
EndsCheck entries first script Done text steps = JudgesAll true entries first script text steps
EndsCheck entries first script SomeRefused text steps = JudgesAll false entries first script text steps
EndsCheck entries first script TooManyLines text steps = ⊥
EndsCheck entries first script NoMemory text steps = (those : ℕ) × JudgesSome entries first script text those
EndsCheck entries first script WriteFault text steps = JudgesSome entries first script text steps ⊎ ((passed : Bool) × JudgesAll passed entries first script text steps)
