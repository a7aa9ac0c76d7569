-- Checks of a script by the certificate that was told of it.
use Rattle.std.specs.Prelude.{◌≡◌, ◌+◌, ℕ, Bool, true, false, List, Option, Some, count_by}
use Rattle.linear_table.specs.declared.SolveAnswer.{SolveAnswer}
use Rattle.plan_certificate.specs.declared.CheckFault.{CheckFault}
use Rattle.plan_certificate.specs.declared.CheckFault.TheVariants as check
use Rattle.state_changes.specs.States.{State}
use Rattle.planner_core.specs.Lines.{IsSessionOf, Planned}
use Rattle.certificate_file.specs.Said.{IsCertificate}
use Rattle.certificate_file.specs.declared.CertEntry.{CertEntry}
use Rattle.script_runner.specs.Certificates.{EndsProof}
use Rattle.plan_io.specs.Lines.{lines_of}
use Rattle.script_runner.specs.Trials.{IsTrial, Judged, form_count, proved_count, some_said_refused}
use Rattle.plan_io.specs.declared.ends.ScriptEnd.TheVariants.{Done}
use Rattle.script_runner.specs.declared.verdict.Verdict.{Verdict}
use Rattle.script_runner.specs.declared.verdict.Verdict.TheVariants.{Rejected}

-- From a planner that grew from a base the lines of the script were answered, none was refused, and each table was settled. This
-- certificate was told of them, and these are its entries.
pub record IsProof (first : Planned) (script certificate : List ℕ) (entries : List CertEntry) : Type 0 where
  pub base : State
  pub grown : IsSessionOf base first
  pub solved : List SolveAnswer
  pub steps : ℕ
  pub ends : EndsProof first script solved Done certificate steps
  pub says : IsCertificate certificate entries

-- ---- sums that are wide
abbrev pub is_wide_sum : CheckFault → Bool
is_wide_sum check.WideSum = true
is_wide_sum other = false

-- whether a checker met a sum of which a step is wide
abbrev pub is_wide : Option Verdict → Bool
is_wide (Some (Rejected fault)) = is_wide_sum fault
is_wide other = false

-- of how many lines that is so
abbrev pub wide_count : List Judged → ℕ
wide_count judged = count_by (λ a. is_wide a.verdict) judged

-- however these lines are judged by the entries, no checker meets a wide sum
abbrev pub IsNeverWide : List CertEntry → Planned → List ℕ → Type 0
IsNeverWide entries first script = (judged : List Judged) (last : Planned) → IsTrial entries 1 first (lines_of script) judged last → wide_count judged ≡ 0

-- no line is refused, and each form is proved but those at which a checker met a wide sum
pub record AreProvedButWide (judged : List Judged) : Type 0 where
  pub accepted : some_said_refused judged ≡ false
  pub counted : proved_count judged + wide_count judged ≡ form_count judged
