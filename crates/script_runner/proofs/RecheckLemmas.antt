-- What a check of a script makes of the certificate that was told of it.
use Rattle.std.proofs.Common.{◌≡◌, ◌≢◌, ◌+◌, ℕ, List, Bool, true, false, arith, ap, sym, refl, ◌∙◌}
use Rattle.std.specs.Prelude.{◌==◌, ◌&&◌, not}
use Rattle.std.proofs.lemmas.Bool.Decides.{nat_tests}
use Rattle.certificate_file.specs.declared.CertEntry.{CertEntry}
use Rattle.certificate_file.proofs.Once.{said_once}
use Rattle.linear_table.specs.declared.SolveAnswer.{SolveAnswer}
use Rattle.state_changes.specs.States.{State}
use Rattle.planner_core.specs.Lines.{IsSessionOf, Planned}
use Rattle.certificate_file.specs.Said.{IsCertificate}
use Rattle.script_runner.specs.Certificates.{CertifiesAll, EndsProof}
use Rattle.script_runner.specs.Checks.{EndsCheck}
use Rattle.plan_io.specs.Lines.{lines_of}
use Rattle.script_runner.specs.Rechecks.{AreProvedButWide, IsNeverWide, IsProof, wide_count}
use Rattle.script_runner.specs.Trials.{IsTrial, Judged, form_count, is_passed, proved_count, some_said_refused}
use Rattle.plan_io.specs.declared.ends.ScriptEnd.{ScriptEnd}
use Rattle.plan_io.specs.declared.ends.ScriptEnd.TheVariants.{Done, SomeRefused, TooManyLines, WriteFault, NoMemory}
use Rattle.script_runner.proofs.PairLemmas.{recheck_fine}

certified_fine : (base : State) (first : Planned) (script certificate : List ℕ) (solved : List SolveAnswer) (entries : List CertEntry) (steps : ℕ) (judged : List Judged) (last : Planned) → IsSessionOf base first
    → CertifiesAll false first script solved certificate steps → IsCertificate certificate entries → IsTrial entries 1 first (lines_of script) judged last → AreProvedButWide judged
certified_fine base first script certificate solved entries steps judged last from all says trial =
    let told = all.tells.tells in
    recheck_fine base entries first (lines_of script) judged told.answers last told.last from trial told.session all.tells.refuses (said_once certificate entries _ says all.says)

pub proved_but_wide : (first : Planned) (script certificate : List ℕ) (entries : List CertEntry) (judged : List Judged) (last : Planned) → IsProof first script certificate entries → IsTrial entries 1 first (lines_of script) judged last → AreProvedButWide judged
unfolding EndsProof
proved_but_wide first script certificate entries judged last proof trial = certified_fine proof.base first script certificate proof.solved entries proof.steps judged last proof.grown proof.ends proof.says trial

passed : (refused : Bool) (proved wide forms : ℕ) → refused ≡ false → proved + wide ≡ forms → wide ≡ 0 → is_passed refused proved forms ≡ true
passed refused proved wide forms accepted counted none =
    let same : (proved == forms) ≡ true = grind (arith, nat_tests) in
    ap (λ (b : Bool). not b && (proved == forms)) accepted ∙ same

pub ends_done : (first : Planned) (script certificate : List ℕ) (entries : List CertEntry) (end : ScriptEnd) (text : List ℕ) (steps : ℕ) → IsProof first script certificate entries → IsNeverWide entries first script
    → EndsCheck entries first script end text steps → end ≢ NoMemory → end ≢ WriteFault → end ≡ Done
unfolding EndsCheck
ends_done first script certificate entries Done text steps proof narrow ends memory writes = refl
ends_done first script certificate entries SomeRefused text steps proof narrow ends memory writes =
    let trial = ends.judges.trial in
    let fine = proved_but_wide first script certificate entries ends.judges.judged ends.judges.last proof trial in
    let holds : true ≡ false =
    sym (passed (some_said_refused ends.judges.judged) (proved_count ends.judges.judged) (wide_count ends.judges.judged) (form_count ends.judges.judged) fine.accepted fine.counted (narrow ends.judges.judged ends.judges.last trial)) ∙ ends.passes in
    cc
ends_done first script certificate entries TooManyLines text steps proof narrow ends memory writes = absurd ends
ends_done first script certificate entries NoMemory text steps proof narrow ends memory writes = absurd (memory refl)
ends_done first script certificate entries WriteFault text steps proof narrow ends memory writes = absurd (writes refl)
