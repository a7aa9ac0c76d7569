use Rattle.std.proofs.Common.{◌≡◌, ◌-◌, ◌∙◌, [], List, ap, refl, subst, sym}
use Rattle.std.specs.Prelude.{Some}
use Rattle.linear_table.specs.declared.SolveAnswer.{SolveAnswer}
use Rattle.script_runner.specs.Leaves.{Leaves}
use Rattle.run_inputs.specs.AskedWords.{asked_seen, mode_seen}
use Rattle.run_inputs.specs.Begun.{BeginsFiles}
use Rattle.run_inputs.specs.Early.{is_cut}
use Rattle.planner_cli.specs.Ending.{EndsRun}
use Rattle.run_inputs.specs.Words.{Asked, Check, FileNames, Files, Prove, Run, Sample}
use Rattle.run_inputs.specs.declared.words.FileMode.{FileMode as ModeWords}
use Rattle.planner_cli.proofs.asked.run_asked.Goals as goal

pub returns-in-Run-clause-leaves : goal.returns-in-Run-clause-leaves
returns-in-Run-clause-leaves g c =
    let names : FileNames = record { dump = c.in-Files.dump.now; script = c.in-Files.script.now } in
    let is : asked_seen c.args.asked ≡ Files Run names = ap asked_seen c.in-Files.is ∙ ap (λ (m : ModeWords). Files (mode_seen m) names) c.in-Run.is in
    subst (λ (a : Asked). Leaves (EndsRun (g.S.Store.shelf c.args.store.now) (Some a) (c.run_files.new.steps - c.args.steps.now) c.run_files.new.solved.items) is_cut (g.K.Sink.written c.args.out.now) (g.K.Sink.written c.run_files.new.out) c.args.steps.now c.run_files.new.steps c.run_files.result)
    (sym is) c.run_files.ensures.leaves

pub returns-in-Run-clause-begins : goal.returns-in-Run-clause-begins
returns-in-Run-clause-begins g c =
    let names : FileNames = record { dump = c.in-Files.dump.now; script = c.in-Files.script.now } in
    let is : asked_seen c.args.asked ≡ Files Run names = ap asked_seen c.in-Files.is ∙ ap (λ (m : ModeWords). Files (mode_seen m) names) c.in-Run.is in
    subst (λ (a : Asked). BeginsFiles (g.S.Store.shelf c.args.store.now) (Some a) (g.S.Store.begun c.args.store.now) (g.S.Store.begun c.run_files.new.store) c.run_files.result) (sym is) c.run_files.ensures.begins

pub returns-in-Prove-clause-leaves : goal.returns-in-Prove-clause-leaves
returns-in-Prove-clause-leaves g c =
    let names : FileNames = record { dump = c.in-Files.dump.now; script = c.in-Files.script.now } in
    let is : asked_seen c.args.asked ≡ Files Prove names = ap asked_seen c.in-Files.is ∙ ap (λ (m : ModeWords). Files (mode_seen m) names) c.in-Prove.is in
    subst (λ (a : Asked). Leaves (EndsRun (g.S.Store.shelf c.args.store.now) (Some a) (c.run_files-in-Prove.new.steps - c.args.steps.now) c.run_files-in-Prove.new.solved.items) is_cut (g.K.Sink.written c.args.out.now) (g.K.Sink.written c.run_files-in-Prove.new.out) c.args.steps.now c.run_files-in-Prove.new.steps c.run_files-in-Prove.result)
    (sym is) c.run_files-in-Prove.ensures.leaves

pub returns-in-Prove-clause-begins : goal.returns-in-Prove-clause-begins
returns-in-Prove-clause-begins g c =
    let names : FileNames = record { dump = c.in-Files.dump.now; script = c.in-Files.script.now } in
    let is : asked_seen c.args.asked ≡ Files Prove names = ap asked_seen c.in-Files.is ∙ ap (λ (m : ModeWords). Files (mode_seen m) names) c.in-Prove.is in
    subst (λ (a : Asked). BeginsFiles (g.S.Store.shelf c.args.store.now) (Some a) (g.S.Store.begun c.args.store.now) (g.S.Store.begun c.run_files-in-Prove.new.store) c.run_files-in-Prove.result) (sym is) c.run_files-in-Prove.ensures.begins

pub returns-in-Check-clause-leaves : goal.returns-in-Check-clause-leaves
returns-in-Check-clause-leaves g c =
    let names : FileNames = record { dump = c.in-Files.dump.now; script = c.in-Files.script.now } in
    let is : asked_seen c.args.asked ≡ Files (Check c.in-Check.cert.now) names = ap asked_seen c.in-Files.is ∙ ap (λ (m : ModeWords). Files (mode_seen m) names) c.in-Check.is in
    let leaves = subst (λ (a : Asked). Leaves (EndsRun (g.S.Store.shelf c.args.store.now) (Some a) (c.check_files.new.steps - c.args.steps.now) []) is_cut (g.K.Sink.written c.args.out.now) (g.K.Sink.written c.check_files.new.out) c.args.steps.now c.check_files.new.steps c.check_files.result)
    (sym is) c.check_files.ensures.leaves in
    subst (λ (solved : List SolveAnswer). Leaves (EndsRun (g.S.Store.shelf c.args.store.now) (Some (asked_seen c.args.asked)) (c.check_files.new.steps - c.args.steps.now) solved) is_cut (g.K.Sink.written c.args.out.now) (g.K.Sink.written c.check_files.new.out) c.args.steps.now c.check_files.new.steps c.check_files.result)
    (sym c.requires.none_yet) leaves

pub returns-in-Check-clause-begins : goal.returns-in-Check-clause-begins
returns-in-Check-clause-begins g c =
    let names : FileNames = record { dump = c.in-Files.dump.now; script = c.in-Files.script.now } in
    let is : asked_seen c.args.asked ≡ Files (Check c.in-Check.cert.now) names = ap asked_seen c.in-Files.is ∙ ap (λ (m : ModeWords). Files (mode_seen m) names) c.in-Check.is in
    subst (λ (a : Asked). BeginsFiles (g.S.Store.shelf c.args.store.now) (Some a) (g.S.Store.begun c.args.store.now) (g.S.Store.begun c.check_files.new.store) c.check_files.result) (sym is) c.check_files.ensures.begins

pub returns-in-Sample-clause-leaves : goal.returns-in-Sample-clause-leaves
returns-in-Sample-clause-leaves g c =
    let is : asked_seen c.args.asked ≡ Sample c.in-Sample.number c.in-Sample.size = ap asked_seen c.in-Sample.is in
    subst (λ (a : Asked). Leaves (EndsRun (g.S.Store.shelf c.args.store.now) (Some a) (c.run_sample.new.steps - c.args.steps.now) c.run_sample.new.solved.items) is_cut (g.K.Sink.written c.args.out.now) (g.K.Sink.written c.run_sample.new.out) c.args.steps.now c.run_sample.new.steps c.run_sample.result)
    (sym is) (c.run_sample.ensures.leaves (g.S.Store.shelf c.args.store.now))

pub returns-in-Sample-clause-begins : goal.returns-in-Sample-clause-begins
returns-in-Sample-clause-begins g c =
    let is : asked_seen c.args.asked ≡ Sample c.in-Sample.number c.in-Sample.size = ap asked_seen c.in-Sample.is in
    subst (λ (a : Asked). BeginsFiles (g.S.Store.shelf c.args.store.now) (Some a) (g.S.Store.begun c.args.store.now) (g.S.Store.begun c.args.store.now) c.run_sample.result) (sym is) refl
