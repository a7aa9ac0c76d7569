use Rattle.std.proofs.Common.{◌-◌, ◌∙◌, [], arith, refl}
use Rattle.std.specs.Prelude.{Some}
use Rattle.plan_io.specs.Store.{Shelf}
use Rattle.script_runner.specs.Leaves.{Leaves}
use Rattle.run_inputs.specs.Begun.{BeginsFiles}
use Rattle.run_inputs.specs.Early.{is_cut}
use Rattle.planner_cli.specs.Ending.{EndsRun}
use Rattle.run_inputs.specs.Ready.{IsReady}
use Rattle.run_inputs.specs.Inputs.{IsScript}
use Rattle.run_inputs.specs.Words.{Check, FileNames, Files, Run}
use Rattle.run_inputs.specs.declared.status.Status.TheVariants.{Done}
use Rattle.planner_cli.proofs.CheckLemmas.{kept}
use Rattle.planner_cli.proofs.EndingLemmas.{begins_early, begins_told, early_files, is_no_cut, leaves_told}
use Rattle.planner_cli.proofs.modes.check_files.Goals as goal

pub tell-requires : goal.tell-requires
tell-requires g c = is_no_cut _ _ c.in-Err.early _ c.in-Err.ensures.ready

pub returns-in-Err-clause-leaves : goal.returns-in-Err-clause-leaves
returns-in-Err-clause-leaves g c =
    leaves_told (g.S.Store.shelf c.args.store.now) (Some (Files (Check c.args.cert.now) (record { dump = c.args.dump.now; script = c.args.script.now }))) [] c.in-Err.early _ _ c.args.steps.now c.read_files.new.steps c.tell.result refl
    (early_files (g.S.Store.shelf c.args.store.now) (Check c.args.cert.now) (record { dump = c.args.dump.now; script = c.args.script.now }) c.in-Err.early _ c.in-Err.ensures.ready) c.in-Err.ensures.later c.tell.ensures.tells

pub returns-in-Err-clause-begins : goal.returns-in-Err-clause-begins
returns-in-Err-clause-begins g c =
    begins_told (g.S.Store.shelf c.args.store.now) (Some (Files (Check c.args.cert.now) (record { dump = c.args.dump.now; script = c.args.script.now }))) (g.S.Store.begun c.args.store.now) (g.S.Store.begun c.read_files.new.store) c.in-Err.early c.tell.result
    c.tell.ensures.tells.text c.tell.ensures.tells.told
    (begins_early (g.S.Store.shelf c.args.store.now) (Check c.args.cert.now) (record { dump = c.args.dump.now; script = c.args.script.now }) _ _ c.in-Err.early _ c.in-Err.ensures.ready c.in-Err.ensures.begins)

pub returns-in-Ok-clause-leaves : goal.returns-in-Ok-clause-leaves
returns-in-Ok-clause-leaves g c =
    let names : FileNames = record { dump = c.args.dump.now; script = c.args.script.now } in
    kept (λ (shelf : Shelf). IsReady shelf (Some (Files Run names)) c.in-Ok.ready.planner c.in-Ok.ready.script.items (c.read_files.new.steps - c.args.steps.now))
    (λ (shelf : Shelf). Leaves (EndsRun shelf (Some (Files (Check c.args.cert.now) names)) (c.check_ready.new.steps - c.args.steps.now) []) is_cut (g.K.Sink.written c.args.out.now) (g.K.Sink.written c.check_ready.new.out) c.args.steps.now c.check_ready.new.steps c.check_ready.result)
    (g.S.Store.shelf c.args.store.now) (g.S.Store.shelf c.read_files.new.store) c.in-Ok.ensures.store.shelf c.in-Ok.ensures.ready (λ ready. c.check_ready.ensures.leaves names c.args.steps.now ready c.in-Ok.ensures.later)

pub returns-in-Ok-clause-begins : goal.returns-in-Ok-clause-begins
returns-in-Ok-clause-begins g c =
    let names : FileNames = record { dump = c.args.dump.now; script = c.args.script.now } in
    kept (λ (shelf : Shelf). IsScript shelf (Some (Files Run names)) c.in-Ok.ready.script.items × BeginsFiles shelf (Some (Files Run names)) (g.S.Store.begun c.args.store.now) (g.S.Store.begun c.read_files.new.store) Done)
    (λ (shelf : Shelf). BeginsFiles shelf (Some (Files (Check c.args.cert.now) names)) (g.S.Store.begun c.args.store.now) (g.S.Store.begun c.check_ready.new.store) c.check_ready.result)
    (g.S.Store.shelf c.args.store.now) (g.S.Store.shelf c.read_files.new.store) c.in-Ok.ensures.store.shelf (c.in-Ok.ensures.ready.script_is, c.in-Ok.ensures.begins)
    (λ both. c.check_ready.ensures.begins names (g.S.Store.begun c.args.store.now) both.0 both.1)

pub returns-in-Ok-clause-slots : goal.returns-in-Ok-clause-slots
returns-in-Ok-clause-slots g c k within = c.check_ready.ensures.slots k (omega (arith, within, c.in-Ok.ensures.begins.slots)) ∙ c.in-Ok.ensures.slots k within
