use Rattle.std.specs.Prelude.{Some}
use Rattle.planner_cli.specs.Ending.{answering}
use Rattle.run_inputs.specs.Words.{Files}
use Rattle.planner_cli.proofs.EndingLemmas.{begins_both, begins_early, begins_told, early_files, is_no_cut, leaves_files, leaves_told}
use Rattle.planner_cli.proofs.modes.run_files.Goals as goal

pub tell-requires : goal.tell-requires
tell-requires g c = is_no_cut _ _ c.in-Err.early _ c.in-Err.ensures.ready

pub returns-in-Ok-clause-leaves : goal.returns-in-Ok-clause-leaves
returns-in-Ok-clause-leaves g c =
    rw c.status_of.ensures
    (leaves_files c.args.prove (g.S.Store.shelf c.args.store.now) (record { dump = c.args.dump.now; script = c.args.script.now }) c.answer.new.solved.items c.in-Ok.ready.planner c.in-Ok.ready.script.items _ _ c.args.steps.now c.read_files.new.steps c.answer.new.steps
    c.answer.result c.in-Ok.ensures.ready c.in-Ok.ensures.later c.answer.ensures.leaves)

pub returns-in-Ok-clause-begins : goal.returns-in-Ok-clause-begins
returns-in-Ok-clause-begins g c =
    rw c.status_of.ensures
    (begins_both (g.S.Store.shelf c.args.store.now) c.args.prove (record { dump = c.args.dump.now; script = c.args.script.now }) (g.S.Store.begun c.args.store.now) (g.S.Store.begun c.read_files.new.store) c.answer.result c.in-Ok.ensures.begins)

pub returns-in-Err-clause-leaves : goal.returns-in-Err-clause-leaves
returns-in-Err-clause-leaves g c =
    leaves_told (g.S.Store.shelf c.args.store.now) (Some (Files (answering c.args.prove) (record { dump = c.args.dump.now; script = c.args.script.now }))) c.args.solved.now.items c.in-Err.early _ _ c.args.steps.now c.read_files.new.steps c.tell.result c.requires.none_yet
    (early_files (g.S.Store.shelf c.args.store.now) (answering c.args.prove) (record { dump = c.args.dump.now; script = c.args.script.now }) c.in-Err.early _ c.in-Err.ensures.ready) c.in-Err.ensures.later c.tell.ensures.tells

pub returns-in-Err-clause-begins : goal.returns-in-Err-clause-begins
returns-in-Err-clause-begins g c =
    begins_told (g.S.Store.shelf c.args.store.now) (Some (Files (answering c.args.prove) (record { dump = c.args.dump.now; script = c.args.script.now }))) (g.S.Store.begun c.args.store.now) (g.S.Store.begun c.read_files.new.store) c.in-Err.early c.tell.result
    c.tell.ensures.tells.text c.tell.ensures.tells.told
    (begins_early (g.S.Store.shelf c.args.store.now) (answering c.args.prove) (record { dump = c.args.dump.now; script = c.args.script.now }) _ _ c.in-Err.early _ c.in-Err.ensures.ready c.in-Err.ensures.begins)
