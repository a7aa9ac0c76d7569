use Rattle.std.proofs.Common.{arith, ◌∙◌}
use Rattle.run_inputs.specs.Words.{FileNames}
use Rattle.run_inputs.proofs.PrepareLemmas.{base_begins, base_early, based, dump_begins, dump_early, ends_by, script_begins, script_begun, script_read, script_ready}
use Rattle.run_inputs.proofs.prepare.read_files.Goals as goal

pub returns-in_err-dump-clause-ready : goal.returns-in_err-dump-clause-ready
returns-in_err-dump-clause-ready g c =
    ends_by _ _ c.from_residual.result c.in_err-dump.field-0.0 c.from_residual.ensures
    (dump_early (g.S.Store.shelf c.args.store.now) (record { dump = c.args.dump.now; script = c.args.script.now }) c.in_err-dump.field-0.0 _ (omega arith) c.in_err-dump.ensures.input)

pub returns-in_err-dump-clause-begins : goal.returns-in_err-dump-clause-begins
returns-in_err-dump-clause-begins g c =
    dump_begins (g.S.Store.shelf c.args.store.now) (record { dump = c.args.dump.now; script = c.args.script.now }) (g.S.Store.begun c.args.store.now) (g.S.Store.begun c.read_input.new.store) c.from_residual.result c.in_err-dump.field-0.0 c.from_residual.ensures
    c.in_err-dump.ensures.input c.in_err-dump.ensures.begins

pub returns-in_err-planner-clause-ready : goal.returns-in_err-planner-clause-ready
returns-in_err-planner-clause-ready g c =
    ends_by _ _ c.from_residual-in_err-planner.result c.in_err-planner.field-0.0 c.from_residual-in_err-planner.ensures
    (base_early (g.S.Store.shelf c.args.store.now) (record { dump = c.args.dump.now; script = c.args.script.now }) c.in_ok-dump.dump.items c.in_err-planner.field-0.0 _ c.in_ok-dump.ensures.input c.in_err-planner.ensures.planner)

pub returns-in_err-planner-clause-begins : goal.returns-in_err-planner-clause-begins
returns-in_err-planner-clause-begins g c =
    base_begins (g.S.Store.shelf c.args.store.now) (record { dump = c.args.dump.now; script = c.args.script.now }) c.in_ok-dump.dump.items _ (g.S.Store.begun c.args.store.now) (g.S.Store.begun c.read_input.new.store) c.from_residual-in_err-planner.result
    c.in_err-planner.field-0.0 c.from_residual-in_err-planner.ensures c.in_err-planner.ensures.planner c.in_ok-dump.ensures.begins

pub returns-clause-ready : goal.returns-clause-ready
returns-clause-ready g c =
    let names : FileNames = record { dump = c.args.dump.now; script = c.args.script.now } in
    let loaded = c.in_ok-planner.ensures.planner in
    script_ready (g.S.Store.shelf c.args.store.now) names loaded.0 c.in_ok-planner.planner _ c.read_input-script.result c.with_script.result
    (based (g.S.Store.shelf c.args.store.now) names c.in_ok-dump.dump.items loaded.0 c.in_ok-dump.ensures.input loaded.1) loaded.2 loaded.3
    (script_read (g.S.Store.shelf c.args.store.now) (g.S.Store.shelf c.read_input.new.store) c.args.script.now c.read_input-script.result c.in_ok-dump.ensures.store.shelf c.read_input-script.ensures.input) c.with_script.ensures

pub returns-clause-begins : goal.returns-clause-begins
returns-clause-begins g c =
    let names : FileNames = record { dump = c.args.dump.now; script = c.args.script.now } in
    let loaded = c.in_ok-planner.ensures.planner in
    script_begins (g.S.Store.shelf c.args.store.now) names loaded.0 c.in_ok-planner.planner (g.S.Store.begun c.args.store.now) (g.S.Store.begun c.read_input.new.store) (g.S.Store.begun c.read_input-script.new.store) c.read_input-script.result c.with_script.result
    (based (g.S.Store.shelf c.args.store.now) names c.in_ok-dump.dump.items loaded.0 c.in_ok-dump.ensures.input loaded.1) c.in_ok-dump.ensures.begins
    (script_begun (g.S.Store.shelf c.args.store.now) (g.S.Store.shelf c.read_input.new.store) c.args.script.now (g.S.Store.begun c.read_input.new.store) (g.S.Store.begun c.read_input-script.new.store) c.in_ok-dump.ensures.store.shelf c.read_input-script.ensures.begins)
    (script_read (g.S.Store.shelf c.args.store.now) (g.S.Store.shelf c.read_input.new.store) c.args.script.now c.read_input-script.result c.in_ok-dump.ensures.store.shelf c.read_input-script.ensures.input) c.with_script.ensures

pub returns-clause-slots : goal.returns-clause-slots
returns-clause-slots g c k within = c.read_input-script.ensures.slots k (omega (arith, within, c.in_ok-dump.ensures.begins.slots)) ∙ c.in_ok-dump.ensures.slots k within
