use Rattle.std.proofs.Common.{[], List, refl, subst, sym}
use Rattle.std.specs.Prelude.{Some}
use Rattle.certificate_file.specs.declared.CertEntry.{CertEntry}
use Rattle.run_inputs.specs.Inputs.{IsCert}
use Rattle.run_inputs.specs.Words.{Check, Files}
use Rattle.planner_cli.proofs.CheckLemmas.{cert_begins_checked, cert_begins_early, cert_begins_many, cert_early, cert_no_cut}
use Rattle.planner_cli.proofs.EndingLemmas.{leaves_checked, leaves_many, leaves_told}
use Rattle.planner_cli.proofs.modes.check_lent.Goals as goal

pub tell-requires : goal.tell-requires
tell-requires g c = cert_no_cut (g.S.Store.shelf c.args.store.now) c.args.cert.now c.in-Err.early c.in-Err.ensures.entries

pub returns-then-has_many_lines-clause-leaves : goal.returns-then-has_many_lines-clause-leaves
returns-then-has_many_lines-clause-leaves g c = λ names first ready later.
    rw c.status_of.ensures
    (leaves_many (g.S.Store.shelf c.args.store.now) c.args.cert.now names [] c.args.planner.now c.args.script.now (g.K.Sink.written c.args.out.now) (g.K.Sink.written c.tell_many_lines.new.out) first c.args.steps.now c.tell_many_lines.result
    ready later (c.if-has_many_lines.ensures.many refl) refl c.tell_many_lines.ensures.tells)

pub returns-then-has_many_lines-clause-begins : goal.returns-then-has_many_lines-clause-begins
returns-then-has_many_lines-clause-begins g c = λ names first given begins.
    rw c.status_of.ensures
    (cert_begins_many (g.S.Store.shelf c.args.store.now) c.args.cert.now names first (g.S.Store.begun c.args.store.now) (g.K.Sink.written c.args.out.now) (g.K.Sink.written c.tell_many_lines.new.out) c.tell_many_lines.result begins c.tell_many_lines.ensures.tells)

pub returns-in-Err-clause-leaves : goal.returns-in-Err-clause-leaves
returns-in-Err-clause-leaves g c = λ names first ready later.
    leaves_told (g.S.Store.shelf c.args.store.now) (Some (Files (Check c.args.cert.now) names)) [] c.in-Err.early (g.K.Sink.written c.args.out.now) (g.K.Sink.written c.tell.new.out) first c.args.steps.now c.tell.result refl
    (cert_early (g.S.Store.shelf c.args.store.now) c.args.cert.now names c.args.planner.now c.args.script.now _ c.in-Err.early ready (c.if-has_many_lines.ensures.few refl) c.in-Err.ensures.entries) later c.tell.ensures.tells

pub returns-in-Err-clause-begins : goal.returns-in-Err-clause-begins
returns-in-Err-clause-begins g c = λ names first given begins.
    cert_begins_early (g.S.Store.shelf c.args.store.now) c.args.cert.now names first (g.S.Store.begun c.args.store.now) (g.S.Store.begun c.read_entries.new.store) c.in-Err.early c.tell.result c.tell.ensures.tells.text
    (record { script = c.args.script.now; given = given; few = c.if-has_many_lines.ensures.few refl }) begins c.in-Err.ensures.begins c.in-Err.ensures.entries c.tell.ensures.tells.told

pub returns-in-Ok-clause-leaves : goal.returns-in-Ok-clause-leaves
returns-in-Ok-clause-leaves g c = λ names first ready later.
    rw c.status_of-in-Ok.ensures
    (leaves_checked (g.S.Store.shelf c.args.store.now) c.args.cert.now names [] c.args.planner.now c.args.script.now c.as_slice.result.now (g.K.Sink.written c.args.out.now) (g.K.Sink.written c.check_lines.new.out) first c.args.steps.now c.check_lines.new.steps c.check_lines.result
    ready later (c.if-has_many_lines.ensures.few refl) (subst (λ (entries : List CertEntry). IsCert (g.S.Store.shelf c.args.store.now) c.args.cert.now entries) (sym c.as_slice.ensures) c.in-Ok.ensures.entries) refl c.check_lines.ensures.leaves)

pub returns-in-Ok-clause-begins : goal.returns-in-Ok-clause-begins
returns-in-Ok-clause-begins g c = λ names first given begins.
    let leaves = c.check_lines.ensures.leaves in
    rw c.status_of-in-Ok.ensures
    (cert_begins_checked (g.S.Store.shelf c.args.store.now) c.args.cert.now names first (g.S.Store.begun c.args.store.now) (g.S.Store.begun c.read_entries.new.store) _ c.args.planner.now c.args.script.now leaves.text leaves.work c.check_lines.result
    (record { script = c.args.script.now; given = given; few = c.if-has_many_lines.ensures.few refl }) begins c.in-Ok.ensures.begins leaves.ends)
