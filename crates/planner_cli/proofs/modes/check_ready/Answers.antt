use Rattle.std.proofs.Common.{◌-◌, ℕ, List, subst, sym}
use Rattle.std.specs.Prelude.{Some}
use Rattle.run_inputs.specs.Ready.{IsReady}
use Rattle.run_inputs.specs.Inputs.{IsScript}
use Rattle.run_inputs.specs.Words.{Files, Run}
use Rattle.planner_cli.proofs.modes.check_ready.Goals as goal

pub returns-clause-leaves : goal.returns-clause-leaves
returns-clause-leaves g c = λ names first ready later.
    c.check_lent.ensures.leaves names first (subst (λ (bytes : List ℕ). IsReady (g.S.Store.shelf c.args.store.now) (Some (Files Run names)) c.args.ready.planner bytes (c.args.steps.now - first)) (sym c.deref.ensures.value) ready) later

pub returns-clause-begins : goal.returns-clause-begins
returns-clause-begins g c = λ names first given begins.
    c.check_lent.ensures.begins names first (subst (λ (bytes : List ℕ). IsScript (g.S.Store.shelf c.args.store.now) (Some (Files Run names)) bytes) (sym c.deref.ensures.value) given) begins

pub returns-clause-slots : goal.returns-clause-slots
returns-clause-slots g c = c.check_lent.ensures.slots

pub returns-clause-store : goal.returns-clause-store
returns-clause-store g c = c.check_lent.ensures.store

pub returns-clause-sink : goal.returns-clause-sink
returns-clause-sink g c = c.check_lent.ensures.sink

pub returns-clause-later : goal.returns-clause-later
returns-clause-later g c = c.check_lent.ensures.later
