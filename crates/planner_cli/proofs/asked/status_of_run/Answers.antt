use Rattle.std.proofs.Common.{◌≡◌, ◌-◌, arith, refl, subst, sym}
use Rattle.std.specs.Prelude.{None, Option, Some}
use Rattle.script_runner.specs.Leaves.{Leaves}
use Rattle.run_inputs.specs.AskedWords.{asked_seen, plain_seen}
use Rattle.run_inputs.specs.Begun.{BeginsFiles}
use Rattle.run_inputs.specs.Early.{is_cut}
use Rattle.planner_cli.specs.Ending.{EndsRun}
use Rattle.run_inputs.specs.Words.{Asked, asked_of}
use Rattle.run_inputs.specs.declared.status.Status.TheVariants.{BadWords, NoMemory}
use Rattle.planner_cli.proofs.EndingLemmas.{asked_from, begins_nothing, begins_told, leaves_told}
use Rattle.planner_cli.proofs.asked.status_of_run.Goals as goal

pub returns-in_default-clause-leaves : goal.returns-in_default-clause-leaves
returns-in_default-clause-leaves g c =
    leaves_told (g.S.Store.shelf c.args.store.now) (asked_of c.args.words.now) c.args.solved.now.items NoMemory _ _ c.args.steps.now c.args.steps.now c.tell.result c.requires.none_yet tt (omega arith) c.tell.ensures.tells

pub returns-in_default-clause-begins : goal.returns-in_default-clause-begins
returns-in_default-clause-begins g c =
    let tells = c.tell.ensures.tells in
    begins_told (g.S.Store.shelf c.args.store.now) (asked_of c.args.words.now) (g.S.Store.begun c.args.store.now) (g.S.Store.begun c.args.store.now) NoMemory c.tell.result tells.text tells.told
    (begins_nothing (g.S.Store.shelf c.args.store.now) (asked_of c.args.words.now) (g.S.Store.begun c.args.store.now))

pub returns-in-Ok-read_words-clause-leaves : goal.returns-in-Ok-read_words-clause-leaves
returns-in-Ok-read_words-clause-leaves g c =
    let is : asked_of c.args.words.now ≡ Some (asked_seen c.in-Ok-read_words.asked) = asked_from c.args.words.now (plain_seen c.in-Ok.plain) _ c.in-Ok.ensures c.in-Ok-read_words.ensures.asked in
    subst (λ (a : Option Asked). Leaves (EndsRun (g.S.Store.shelf c.args.store.now) a (c.run_asked.new.steps - c.args.steps.now) c.run_asked.new.solved.items) is_cut (g.K.Sink.written c.args.out.now) (g.K.Sink.written c.run_asked.new.out) c.args.steps.now c.run_asked.new.steps c.run_asked.result)
    (sym is) c.run_asked.ensures.leaves

pub returns-in-Ok-read_words-clause-begins : goal.returns-in-Ok-read_words-clause-begins
returns-in-Ok-read_words-clause-begins g c =
    let is : asked_of c.args.words.now ≡ Some (asked_seen c.in-Ok-read_words.asked) = asked_from c.args.words.now (plain_seen c.in-Ok.plain) _ c.in-Ok.ensures c.in-Ok-read_words.ensures.asked in
    subst (λ (a : Option Asked). BeginsFiles (g.S.Store.shelf c.args.store.now) a (g.S.Store.begun c.args.store.now) (g.S.Store.begun c.run_asked.new.store) c.run_asked.result) (sym is) c.run_asked.ensures.begins

pub returns-in-Err-Undefined-clause-leaves : goal.returns-in-Err-Undefined-clause-leaves
returns-in-Err-Undefined-clause-leaves g c =
    let none : asked_of c.args.words.now ≡ None = asked_from c.args.words.now (plain_seen c.in-Ok.plain) None c.in-Ok.ensures (c.in-Err-Undefined.ensures.asked c.in-Err-Undefined.field-0-is) in
    leaves_told (g.S.Store.shelf c.args.store.now) (asked_of c.args.words.now) c.args.solved.now.items BadWords _ _ c.args.steps.now c.args.steps.now c.tell-in-Err-Undefined.result c.requires.none_yet
    (none, omega arith) (omega arith) c.tell-in-Err-Undefined.ensures.tells

pub returns-in-Err-Undefined-clause-begins : goal.returns-in-Err-Undefined-clause-begins
returns-in-Err-Undefined-clause-begins g c =
    let none : asked_of c.args.words.now ≡ None = asked_from c.args.words.now (plain_seen c.in-Ok.plain) None c.in-Ok.ensures (c.in-Err-Undefined.ensures.asked c.in-Err-Undefined.field-0-is) in
    subst (λ (a : Option Asked). BeginsFiles (g.S.Store.shelf c.args.store.now) a (g.S.Store.begun c.args.store.now) (g.S.Store.begun c.args.store.now) c.tell-in-Err-Undefined.result) (sym none) refl

pub returns-clause-leaves : goal.returns-clause-leaves
returns-clause-leaves g c =
    leaves_told (g.S.Store.shelf c.args.store.now) (asked_of c.args.words.now) c.args.solved.now.items NoMemory _ _ c.args.steps.now c.args.steps.now c.tell-in-Err-NoMemory.result c.requires.none_yet tt (omega arith) c.tell-in-Err-NoMemory.ensures.tells

pub returns-clause-begins : goal.returns-clause-begins
returns-clause-begins g c =
    let tells = c.tell-in-Err-NoMemory.ensures.tells in
    begins_told (g.S.Store.shelf c.args.store.now) (asked_of c.args.words.now) (g.S.Store.begun c.args.store.now) (g.S.Store.begun c.args.store.now) NoMemory c.tell-in-Err-NoMemory.result tells.text tells.told
    (begins_nothing (g.S.Store.shelf c.args.store.now) (asked_of c.args.words.now) (g.S.Store.begun c.args.store.now))
