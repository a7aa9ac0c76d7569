use Rattle.std.proofs.Common.{◌≡◌, ◌-◌, ◌∙◌, ap₂, sym, subst, ℕ}
use Rattle.std.specs.Prelude.{Some}
use Rattle.run_inputs.specs.Told.{TellsSteps}
use Rattle.run_inputs.specs.Words.{Sample}
use Rattle.planner_cli.proofs.EndingLemmas.{early_sample, keeps_both, leaves_sample, leaves_told, leaves_unanswered}
use Rattle.planner_cli.proofs.modes.run_sample.Goals as goal

pub returns-in-Err-clause-leaves : goal.returns-in-Err-clause-leaves
returns-in-Err-clause-leaves g c = λ shelf.
    leaves_told shelf (Some (Sample c.args.number c.args.size)) c.args.solved.now.items c.in-Err.early _ _ c.args.steps.now c.make_ready.new.steps c.tell.result c.requires.none_yet
    (early_sample shelf c.args.number c.args.size c.in-Err.early _ c.in-Err.ensures.ready) c.in-Err.ensures.later c.tell.ensures.tells

pub returns-then-is_answered-clause-leaves : goal.returns-then-is_answered-clause-leaves
returns-then-is_answered-clause-leaves g c = λ shelf.
    let taken : c.taken.result - c.taken-before.result ≡ c.answer-end.new.steps - c.args.steps.now = ap₂ (λ (a b : ℕ). a - b) c.taken.ensures c.taken-before.ensures in
    leaves_sample shelf c.args.number c.args.size c.answer-end.new.solved.items c.in-Ok.ready.planner c.in-Ok.ready.script.items (g.K.Sink.written c.args.out.now) (g.K.Sink.written c.answer-end.new.out)
    (g.K.Sink.written c.tell_steps.new.out) c.args.steps.now c.make_ready.new.steps c.answer-end.new.steps c.answer-end.result c.tell_steps.result
    (sym c.is_answered.ensures ∙ c.if-is_answered.true) (c.in-Ok.ensures.ready shelf) c.in-Ok.ensures.later c.answer-end.ensures.leaves
    (subst (λ (n : ℕ). TellsSteps c.answer-end.result n (g.K.Sink.written c.answer-end.new.out) (g.K.Sink.written c.tell_steps.new.out) c.tell_steps.result) taken c.tell_steps.ensures.tells)

pub returns-then-is_answered-clause-sink : goal.returns-then-is_answered-clause-sink
returns-then-is_answered-clause-sink g c =
    keeps_both _ (g.K.Sink.limit c.answer-end.new.out) _ _ (g.K.Sink.faults c.answer-end.new.out) _ _ _ c.answer-end.ensures.sink c.tell_steps.ensures.sink

pub returns-else-is_answered-clause-leaves : goal.returns-else-is_answered-clause-leaves
returns-else-is_answered-clause-leaves g c = λ shelf.
    rw c.status_of.ensures
    (leaves_unanswered shelf c.args.number c.args.size c.answer-end.new.solved.items c.in-Ok.ready.planner c.in-Ok.ready.script.items _ _ c.args.steps.now c.make_ready.new.steps c.answer-end.new.steps c.answer-end.result
    (sym c.is_answered.ensures ∙ c.if-is_answered.false) (c.in-Ok.ensures.ready shelf) c.in-Ok.ensures.later c.answer-end.ensures.leaves)
