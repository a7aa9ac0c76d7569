use Rattle.std.proofs.Common.{arith, refl, subst, ◌≡◌, ℕ}
use Rattle.script_runner.specs.Answers.{AnswersLine}
use Rattle.script_runner.proofs.SoFarLemmas.{ends_cut, ends_done, ends_refused, ends_wanting, so_far_first, so_far_next}
use Rattle.script_runner.proofs.report.answer_lines.Goals as goal

pub loop-line-init : goal.loop-line-init
loop-line-init g c = record {
  so_far = rw (c.behind-lines.ensures.rest, c.behind-lines.ensures.count) (so_far_first c.args.planner.now c.args.script.now c.args.solved.now.items (g.K.Sink.written c.args.out.now) c.args.steps.now c.requires.none_yet);
  history = λ base from. from;
  limit = refl;
  faults = omega arith;
}

pub returns-in-Err-clause-leaves : goal.returns-in-Err-clause-leaves
returns-in-Err-clause-leaves g c = ends_wanting c.loop-line.invariant.so_far c.requires.few c.answer_line.new.steps c.answer_line.ensures.later c.loop-line.solved.items refl

pub returns-in-Err-keep-clause-leaves : goal.returns-in-Err-keep-clause-leaves
returns-in-Err-keep-clause-leaves g c = ends_wanting c.loop-line.invariant.so_far c.requires.few c.answer_line.new.steps c.answer_line.ensures.later c.keep.new.solved.items c.in-Err-keep.ensures.err

pub returns-in-Err-write_all-clause-leaves : goal.returns-in-Err-write_all-clause-leaves
returns-in-Err-write_all-clause-leaves g c =
    let is = c.in-Some.ensures in
    let line = c.in-Some.line.bytes.now in
    let more = c.next.new.self.rest.now in
    let told = subst (λ (k : ℕ). AnswersLine k line c.loop-line.planner c.answer_line.new.planner c.in-Ok.told.text c.in-Ok.told.refused c.in-Ok.told.solved c.loop-line.steps c.answer_line.new.steps) is.number.0 c.in-Ok.ensures.answer in
    let text : c.as_bytes.result.now ≡ c.in-Ok.told.text = cc (c.as_bytes.ensures.value, c.as_str.ensures) in
    let front = rw text at c.in-Err-write_all.ensures.err in
    ends_cut c.loop-line.invariant.so_far c.requires.few line more c.answer_line.new.planner c.in-Ok.told.text c.in-Ok.told.refused c.in-Ok.told.solved (g.K.Sink.written c.write_all.new.out) c.answer_line.new.steps is.line told c.answer_line.ensures.later
    front c.keep.new.solved.items c.in-Ok-keep.ensures.ok

pub loop-line-preserved : goal.loop-line-preserved
loop-line-preserved g c =
    let is = c.in-Some.ensures in
    let line = c.in-Some.line.bytes.now in
    let more = c.next.new.self.rest.now in
    let told = subst (λ (k : ℕ). AnswersLine k line c.loop-line.planner c.answer_line.new.planner c.in-Ok.told.text c.in-Ok.told.refused c.in-Ok.told.solved c.loop-line.steps c.answer_line.new.steps) is.number.0 c.in-Ok.ensures.answer in
    let text : c.as_bytes.result.now ≡ c.in-Ok.told.text = cc (c.as_bytes.ensures.value, c.as_str.ensures) in
    let whole = rw text at c.in-Ok-write_all.ensures.ok in
    record {
      so_far = rw is.number.1 (so_far_next c.loop-line.invariant.so_far line more c.answer_line.new.planner c.in-Ok.told.text c.in-Ok.told.refused c.in-Ok.told.solved (g.K.Sink.written c.write_all.new.out) c.answer_line.new.steps is.line told c.answer_line.ensures.later
          whole c.keep.new.solved.items c.in-Ok-keep.ensures.ok);
      history = λ base from. c.answer_line.ensures.history base (c.loop-line.invariant.history base from);
      limit = cc (c.in-Ok-write_all.ensures.limit, c.loop-line.invariant.limit);
      faults = omega (arith, c.in-Ok-write_all.ensures.cause.later, c.loop-line.invariant.faults);
    }

pub returns-then-refused-clause-leaves : goal.returns-then-refused-clause-leaves
returns-then-refused-clause-leaves g c = ends_refused c.loop-line.invariant.so_far c.requires.few c.in_default.ensures.none c.if-refused.true

pub returns-else-refused-clause-leaves : goal.returns-else-refused-clause-leaves
returns-else-refused-clause-leaves g c = ends_done c.loop-line.invariant.so_far c.requires.few c.in_default.ensures.none c.if-refused.false
