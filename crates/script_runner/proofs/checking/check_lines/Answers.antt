use Rattle.std.proofs.Common.{arith, refl, subst, ◌≡◌, ℕ}
use Rattle.script_runner.specs.TrialLines.{JudgesLine}
use Rattle.script_runner.proofs.TrialLemmas.{judging_cut, judging_ends, judging_first, judging_next, judging_wants}
use Rattle.script_runner.proofs.checking.check_lines.Goals as goal

pub loop-line-init : goal.loop-line-init
loop-line-init g c = record {
  so_far = rw (c.behind-lines.ensures.rest, c.behind-lines.ensures.count) (judging_first c.args.entries.now c.args.planner.now c.args.script.now (g.K.Sink.written c.args.out.now) c.args.steps.now);
  history = λ base from. from;
  limit = refl;
  faults = omega arith;
}

pub returns-in-Err-clause-leaves : goal.returns-in-Err-clause-leaves
returns-in-Err-clause-leaves g c = judging_wants c.loop-line.invariant.so_far c.judge_line.new.steps c.judge_line.ensures.later

pub returns-in-Err-write_all-clause-leaves : goal.returns-in-Err-write_all-clause-leaves
returns-in-Err-write_all-clause-leaves g c =
    let is = c.in-Some.ensures in
    let line = c.in-Some.line.bytes.now in
    let more = c.next.new.self.rest.now in
    let judged = subst (λ (k : ℕ). JudgesLine c.args.entries.now k line c.loop-line.planner c.judge_line.new.planner c.in-Ok.note c.loop-line.steps c.judge_line.new.steps) is.number.0 c.in-Ok.ensures.note in
    let text : c.as_bytes.result.now ≡ c.in-Ok.note.text = cc (c.as_bytes.ensures.value, c.as_str.ensures) in
    let front = rw text at c.in-Err-write_all.ensures.err in
    judging_cut c.loop-line.invariant.so_far line more c.judge_line.new.planner c.in-Ok.note (g.K.Sink.written c.write_all.new.out) c.judge_line.new.steps is.line judged c.judge_line.ensures.later front

pub loop-line-preserved : goal.loop-line-preserved
loop-line-preserved g c =
    let is = c.in-Some.ensures in
    let line = c.in-Some.line.bytes.now in
    let more = c.next.new.self.rest.now in
    let judged = subst (λ (k : ℕ). JudgesLine c.args.entries.now k line c.loop-line.planner c.judge_line.new.planner c.in-Ok.note c.loop-line.steps c.judge_line.new.steps) is.number.0 c.in-Ok.ensures.note in
    let text : c.as_bytes.result.now ≡ c.in-Ok.note.text = cc (c.as_bytes.ensures.value, c.as_str.ensures) in
    let whole = rw text at c.in-Ok-write_all.ensures.ok in
    record {
      so_far = rw (is.number.1, c.one_if-proved.ensures, c.one_if-forms.ensures) (judging_next c.loop-line.invariant.so_far line more c.judge_line.new.planner c.in-Ok.note (g.K.Sink.written c.write_all.new.out) c.judge_line.new.steps is.line judged c.judge_line.ensures.later whole);
      history = λ base from. c.judge_line.ensures.history base (c.loop-line.invariant.history base from);
      limit = cc (c.in-Ok-write_all.ensures.limit, c.loop-line.invariant.limit);
      faults = omega (arith, c.in-Ok-write_all.ensures.cause.later, c.loop-line.invariant.faults);
    }

pub returns-clause-leaves : goal.returns-clause-leaves
returns-clause-leaves g c =
    judging_ends c.loop-line.invariant.so_far c.in_default.ensures.none (g.K.Sink.written c.tell_tally.new.out) c.tell_tally.result c.tell_tally.ensures.tells
