use Rattle.std.proofs.Common.{◌≡◌, ◌+◌, ◌∙◌, ℕ, Bool, ap, subst, sym}
use Rattle.script_runner.specs.Leading.{AnswersSo}
use Rattle.script_runner.specs.declared.stepping.Progress.{Progress}
use Rattle.script_runner.proofs.LeadingLemmas.{so_far_continues, so_far_counted, so_far_first, so_far_next}
use Rattle.script_runner.proofs.stepping.step_lines.Goals as goal

pub loop-line-init : goal.loop-line-init
loop-line-init g c = record {
  so_far = rw c.behind-left.ensures.rest (so_far_first c.args.planner.now c.args.lines.now c.args.before);
  number = c.behind-left.ensures.count;
  history = λ base from. from;
}

pub loop-line-preserved : goal.loop-line-preserved
loop-line-preserved g c =
    let is = c.in-Some.ensures in
    let line = c.in-Some.line.bytes.now in
    let number : c.in-Some.line.number ≡ c.loop-line.done.count + 1 = is.number.0 ∙ ap (λ n. n + 1) c.loop-line.invariant.number in
    let later : Progress = record { count = c.in-Some.line.number; planned = c.in_ok-seen.seen.planned } in
    let told = subst (λ (k : ℕ). AnswersSo k line c.loop-line.planner c.seen_line.new.planner c.in_ok-seen.seen.refused c.in_ok-seen.seen.planned) number c.in_ok-seen.ensures.answered in
    let seen = subst (λ (r : Bool). AnswersSo (c.loop-line.done.count + 1) line c.loop-line.planner c.seen_line.new.planner r c.in_ok-seen.seen.planned) c.if-seen.false told in
    record {
      so_far = so_far_next c.loop-line.invariant.so_far line c.next.new.self.rest.now c.seen_line.new.planner later is.line seen number;
      number = is.number.1 ∙ sym is.number.0;
      history = λ base from. c.seen_line.ensures.history base (c.loop-line.invariant.history base from);
    }

pub returns-clause-continues : goal.returns-clause-continues
returns-clause-continues g c = so_far_continues c.loop-line.invariant.so_far c.in_default.ensures.none

pub returns-clause-counted : goal.returns-clause-counted
returns-clause-counted g c = so_far_counted c.loop-line.invariant.so_far c.in_default.ensures.none
