use Rattle.std.proofs.Common.{◌≡◌, ◌++◌, ℕ, refl, subst}
use Rattle.std.specs.Prelude.{option_map, option_to_list}
use Rattle.script_runner.specs.Answers.{AnswersLine}
use Rattle.script_runner.specs.Certificates.{entry_for}
use Rattle.script_runner.proofs.ProvingLemmas.{proving_all, proving_first, proving_next, proving_part}
use Rattle.script_runner.proofs.proving.answer_all.Goals as goal

pub loop-line-init : goal.loop-line-init
loop-line-init g c = record {
  so_far = rw (c.behind-lines.ensures.rest, c.behind-lines.ensures.count) (proving_first c.args.planner.now c.args.script.now c.args.solved.now.items c.args.entries.now.items c.args.steps.now c.requires.none_yet c.requires.none_entered);
  history = λ base from. from;
}

pub returns-in-Err-clause-all : goal.returns-in-Err-clause-all
returns-in-Err-clause-all g c = proving_part c.loop-line.invariant.so_far c.requires.few c.loop-line.solved.items refl

pub returns-in-Err-enter-clause-all : goal.returns-in-Err-enter-clause-all
returns-in-Err-enter-clause-all g c = proving_part c.loop-line.invariant.so_far c.requires.few c.loop-line.solved.items refl

pub returns-in-Err-keep-clause-all : goal.returns-in-Err-keep-clause-all
returns-in-Err-keep-clause-all g c = proving_part c.loop-line.invariant.so_far c.requires.few c.keep.new.solved.items c.in-Err-keep.ensures.err

pub loop-line-preserved : goal.loop-line-preserved
loop-line-preserved g c =
    let is = c.in-Some.ensures in
    let line = c.in-Some.line.bytes.now in
    let more = c.next.new.self.rest.now in
    let told = subst (λ (k : ℕ). AnswersLine k line c.loop-line.planner c.answer_line.new.planner c.in-Ok.told.text c.in-Ok.told.refused c.in-Ok.told.solved c.loop-line.steps c.answer_line.new.steps) is.number.0 c.in-Ok.ensures.answer in
    let enters = subst (λ (k : ℕ). c.enter.new.entries.items ≡ c.loop-line.entries.items ++ option_to_list (option_map (entry_for k) c.in-Ok.told.solved)) is.number.0 c.in-Ok-enter.ensures in
    record {
      so_far = rw is.number.1 (proving_next c.loop-line.invariant.so_far line more c.answer_line.new.planner c.in-Ok.told.text c.in-Ok.told.refused c.in-Ok.told.solved c.answer_line.new.steps is.line told c.answer_line.ensures.later
          c.keep.new.solved.items c.in-Ok-keep.ensures.ok c.enter.new.entries.items enters);
      history = λ base from. c.answer_line.ensures.history base (c.loop-line.invariant.history base from);
    }

pub returns-clause-all : goal.returns-clause-all
returns-clause-all g c = proving_all c.loop-line.invariant.so_far c.requires.few c.in_default.ensures.none
