use Rattle.std.specs.Prelude.{List, ℕ, Ok, Err}
use Rattle.std.proofs.Common.{rules, sym, ap, subst}
use Rattle.script_reader.specs.Reading.{Answers}
use Rattle.script_reader.specs.Lines.{spelled}
use Rattle.script_reader.proofs.Readings.{answers_memory, answers_of_fault}
use Rattle.script_reader.proofs.Splits.{so_far_none, so_far_more, so_far_end, quoting_fault, no_text, shorter}
use Rattle.script_reader.proofs.split.split_words.Goals as goal

pub loop-rest-init : goal.loop-rest-init
loop-rest-init c = so_far_none c.args.line.now c.behind_separators-rest.result.now c.new-words.result.items c.behind_separators-rest.ensures c.new-words.ensures.items

pub returns-in_err-bytes : goal.returns-in_err-bytes
returns-in_err-bytes c =
    answers_of_fault _ c.in_err-bytes.field-0.0 _ c.from_residual.ensures
    (quoting_fault c.args.line.now c.loop-rest.rest.now c.loop-rest.words.items c.in_err-bytes.field-0.0 c.loop-rest.invariant (search rules) c.in_err-bytes.ensures.only (λ e. c.in_err-bytes.ensures.refused (ap Err e)))

pub returns-in_default : goal.returns-in_default
returns-in_default c = no_text c.args.line.now c.loop-rest.rest.now c.loop-rest.words.items c.in_ok-bytes.bytes.items c.in_ok-bytes.behind.now c.loop-rest.invariant (search rules) c.in_ok-bytes.ensures.found c.in_default.ensures

pub returns-in-Err : goal.returns-in-Err
returns-in-Err c = answers_memory _

pub loop-rest-preserved : goal.loop-rest-preserved
loop-rest-preserved c = so_far_more c.args.line.now c.loop-rest.rest.now c.loop-rest.words.items c.push.new.self.items c.in-Some.word c.in_ok-bytes.bytes.items c.in_ok-bytes.behind.now c.behind_separators-rest-in-loop-rest.result.now c.loop-rest.invariant (search rules) c.in_ok-bytes.ensures.found c.in-Some.ensures.0 c.in-Some.ensures.1 c.in-Ok.ensures.items c.behind_separators-rest-in-loop-rest.ensures

pub loop-rest-smaller : goal.loop-rest-smaller
loop-rest-smaller c = shorter c.args.line.now c.loop-rest.rest.now c.loop-rest.words.items c.in_ok-bytes.bytes.items c.in_ok-bytes.behind.now c.behind_separators-rest-in-loop-rest.result.now c.loop-rest.invariant c.in_ok-bytes.ensures.found c.behind_separators-rest-in-loop-rest.ensures

pub returns : goal.returns
returns c = subst (λ (w : List (List ℕ)). Answers (spelled c.args.line.now) (Ok w)) (sym c.from_vec.ensures) (so_far_end c.args.line.now c.loop-rest.rest.now c.loop-rest.words.items c.loop-rest.invariant (search rules))
