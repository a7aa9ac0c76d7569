use Rattle.std.proofs.Common.{◌∙◌, ℕ, List, [], ap, length, refl, subst, false, string_bytes}
use Rattle.plan_io.specs.Lines.{lines_of}
use Rattle.script_runner.specs.Leading.{Continues, joined}
use Rattle.script_runner.specs.declared.stepping.Progress.{Progress}
use Rattle.script_runner.proofs.JoinedLemmas.{leads_to_plan}
use Rattle.script_runner.proofs.LeadingLemmas.{accepted_start}
use Rattle.wish_answers.proofs.scripts.whole_script.Goals as goal

pub returns-clause-leads : goal.returns-clause-leads
returns-clause-leads g c =
    let start : Progress = record { count = 0; planned = false } in
    let script = c.args.script.now.items in
    let lines = string_bytes c.in_ok-answer.answer.lines in
    let one = subst (λ (s : List ℕ). Continues c.args.planner.now s start c.carry_script.new.planner c.in_ok-before.before) c.as_slice.ensures.value c.in_ok-before.ensures.continues in
    leads_to_plan c.args.planner.now c.carry_script.new.planner c.answered_lines.new.planner script lines c.join.new.script.items start c.in_ok-before.before c.in_ok-answer.answer.done
    one c.in_ok-answer.ensures.continues refl refl (c.in_ok-before.ensures.counted ∙ ap (λ (s : List ℕ). length (lines_of s)) c.as_slice.ensures.value)
    c.in_ok-answer.ensures.counted c.in_ok-answer.ensures.few c.in_ok-answer.ensures.planned
    (c.in_ok-join.ensures ∙ ap (λ (l : List ℕ). joined script l) c.as_str.ensures.value)

pub returns-clause-keeps : goal.returns-clause-keeps
returns-clause-keeps g c =
    let lines : List ℕ = string_bytes c.in_ok-answer.answer.lines in
    (lines, c.in_ok-join.ensures ∙ ap (λ (l : List ℕ). joined c.args.script.now.items l) c.as_str.ensures.value)

pub returns-clause-met : goal.returns-clause-met
returns-clause-met g c = λ none.
    let start : Progress = record { count = 0; planned = false } in
    let script : List ℕ = c.args.script.now.items in
    let one = subst (λ (s : List ℕ). Continues c.args.planner.now s start c.carry_script.new.planner c.in_ok-before.before) c.as_slice.ensures.value c.in_ok-before.ensures.continues in
    (c.carry_script.new.planner, (c.in_ok-before.before, one c.args.planner.now [] (accepted_start c.args.planner.now start refl refl)), c.in_ok-answer.ensures.met none)
