use Rattle.std.proofs.Common.{Bool, List, subst}
use Rattle.wish_answers.specs.Meeting.{HasMet}
use Rattle.wish_answers.proofs.answers.answered_lines.Goals as goal

pub returns-clause-met : goal.returns-clause-met
returns-clause-met g c = λ none. record {
  marks = c.in_ok-reached.reached.items;
  reached = c.in_ok-reached.ensures;
  wish = c.in_ok-found.found.wish;
  asked_for = c.in_ok-found.ensures.asked;
  hidden = c.in_ok-found.ensures.hidden;
  has = subst (λ (marks : List Bool). HasMet c.carry_out.new.planner marks c.args.asked.now.table.now c.in_ok-found.found.wish) c.as_slice-2.ensures.value (c.in_ok-check_found.ensures none);
}
