use Rattle.planner_tables.proofs.questions.solved_within.Goals as goal

pub returns : goal.returns
returns c =
    let said = c.in_ok-answer.ensures in
    record {
      answer = c.in_ok-answer.answer;
      is_answer = record {
        shows = said.answer;
        too_wide = said.too_wide;
        out_of_budget = said.out_of_budget;
        infeasible = said.infeasible;
        no_basis_twice = said.no_basis_twice;
        settled = said.settled;
        moderate = said.moderate;
      };
      reply_is = c.in_ok-reply.ensures;
    }
