use Rattle.std.proofs.Common.{List, Ok, map, subst}
use Rattle.fractions.specs.Fraction.{Fraction}
use Rattle.game_types.specs.declared.effects.Effects.{Effects}
use Rattle.game_types.specs.declared.effects.Rates.{Rates}
use Rattle.planner_tables.specs.Questions.{IsSolvedWith}
use Rattle.planner_tables.proofs.QuestionLemmas.{solved_where}
use Rattle.planner_tables.proofs.questions.solve_table.Goals as goal

pub returns-in_ok-reply-in-Ok : goal.returns-in_ok-reply-in-Ok
returns-in_ok-reply-in-Ok c =
    solved_where c.args.game.now c.args.table.now c.in-Ok.field-0.linear c.in-Ok.field-0.figures c.args.budget c.in_ok-reply-in-Ok.reply c.in-Ok.ensures.linear c.in-Ok.ensures.figures
    (subst (λ (figures : List (Effects × Rates × Fraction)). IsSolvedWith c.args.table.now c.in-Ok.field-0.linear (map Ok figures) c.args.budget c.in_ok-reply-in-Ok.reply) c.as_slice.ensures c.in_ok-reply-in-Ok.ensures)
