use Rattle.std.proofs.Common.{◌∙◌, sym}
use Rattle.planner_tables.proofs.ChangeLemmas.{table_read}
use Rattle.planner_tables.proofs.QuestionLemmas.{solve_asked}
use Rattle.planner_tables.proofs.questions.solve_reply.Goals as goal

pub returns-in_ok-reply-in-Ok : goal.returns-in_ok-reply-in-Ok
returns-in_ok-reply-in-Ok c =
    solve_asked c.args.game.now c.args.tables.now c.args.table.now c.args.budget c.in-Ok.place c.index-tables-place.result c.in_ok-reply-in-Ok.reply c.in-Ok.ensures.place
    (table_read c.args.tables.now c.in-Ok.place c.index-tables-place.result c.in-Ok.ensures.within ∙ sym c.index-tables-place.is) c.in_ok-reply-in-Ok.ensures
