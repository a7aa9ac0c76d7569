use Rattle.std.proofs.Common.{◌∙◌, Result, subst, sym}
use Rattle.linear_table.specs.declared.Linear.{Linear}
use Rattle.game_types.proofs.Walks.{returned}
use Rattle.plan_base.specs.declared.denied.Denied.{Denied}
use Rattle.plan_base.specs.Outcomes.{Gives}
use Rattle.table_rows.specs.declared.refusals.TableRefusal.{TableRefusal}
use Rattle.planner_tables.specs.Questions.{linear_named}
use Rattle.planner_tables.proofs.ChangeLemmas.{table_read}
use Rattle.planner_tables.proofs.QuestionLemmas.{linear_asked, linear_refused}
use Rattle.planner_tables.proofs.questions.linear_named.Goals as goal

pub returns-clause-linear : goal.returns-clause-linear
returns-clause-linear c =
    linear_asked c.args.game.now c.args.tables.now c.args.table.now c.in_ok-place.place c.index-tables-place.result c.linear_of.result c.in_ok-place.ensures.place
    (table_read c.args.tables.now c.in_ok-place.place c.index-tables-place.result c.in_ok-place.ensures.within ∙ sym c.index-tables-place.is) c.linear_of.ensures.linear

pub returns-in_err-place-clause-linear : goal.returns-in_err-place-clause-linear
returns-in_err-place-clause-linear c =
    subst (λ (r : Result Linear (Denied TableRefusal)). Gives (linear_named c.args.game.now c.args.tables.now c.args.table.now) r) (sym (returned c.from_residual.result c.in_err-place.field-0.0 c.from_residual.ensures))
    (linear_refused c.args.game.now c.args.tables.now c.args.table.now c.in_err-place.field-0.0 c.in_err-place.ensures.place)
