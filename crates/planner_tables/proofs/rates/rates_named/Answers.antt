use Rattle.std.proofs.Common.{◌∙◌, Result, sym, subst}
use Rattle.plan_base.specs.Outcomes.{Gives}
use Rattle.plan_lines.specs.declared.reply.Reply.{Reply}
use Rattle.table_rows.specs.declared.refusals.TableRefusal.{TableRefusal}
use Rattle.planner_tables.proofs.ChangeLemmas.{table_read}
use Rattle.planner_tables.proofs.QuestionLemmas.{rate_at}
use Rattle.planner_tables.proofs.rates.rates_named.Goals as goal

pub returns : goal.returns
returns c =
    subst (λ (o : Result Reply TableRefusal). Gives o c.row_rates_of.result)
    (sym (rate_at c.args.game.now c.args.tables.now c.args.table.now c.args.label.now c.in_ok-place.place c.index-tables-place.result c.in_ok-place.ensures.place
    (table_read c.args.tables.now c.in_ok-place.place c.index-tables-place.result c.in_ok-place.ensures.within ∙ sym c.index-tables-place.is)))
    c.row_rates_of.ensures
