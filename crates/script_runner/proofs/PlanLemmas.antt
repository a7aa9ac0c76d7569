-- What the replies to `solve` lines show.
use Rattle.std.proofs.Common.{◌≡◌, ℕ, List, true, false, sym, ap, subst, refl, ◌∙◌}
use Rattle.std.specs.Prelude.{Option, None, Result, Ok, Err}
use Rattle.game_types.specs.declared.games.Game.{Game}
use Rattle.linear_table.specs.declared.Linear.{Linear}
use Rattle.linear_table.specs.declared.SolveAnswer.{SolveAnswer}
use Rattle.linear_table.specs.declared.SolveAnswer.TheVariants.{Planned, Infeasible, TooWide, OutOfBudget}
use Rattle.linear_table.specs.Answer.{IsAnswer}
use Rattle.linear_table.proofs.Duality.{no_plan, no_plan_costs_less}
use Rattle.production_table.specs.declared.faults.TableFault.{TableFault}
use Rattle.production_table.specs.Linear.{linear_of}
use Rattle.plan_lines.specs.declared.command.Command.TheVariants as command
use Rattle.plan_lines.specs.declared.reply.Reply.{Reply}
use Rattle.table_rows.specs.declared.refusals.TableRefusal.{TableRefusal}
use Rattle.planner_tables.specs.Effects.{table_at, table_named}
use Rattle.planner_tables.specs.Questions.{linear_outcome, IsSolveReply, IsSolveReplyAt, IsSolvedWhere}
use Rattle.table_rows.specs.Refusals.{refused}
use Rattle.planner_tables.specs.Causes.{caused}
use Rattle.state_changes.specs.States.{State}
use Rattle.planner_core.specs.Lines.{Held, IsStep, IsStepIn, Planned as AnyPlanned, is_refused}
use Rattle.script_runner.specs.Answers.{Answered, IsAnswered, IsReply}
use Rattle.script_runner.specs.Plans.{Shows, SolvesRightly, TellsOfTable}

shows : (l : Linear) (budget : ℕ) (a : SolveAnswer) → IsAnswer l budget a → Shows l budget a
shows l budget (Planned p) is =
    record { balances = is.0; cost_is = is.1; prices_show = is.2; least = λ rates plan. no_plan_costs_less l p.prices rates p.cost is.2 plan }
shows l budget (Infeasible prices) is = record { prices_show = is; none = λ rates. no_plan l prices rates is }
shows l budget (TooWide trail next place) is = is
shows l budget (OutOfBudget trail) is = is

caused_ok : {A : Type 0} (unknown : TableRefusal) (r : Result A TableFault) (value : A) → caused unknown r ≡ Ok value → r ≡ Ok value
caused_ok unknown (Ok found) value e = let same : found ≡ value = cc in ap Ok same
caused_ok unknown (Err fault) value e = cc

not_refused : (g : Game) (refusal : TableRefusal) (r : Reply) → r ≡ refused g refusal None → is_refused r ≡ false → ⊥
not_refused g refusal r is not = let same : true ≡ false = sym (ap is_refused is) ∙ not in cc

told_of_form : (s : State) (name : List ℕ) (budget : ℕ) (r : Reply) (place : ℕ) → table_named s.tables name ≡ Ok place → (o : Result Linear TableRefusal) → linear_outcome s.book.game (table_at s.tables place) ≡ o
    → IsSolvedWhere s.book.game (table_at s.tables place) budget o r → is_refused r ≡ false → TellsOfTable s name budget r
told_of_form s name budget r place named (Ok l) e is not = record {
  place = place;
  named = named;
  form = l;
  form_is = caused_ok _ (linear_of s.book.game (table_at s.tables place)) l e;
  answer = is.answer;
  told = is.reply_is;
  shows = shows l budget is.answer is.is_answer.shows;
}
told_of_form s name budget r place named (Err refusal) e is not = absurd (not_refused s.book.game refusal r is not)

told_of_place : (s : State) (name : List ℕ) (budget : ℕ) (r : Reply) (o : Result ℕ TableRefusal) → table_named s.tables name ≡ o → IsSolveReplyAt s.book.game s.tables budget o r → is_refused r ≡ false → TellsOfTable s name budget r
told_of_place s name budget r (Ok place) e is not = told_of_form s name budget r place e (linear_outcome s.book.game (table_at s.tables place)) refl is not
told_of_place s name budget r (Err refusal) e is not = absurd (not_refused s.book.game refusal r is not)

solve_told : (s : State) (name : List ℕ) (budget : ℕ) (r : Reply) → IsSolveReply s.book.game s.tables name budget r → is_refused r ≡ false → TellsOfTable s name budget r
unfolding IsSolveReply
solve_told s name budget r is not = told_of_place s name budget r (table_named s.tables name) refl is not

step_told : (number : ℕ) (p q : AnyPlanned) (name : List ℕ) (budget : ℕ) (r : Reply) → IsStep number p (command.Solve name budget) q r → p.batch ≡ None → is_refused r ≡ false → TellsOfTable p.state name budget r
step_told number p q name budget r step free not =
    let said = subst (λ (batch : Option (List Held)). IsStepIn number batch p (command.Solve name budget) q r) free step.does in
    solve_told p.state name budget r said.1 not

pub solves_rightly : (a : Answered) → IsAnswered a → SolvesRightly a
solves_rightly a is = λ table budget reads free not.
    step_told a.number a.before a.after table budget a.reply (subst (λ reading. IsReply a.number a.before reading a.after a.reply) reads is.replied) free not
