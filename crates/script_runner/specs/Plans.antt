-- What the answer to a `solve` line shows of the table that it names.
use Rattle.std.specs.Prelude.{◌≡◌, ℕ, false, List, Some, Ok, None}
use Rattle.fractions.specs.Fraction.{Fraction, ◌≤ʳ◌}
use Rattle.linear_table.specs.declared.Linear.{Linear}
use Rattle.linear_table.specs.declared.Plan.{Plan}
use Rattle.linear_table.specs.declared.SolveAnswer.{SolveAnswer}
use Rattle.linear_table.specs.declared.SolveAnswer.TheVariants.{Planned, Infeasible, TooWide, OutOfBudget}
use Rattle.linear_table.specs.Answer.{IsOut, IsTooWide}
use Rattle.linear_table.specs.Plans.{IsPlan, cost_of, AreInfeasibilityPrices, AreLeastCostPrices}
use Rattle.production_table.specs.Linear.{linear_of}
use Rattle.plan_lines.specs.declared.command.Command.TheVariants as command
use Rattle.plan_lines.specs.declared.reply.Reply.{Reply}
use Rattle.planner_tables.specs.Effects.{table_at, table_named}
use Rattle.planner_tables.specs.Questions.{solved}
use Rattle.state_changes.specs.States.{State}
use Rattle.planner_core.specs.Lines.{is_refused}
use Rattle.script_runner.specs.Answers.{Answered}

-- The rates balance every good exactly at what is wanted, and cost this much. The prices are dual to that cost, and so no plan
-- costs less.
pub record IsLeastCostPlan (l : Linear) (p : Plan) : Type 0 where
  pub balances : IsPlan l p.rates
  pub cost_is : p.cost ≡ cost_of l p.rates
  pub prices_show : AreLeastCostPrices l p.prices p.cost
  pub least : (rates : List Fraction) → IsPlan l rates → p.cost ≤ʳ cost_of l rates

-- the prices are a certificate that there is no plan
pub record HasNoPlanBy (l : Linear) (prices : List Fraction) : Type 0 where
  pub prices_show : AreInfeasibilityPrices l prices
  pub none : (rates : List Fraction) → ¬ (IsPlan l rates)

-- A plan of least cost; or that there is no plan; or the exchanges up to the one that forms a number past the limits of
-- fractions; or as many exchanges as the budget, behind which the table is not settled.
abbrev pub Shows : Linear → ℕ → SolveAnswer → Type 0
Shows l budget (Planned p) = IsLeastCostPlan l p
Shows l budget (Infeasible prices) = HasNoPlanBy l prices
Shows l budget (TooWide trail next place) = IsTooWide l budget trail next place
Shows l budget (OutOfBudget trail) = IsOut l budget trail

-- the reply tells an answer for the linear form of the table that has this name in this state, and the answer shows what it
-- tells
pub record TellsOfTable (s : State) (name : List ℕ) (budget : ℕ) (r : Reply) : Type 0 where
  pub place : ℕ
  pub named : table_named s.tables name ≡ Ok place
  pub form : Linear
  pub form_is : linear_of s.book.game (table_at s.tables place) ≡ Ok form
  pub answer : SolveAnswer
  pub told : r ≡ solved s.book.game (table_at s.tables place) form answer
  pub shows : Shows form budget answer

-- of a `solve` line where no batch is open, unless it is refused: by the state before it
abbrev pub SolvesRightly : Answered → Type 0
SolvesRightly a = (table : List ℕ) (budget : ℕ) → a.reading ≡ Ok (Some (command.Solve table budget)) → a.before.batch ≡ None → is_refused a.reply ≡ false → TellsOfTable a.before.state table budget a.reply
