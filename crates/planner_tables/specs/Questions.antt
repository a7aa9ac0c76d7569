-- What is answered about tables: the rates of one row, and what the solver says of a table.
use Rattle.std.specs.Prelude.{◌≡◌, ◌↔◌, ℕ, List, map, find, None, Result, Ok, Err}
use Rattle.fractions.specs.Fraction.{Fraction}
use Rattle.game_types.specs.declared.effects.Effects.{Effects}
use Rattle.game_types.specs.declared.effects.Rates.{Rates}
use Rattle.game_types.specs.declared.effects.Wide.{Wide}
use Rattle.game_types.specs.declared.games.Game.{Game}
use Rattle.game_types.specs.Steps.{◌▸◌}
use Rattle.linear_table.specs.declared.Column.{Column}
use Rattle.linear_table.specs.declared.Linear.{Linear}
use Rattle.linear_table.specs.declared.LinearColumn.{LinearColumn}
use Rattle.linear_table.specs.declared.SolveAnswer.{SolveAnswer}
use Rattle.linear_table.specs.Answer.{HasNoBasisTwice, HasNoPlan, IsAnswer, IsInfeasibleAnswer, IsOutOfBudgetAnswer, IsTooWideAnswer, IsTrailOf, NeverFormsWide, SettlesTable, SomeGetsWide, SomeRunsOut}
use Rattle.linear_table.specs.Moderate.{HasEnoughBudget, IsModerateTable}
use Rattle.linear_table.specs.Trail.{Move}
use Rattle.production_table.specs.declared.tables.Table.{Table}
use Rattle.production_table.specs.declared.tables.TableRow.{TableRow}
use Rattle.table_rows.specs.Columns.{figures_of}
use Rattle.production_table.specs.Linear.{figures_of_row, linear_of}
use Rattle.production_table.specs.Tables.{is_label, labels_of}
use Rattle.plan_lines.specs.declared.reply.Reply.{Reply}
use Rattle.plan_lines.specs.declared.reply.Reply.TheVariants as reply
use Rattle.table_rows.specs.declared.refusals.TableRefusal.{TableRefusal}
use Rattle.table_rows.specs.declared.refusals.TableRefusal.TheVariants.{NoName, Wide as WideRow}
use Rattle.planner_tables.specs.Effects.{named, table_at, table_named}
use Rattle.planner_tables.specs.Figures.{answer_figures, nothing, summed}
use Rattle.table_rows.specs.Refusals.{refused}
use Rattle.planner_tables.specs.Causes.{caused}

abbrev pub answered : Game → Result Reply TableRefusal → Reply
answered g (Ok answer) = answer
answered g (Err refusal) = refused g refusal None

-- ---- the rates of a row
abbrev pub rates_reply : Table → TableRow → Effects × Rates × Fraction → Reply
rates_reply t row rates = reply.Rate t.name row.label rates.0 rates.1 rates.2

-- the first step of a row's rates that is past the limits of fractions; neither the sums of its column nor its draw are asked
abbrev pub rates_outcome : Table → TableRow → Result (Effects × Rates × Fraction) Wide → Result Reply TableRefusal
rates_outcome t row (Ok rates) = Ok (rates_reply t row rates)
rates_outcome t row (Err wide) = Err (WideRow row.label wide.step)

abbrev pub row_rates_outcome : Game → Table → List ℕ → Result Reply TableRefusal
row_rates_outcome g t label = named label (find (is_label label) t.rows) ▸ λ row. rates_outcome t row (figures_of g row.setup)

-- first the table, then its row
unfoldable pub rate_outcome : Game → List Table → List ℕ → List ℕ → Result Reply TableRefusal
rate_outcome g ts table label = table_named ts table ▸ λ place. row_rates_outcome g (table_at ts place) label

abbrev pub rate_reply : Game → List Table → List ℕ → List ℕ → Reply
rate_reply g ts table label = answered g (rate_outcome g ts table label)

-- ---- what the solver says
-- All that the solver says of its answer on a linear form, with so many exchanges at most: what it shows, exactly when each
-- kind comes, that its exchanges repeat no basis, and that moderate tables are settled.
pub record IsSolveAnswer (l : Linear) (budget : ℕ) (a : SolveAnswer) : Type 0 where
  pub shows : IsAnswer l budget a
  pub too_wide : IsTooWideAnswer a ↔ SomeGetsWide l budget
  pub out_of_budget : IsOutOfBudgetAnswer a ↔ SomeRunsOut l budget
  pub infeasible : IsInfeasibleAnswer a ↔ (HasNoPlan l × (¬ SomeGetsWide l budget) × (¬ SomeRunsOut l budget))
  pub no_basis_twice : (ms : List Move) → IsTrailOf l a ms → HasNoBasisTwice l ms
  pub settled : NeverFormsWide l → HasEnoughBudget l budget → SettlesTable a
  pub moderate : IsModerateTable l → HasEnoughBudget l budget → SettlesTable a

abbrev pub column_names : List LinearColumn → List Column
column_names columns = map (λ c. c.column) columns

-- an answer with the labels, goods and columns of the table, of what its rows take for one craft a second
abbrev pub solved_with : Table → Linear → List (Result (Effects × Rates × Fraction) Wide) → SolveAnswer → Reply
solved_with t l rows a =
    reply.Solved t.name (labels_of t.rows) l.goods (column_names l.columns) (answer_figures rows a) (summed nothing (answer_figures rows a)) a

-- the same, the figures of the rows being those of the game
abbrev pub solved : Game → Table → Linear → SolveAnswer → Reply
solved g t l a = solved_with t l (map (figures_of_row g) t.rows) a

-- the linear form of a table, or the first refusal: no table of this name, a row that is too wide, too many goods
abbrev pub linear_outcome : Game → Table → Result Linear TableRefusal
linear_outcome g t = caused (NoName t.name) (linear_of g t)

-- that of the table of a name, or the first refusal
unfoldable pub linear_named : Game → List Table → List ℕ → Result Linear TableRefusal
linear_named g ts table = table_named ts table ▸ λ place. linear_outcome g (table_at ts place)

-- a reply that holds an answer of the solver
pub record IsSolvedWith (t : Table) (l : Linear) (rows : List (Result (Effects × Rates × Fraction) Wide)) (budget : ℕ) (r : Reply) : Type 0 where
  pub answer : SolveAnswer
  pub is_answer : IsSolveAnswer l budget answer
  pub reply_is : r ≡ solved_with t l rows answer

-- the same, the figures of the rows being those of the game
abbrev pub IsSolved : Game → Table → Linear → ℕ → Reply → Type 0
IsSolved g t l budget r = IsSolvedWith t l (map (figures_of_row g) t.rows) budget r

-- a reply that holds an answer of the solver where the table has a linear form, and else the refusal
abbrev pub IsSolvedWhere : Game → Table → ℕ → Result Linear TableRefusal → Reply → Type 0
IsSolvedWhere g t budget (Ok l) r = IsSolved g t l budget r
IsSolvedWhere g t budget (Err refusal) r = r ≡ refused g refusal None

-- the same of the table at a place, or the refusal of its name
abbrev pub IsSolveReplyAt : Game → List Table → ℕ → Result ℕ TableRefusal → Reply → Type 0
IsSolveReplyAt g ts budget (Ok place) r = IsSolvedWhere g (table_at ts place) budget (linear_outcome g (table_at ts place)) r
IsSolveReplyAt g ts budget (Err refusal) r = r ≡ refused g refusal None

-- the same of the table of a name
unfoldable pub IsSolveReply : Game → List Table → List ℕ → ℕ → Reply → Type 0
IsSolveReply g ts table budget r = IsSolveReplyAt g ts budget (table_named ts table) r
