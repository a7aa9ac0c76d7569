-- What a line is answered where nothing is solved.
use Rattle.std.specs.Prelude.{◌≡◌, ℕ, List, Option, None, Some, Result, Ok, Err, ⊤}
use Rattle.game_types.specs.declared.games.Game.{Game}
use Rattle.linear_table.specs.declared.Linear.{Linear}
use Rattle.linear_table.specs.Plans.{IsWellFormed}
use Rattle.plan_lines.specs.declared.command.Command.{Command}
use Rattle.plan_lines.specs.declared.command.Command.TheVariants as command
use Rattle.plan_lines.specs.declared.reply.Reply.{Reply as AnyReply}
use Rattle.planner_tables.specs.Questions.{linear_named}
use Rattle.table_rows.specs.declared.refusals.TableRefusal.{TableRefusal}
use Rattle.table_rows.specs.Refusals.{refused}
use Rattle.planner_core.specs.Lines.{Held, IsStep, Planned, line_work}
use Rattle.planner_core.specs.declared.posing.Posed.{Posed}
use Rattle.planner_core.specs.declared.posing.Posed.TheVariants as posed

abbrev pub form_of : Result Linear TableRefusal → Option Linear
form_of (Ok form) = Some form
form_of (Err refusal) = None

-- the linear form that a line has the solver settle: that of the table which a `solve` line names, where no batch is open
abbrev pub form_in : Option (List Held) → Planned → Command → Option Linear
form_in None p (command.Solve table budget) = form_of (linear_named p.state.book.game p.state.tables table)
form_in batch p asked = None

unfoldable pub form_asked : Planned → Command → Option Linear
form_asked p asked = form_in p.batch p asked

-- such a line poses its form and leaves the planner, and any other is answered as ever
abbrev pub IsPosedWhere : Option Linear → ℕ → Planned → Command → Planned → Posed → Type 0
IsPosedWhere (Some form) line p asked r said = (r ≡ p) × (said ≡ posed.Linear form)
IsPosedWhere None line p asked r said = (answer : AnyReply) × (said ≡ posed.Reply answer) × IsStep line p asked r answer

-- The planner after a line, and what it is answered, by the planner before, the line's number and its command.
unfoldable pub IsPosed : ℕ → Planned → Command → Planned → Posed → Type 0
IsPosed line p asked r said = IsPosedWhere (form_asked p asked) line p asked r said

-- a form that is posed is one that the solver and the checkers take
abbrev pub IsFormed : Posed → Type 0
IsFormed (posed.Reply answer) = ⊤
IsFormed (posed.Linear form) = IsWellFormed form

-- the form of a table, or the reply that refuses it
abbrev pub IsPosedTable : Game → Result Linear TableRefusal → Posed → Type 0
IsPosedTable g (Ok form) said = said ≡ posed.Linear form
IsPosedTable g (Err refusal) said = said ≡ posed.Reply (refused g refusal None)

-- the work of a line, which is that of its step: none for a line that has the solver settle a form
abbrev pub posed_work : Command → Planned → Planned → Posed → ℕ
posed_work asked p r (posed.Reply answer) = line_work asked p r answer
posed_work asked p r (posed.Linear form) = 0
