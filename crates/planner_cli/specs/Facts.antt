-- What the answers to the lines of a script tell a player: the facts of the headline.
use Rattle.std.specs.Prelude.{◌≡◌, ◌⊎◌, ℕ, List, [], All, Some, None, Ok, Err, length, true, ⊤}
use Rattle.plan_base.specs.declared.ids.NodeId.{NodeId}
use Rattle.plan_base.specs.declared.shape.Kind.{Kind}
use Rattle.fractions.specs.Fraction.{Fraction}
use Rattle.linear_table.specs.declared.Linear.{Linear}
use Rattle.linear_table.specs.declared.Plan.{Plan}
use Rattle.edit_undo.specs.Edits.{apply_edits}
use Rattle.edit_undo.specs.Kept.{session_of}
use Rattle.edit_undo.specs.Session.{active_edits, undo_of}
use Rattle.plan_lines.specs.declared.change.Object.{Object}
use Rattle.plan_lines.specs.declared.command.Command.{Command}
use Rattle.plan_lines.specs.declared.command.Command.TheVariants as command
use Rattle.plan_lines.specs.declared.reply.RefusalCode.TheVariants as code
use Rattle.plan_lines.specs.declared.reply.Reply.{Reply}
use Rattle.plan_lines.specs.declared.reply.Reply.TheVariants as reply
use Rattle.table_rows.specs.Refusals.{refused}
use Rattle.table_rows.specs.declared.refusals.TableRefusal.{TableRefusal}
use Rattle.planner_tables.specs.Questions.{linear_named}
use Rattle.state_changes.specs.Actions.{node_named}
use Rattle.state_changes.specs.Effects.{effect_of}
use Rattle.state_changes.specs.States.{State}
use Rattle.planning_state.specs.Worlds.{is_reached, rank_of}
use Rattle.planner_core.specs.Replies.{AboutNode, IsWhyReply, list_reply, mask_reply, missing_reply, refused_as, summary_reply}
use Rattle.planner_core.specs.Lines.{Planned, closed}
use Rattle.planner_core.specs.Posing.{form_asked}
use Rattle.planner_core.specs.declared.posing.Posed.TheVariants as posed
use Rattle.script_runner.specs.declared.verdict.Verdict.{Verdict}
use Rattle.script_runner.specs.declared.verdict.Verdict.TheVariants.{ProvedPlan, ProvedInfeasible}
use Rattle.script_runner.specs.Answers.{Answered, is_refusal}
use Rattle.script_runner.specs.Plans.{HasNoPlanBy, IsLeastCostPlan, TellsOfTable}
use Rattle.script_runner.specs.Trials.{Judged}

-- the state is what the active edits, applied in order, give afresh on the base
abbrev pub IsAfresh : State → Planned → Type 0
IsAfresh base p = apply_edits effect_of base (active_edits (session_of p.kept)) ≡ Ok p.state

-- the line was read as this command, and no batch was open
pub record Asks (a : Answered) (asked : Command) : Type 0 where
  pub reads : a.reading ≡ Ok (Some asked)
  pub free : a.before.batch ≡ None

-- ---- what is reached
-- the reply says this of the node that the line names, or that nothing has the name
abbrev pub SaysOfNode : Answered → Object → (NodeId → Reply → Type 0) → Type 0
SaysOfNode a object ask = AboutNode a.before.state.book.game (node_named a.before.state.book.game object) ask a.reply

-- What is reached, by which rank, why, what is missing and which milestones are needed are those of the rounds over the rows of the
-- game, with its marks, as the line finds it.
pub record TellsByRounds (a : Answered) : Type 0 where
  pub reach : (object : Object) → Asks a (command.Reach object) → SaysOfNode a object (λ node told. told ≡ reply.Reach node (rank_of a.before.state.book node.0))
  pub why : (object : Object) → Asks a (command.Why object) → SaysOfNode a object (λ node told. IsWhyReply a.before.state node (is_reached a.before.state.book node.0) told)
  pub missing : (object : Object) → Asks a (command.Missing object) → SaysOfNode a object (λ node told. told ≡ missing_reply a.before.state node (is_reached a.before.state.book node.0))
  pub mask : (object : Object) → Asks a (command.Mask object) → SaysOfNode a object (λ node told. told ≡ mask_reply a.before.state node (is_reached a.before.state.book node.0))
  pub list : (kind : Kind) → Asks a (command.List kind) → a.reply ≡ list_reply a.before.state.book kind
  pub summary : Asks a command.Summary → a.reply ≡ summary_reply a.before.state (length (session_of a.before.kept).done) (length (session_of a.before.kept).undone)

-- ---- plans
-- the table of this name has no linear form: there is none of this name, or a row is past the limits, or it has too many goods. That is told.
pub record TellsWhyNot (s : State) (name : List ℕ) (r : Reply) : Type 0 where
  pub refusal : TableRefusal
  pub cause : linear_named s.book.game s.tables name ≡ Err refusal
  pub told : r ≡ refused s.book.game refusal None

-- A `solve` line is answered by a plan that balances every good of the table exactly at what is wanted, with prices that are dual to
-- its cost, and no plan of the table costs less; or by prices that show that there is no plan; or it is refused by its cause.
abbrev pub SolvesOrTellsWhy : Answered → Type 0
SolvesOrTellsWhy a = (table : List ℕ) (budget : ℕ) → Asks a (command.Solve table budget) → TellsOfTable a.before.state table budget a.reply ⊎ TellsWhyNot a.before.state table a.reply

-- ---- undo
-- the last entry is no longer done, or none was and that is told
abbrev pub TakesBack : Answered → Type 0
TakesBack a = Asks a command.Undo → (session_of a.after.kept ≡ undo_of (session_of a.before.kept)) ⊎ (((session_of a.before.kept).done ≡ []) × (a.reply ≡ refused_as code.H1))

-- where the entries that are done behind one line are those that were done before another, the state is the same in each of its parts
abbrev pub HasSameState : Answered → Answered → Type 0
HasSameState a b = (session_of a.after.kept).done ≡ (session_of b.before.kept).done → a.after.state ≡ b.before.state

-- ---- refused lines
-- a refused line leaves the state, the history, the open batch and the quiet mark as they were; only a refused `end` closes its batch
abbrev pub LeavesAll : Answered → Type 0
LeavesAll a = is_refusal a ≡ true → (a.after ≡ a.before) ⊎ ((a.reading ≡ Ok (Some command.End)) × (a.after ≡ closed a.before))

-- ---- the headline
-- Before and behind each line the state is what the active edits give afresh on the base. What is told of things is by the rounds, and of
-- tables by plans and prices. Undo gives back every part, and a refused line leaves each as it was.
pub record Headline (base : State) (answers : List Answered) : Type 0 where
  pub afresh : All (λ a. IsAfresh base a.before × IsAfresh base a.after) answers
  pub by_rounds : All TellsByRounds answers
  pub plans : All SolvesOrTellsWhy answers
  pub undo : All TakesBack answers
  pub gives_back : All (λ a. All (HasSameState a) answers) answers
  pub refusals : All LeavesAll answers

-- ---- the headline of a check
-- a plan of least cost, or prices that show that there is no plan; nothing is shown by the other verdicts
abbrev pub IsShown : Linear → Verdict → Type 0
IsShown form ProvedPlan = (plan : Plan) × IsLeastCostPlan form plan
IsShown form ProvedInfeasible = (prices : List Fraction) × HasNoPlanBy form prices
IsShown form other = ⊤

-- the form is that of the table which the line names in the state before it, and what is said to be proved of it is so
pub record ProvesOfForm (a : Judged) (form : Linear) (verdict : Verdict) : Type 0 where
  pub asked : Command
  pub reads : a.reading ≡ Ok (Some asked)
  pub form_is : form_asked a.before asked ≡ Some form
  pub shown : IsShown form verdict

abbrev pub ProvesTruly : Judged → Type 0
ProvesTruly a = (form : Linear) (verdict : Verdict) → a.said ≡ posed.Linear form → a.verdict ≡ Some verdict → ProvesOfForm a form verdict

-- Before and behind each line the state is what the active edits give afresh on the base, and what is said to be proved of a table is so.
pub record CheckHeadline (base : State) (judged : List Judged) : Type 0 where
  pub afresh : All (λ a. IsAfresh base a.before × IsAfresh base a.after) judged
  pub proves : All ProvesTruly judged
