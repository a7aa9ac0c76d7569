-- The whole trail of the rule, and budgets that are enough.
use Rattle.std.specs.Prelude.{ℕ, ◌≤◌, List}
use Rattle.linear_table.specs.Answer.{IsAnswer, SettlesTable, last_basis}
use Rattle.linear_table.specs.Basis.{system_of}
use Rattle.linear_table.specs.System.{AreEntries, Entries}
use Rattle.linear_table.specs.Trail.{IsSettled, IsTrail, Move}
use Rattle.linear_table.specs.declared.Linear.{Linear}
use Rattle.linear_table.specs.declared.SolveAnswer.{SolveAnswer}

-- a trail that leads to a settled basis: one that shows a plan of least cost, or that there is no plan
pub record IsWhole (l : Linear) (ms : List Move) : Type 0 where
  pub trail : IsTrail (system_of l) ms
  pub entries : Entries
  pub are_entries : AreEntries (system_of l) (last_basis l ms) entries
  pub settled : IsSettled (system_of l) (last_basis l ms) entries

-- with this budget or more, every answer is a plan of least cost or a proof that there is no plan
abbrev pub SettlesFrom : Linear → ℕ → Type 0
SettlesFrom l enough = (budget : ℕ) → enough ≤ budget → (answer : SolveAnswer) → IsAnswer l budget answer → SettlesTable answer
