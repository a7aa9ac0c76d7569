-- How far the solver has come: a trail from the first basis, and the tableau of the basis that it leads to.
use Rattle.std.specs.Prelude.{◌≡◌, ℕ, suc, ◌<◌, ◌≤◌, List, length}
use Rattle.linear_table.specs.System.{Entries, AreEntries}
use Rattle.linear_table.specs.Trail.{Move, IsTrail, IsSettled, first_basis}
use Rattle.linear_table.specs.Basis.{system_of}
use Rattle.linear_table.specs.Answer.{NamesAll, NoneWide, last_basis, IsAnswer}
use Rattle.linear_table.specs.declared.Linear.{Linear}
use Rattle.linear_table.specs.declared.Exchange.{Exchange}
use Rattle.linear_table.specs.declared.SolveAnswer.{SolveAnswer}
use Rattle.linear_table.specs.declared.SolveAnswer.TheVariants.{Planned, Infeasible, TooWide, OutOfBudget}
use Rattle.pivot_solver.specs.Tableau.{IsTableau}
use Rattle.pivot_solver.specs.declared.path.Path.{Path}
use Rattle.pivot_solver.specs.declared.path.Progress.{Progress}
use Rattle.pivot_solver.specs.declared.path.Progress.TheVariants.{On, Done}

pub record IsPath (l : Linear) (p : Path) : Type 0 where
  pub moves : List Move
  pub named : NamesAll l moves p.trail.items
  pub is_trail : IsTrail (system_of l) moves
  pub narrow : NoneWide l (first_basis (system_of l)) moves
  pub basis_is : p.basis.items ≡ last_basis l moves
  pub tableau : IsTableau (system_of l) p.basis.items p.rows.items p.cost.items

-- a trail of at most as many exchanges as the budget, none of which forms an entry wide, to a settled basis
pub record EndsWithin (l : Linear) (budget : ℕ) (moves : List Move) : Type 0 where
  pub trail : IsTrail (system_of l) moves
  pub entries : Entries
  pub are_entries : AreEntries (system_of l) (last_basis l moves) entries
  pub settled : IsSettled (system_of l) (last_basis l moves) entries
  pub narrow : NoneWide l (first_basis (system_of l)) moves
  pub within : length moves ≤ budget

-- an answer that settles the table comes from such a trail
abbrev pub SettlesWithin : Linear → ℕ → SolveAnswer → Type 0
SettlesWithin l budget (Planned p) = (moves : List Move) × EndsWithin l budget moves
SettlesWithin l budget (Infeasible prices) = (moves : List Move) × EndsWithin l budget moves
SettlesWithin l budget (TooWide trail next place) = Unit {0}
SettlesWithin l budget (OutOfBudget trail) = Unit {0}

abbrev pub IsDone : Linear → ℕ → SolveAnswer → Type 0
IsDone l budget a = IsAnswer l budget a × SettlesWithin l budget a

-- one exchange more, or the answer
abbrev pub IsProgress : Linear → ℕ → ℕ → Progress → Type 0
IsProgress l budget n (On p) = IsPath l p × (length p.trail.items ≡ suc n) × (n < budget)
IsProgress l budget n (Done a) = IsDone l budget a

-- the answer that the budget is used up, with this trail
abbrev pub IsOutWith : List Exchange → SolveAnswer → Type 0
IsOutWith trail (Planned p) = ⊥
IsOutWith trail (Infeasible prices) = ⊥
IsOutWith trail (TooWide moves next place) = ⊥
IsOutWith trail (OutOfBudget moves) = moves ≡ trail
