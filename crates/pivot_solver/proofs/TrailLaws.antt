-- What answers say of all plans, and the laws of trails.
use Rattle.std.specs.Prelude.{◌≡◌, ℕ, List, length}
use Rattle.linear_table.specs.System.{Entries, AreEntries}
use Rattle.linear_table.specs.Basis.{system_of}
use Rattle.linear_table.specs.Trail.{Move, IsTrail, IsNext, IsSettled}
use Rattle.linear_table.specs.Answer.{IsAnswer, last_basis}
use Rattle.linear_table.specs.Plans.{IsWellFormed}
use Rattle.linear_table.specs.declared.Linear.{Linear}
use Rattle.linear_table.specs.declared.SolveAnswer.{SolveAnswer}
use Rattle.linear_table.specs.declared.SolveAnswer.TheVariants.{Planned, Infeasible, TooWide, OutOfBudget}
use Rattle.linear_table.proofs.Duality.{no_plan_costs_less, no_plan}
use Rattle.linear_table.proofs.Laws.{bases_on_trail, values_on_trail}
use Rattle.linear_table.proofs.Next.{next_is_there, next_alone}
use Rattle.linear_table.proofs.Settled.{system_sound}
use Rattle.pivot_solver.specs.Told.{TellsOfPlans}

pub answer_tells : (l : Linear) (budget : ℕ) (a : SolveAnswer) → IsAnswer l budget a → TellsOfPlans l a
answer_tells l budget (Planned p) h = λ rates r. no_plan_costs_less l p.prices rates p.cost h.2 r
answer_tells l budget (Infeasible prices) h = λ rates. no_plan l prices rates h
answer_tells l budget (TooWide trail next place) h = tt
answer_tells l budget (OutOfBudget trail) h = tt

pub next_on_trail : (l : Linear) (ms : List Move) (e : Entries) → IsWellFormed l → IsTrail (system_of l) ms → AreEntries (system_of l) (last_basis l ms) e → ¬ IsSettled (system_of l) (last_basis l ms) e → (m : Move) × IsNext (system_of l) (last_basis l ms) m
next_on_trail l ms e w t a n = next_is_there (system_of l) (last_basis l ms) e (system_sound l w) (bases_on_trail (system_of l) ms (system_sound l w) t (length ms)) a (values_on_trail (system_of l) ms (system_sound l w) t (length ms) e a) n

pub one_next_on_trail : (l : Linear) (ms : List Move) (m k : Move) → IsWellFormed l → IsTrail (system_of l) ms → IsNext (system_of l) (last_basis l ms) m → IsNext (system_of l) (last_basis l ms) k → (m.enter ≡ k.enter) × (m.leave ≡ k.leave)
one_next_on_trail l ms m k w t h i = next_alone (system_of l) (last_basis l ms) m k (bases_on_trail (system_of l) ms (system_sound l w) t (length ms)) h i
