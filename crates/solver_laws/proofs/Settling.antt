-- Which budget is enough, and what answers of less say.
use Rattle.std.specs.Prelude.{◌≡◌, ℕ, suc, ◌≤◌, List, [], ◌∷◌, length}
use Rattle.std.proofs.Common.{refl, ap, ◌∙◌}
use Rattle.linear_table.specs.Answer.{IsAnswer, IsOutOfBudgetAnswer, NamesAll, NeverFormsWide, SettlesTable}
use Rattle.linear_table.specs.Plans.{IsWellFormed}
use Rattle.linear_table.specs.Trail.{Move}
use Rattle.linear_table.specs.declared.Exchange.{Exchange}
use Rattle.linear_table.specs.declared.Linear.{Linear}
use Rattle.linear_table.specs.declared.SolveAnswer.{SolveAnswer}
use Rattle.linear_table.specs.declared.SolveAnswer.TheVariants.{Infeasible, OutOfBudget, Planned, TooWide}
use Rattle.linear_table.proofs.Determined.{Ends, ends_or_out, ends_or_wide}
use Rattle.linear_table.proofs.Refusals.{never_gets_wide}
use Rattle.solver_laws.specs.Whole.{IsWhole, SettlesFrom}
use Rattle.solver_laws.proofs.Going.{ends}

ends_of : (l : Linear) (ms : List Move) → NeverFormsWide l → IsWhole l ms → Ends l ms
ends_of l ms never whole = record { trail = whole.trail; entries = whole.entries; are_entries = whole.are_entries; settled = whole.settled; narrow = never ms whole.trail }

settled_within : (l : Linear) (ms : List Move) (budget : ℕ) (answer : SolveAnswer) → IsWellFormed l → Ends l ms → length ms ≤ budget → IsAnswer l budget answer → SettlesTable answer
settled_within l ms budget (Planned plan) well e le h = tt
settled_within l ms budget (Infeasible prices) well e le h = tt
settled_within l ms budget (TooWide trail next place) well e le h = ends_or_wide l budget h.0 ms h.1 place well e h.4
settled_within l ms budget (OutOfBudget trail) well e le h = ends_or_out l budget h.0 ms well e le h.2

pub settles_from : (l : Linear) (ms : List Move) → IsWellFormed l → NeverFormsWide l → IsWhole l ms → SettlesFrom l (length ms)
settles_from l ms well never whole budget le answer h = settled_within l ms budget answer well (ends_of l ms never whole) le h

pub some_budget : (l : Linear) → IsWellFormed l → NeverFormsWide l → (enough : ℕ) × SettlesFrom l enough
some_budget l well never =
    let whole = ends l well in
    (length whole.0, settles_from l whole.0 well never whole.1)

pub settled : (l : Linear) (budget : ℕ) (answer : SolveAnswer) → IsAnswer l budget answer → NeverFormsWide l → ¬ IsOutOfBudgetAnswer answer → SettlesTable answer
settled l budget (Planned plan) h never within = tt
settled l budget (Infeasible prices) h never within = tt
settled l budget (TooWide trail next place) h never within = never_gets_wide l budget h.0 h.1 place never h.4
settled l budget (OutOfBudget trail) h never within = within tt

named : (l : Linear) (ms : List Move) (xs : List Exchange) → NamesAll l ms xs → length xs ≡ length ms
named l [] [] h = refl
named l [] (x ∷ xs) h = absurd h
named l (m ∷ ms) [] h = absurd h
named l (m ∷ ms) (x ∷ xs) h = ap suc (named l ms xs h.1)

pub out : (l : Linear) (budget : ℕ) (trail : List Exchange) → IsAnswer l budget (OutOfBudget trail) → length trail ≡ budget
out l budget trail h = named l h.0 trail h.1 ∙ h.2.count
