-- What the solver's answers say of whether there is a plan.
use Rattle.std.proofs.Common.{◌≡◌, ◌↔◌, List, Result, Ok, Err, ap, refl, subst, sym, ◌∙◌}
use Rattle.plan_base.specs.declared.denied.Denied.TheVariants.{Refused}
use Rattle.plan_base.specs.Outcomes.{IsRefused}
use Rattle.fractions.specs.Fraction.{Fraction}
use Rattle.linear_table.specs.Answer.{HasNoPlan, IsAnswer, IsInfeasibleAnswer, IsOutOfBudgetAnswer, IsTooWideAnswer, SomeGetsWide, SomeRunsOut}
use Rattle.linear_table.specs.declared.Exchange.{Exchange}
use Rattle.linear_table.specs.declared.Linear.{Linear}
use Rattle.linear_table.specs.declared.Place.{Place}
use Rattle.linear_table.specs.declared.Plan.{Plan}
use Rattle.linear_table.specs.declared.SolveAnswer.TheVariants.{Planned, Infeasible, TooWide, OutOfBudget}
use Rattle.game_types.specs.declared.games.Game.{Game}
use Rattle.production_table.specs.Linear.{linear_of}
use Rattle.production_table.specs.declared.faults.TableFault.{TableFault}
use Rattle.production_table.specs.declared.tables.Table.{Table}
use Rattle.wish_checks.specs.Answers.{HasPlan, IsSolvable}

pub planned : (l : Linear) (p : Plan) → IsAnswer l 20000 (Planned p) → (IsTooWideAnswer (Planned p) ↔ SomeGetsWide l 20000) → (IsOutOfBudgetAnswer (Planned p) ↔ SomeRunsOut l 20000) → HasPlan l
planned l p a w o = record { plan = (p.rates, a.0); narrow = λ h. w.1 h; in_budget = λ h. o.1 h }

pub infeasible : (l : Linear) (prices : List Fraction) → (IsInfeasibleAnswer (Infeasible prices) ↔ (HasNoPlan l × (¬ SomeGetsWide l 20000) × (¬ SomeRunsOut l 20000))) → ¬ HasPlan l
infeasible l prices i = λ h. (i.0 tt).0 h.plan.0 h.plan.1

pub too_wide : (l : Linear) (trail : List Exchange) (next : Exchange) (place : Place) → (IsTooWideAnswer (TooWide trail next place) ↔ SomeGetsWide l 20000) → ¬ HasPlan l
too_wide l trail next place w = λ h. h.narrow (w.0 tt)

pub out_of_budget : (l : Linear) (trail : List Exchange) → (IsOutOfBudgetAnswer (OutOfBudget trail) ↔ SomeRunsOut l 20000) → ¬ HasPlan l
out_of_budget l trail o = λ h. h.in_budget (o.0 tt)

-- ---- a table by its linear form
pub solvable : (g : Game) (t : Table) (l : Linear) → linear_of g t ≡ Ok l → HasPlan l → IsSolvable g t
solvable g t l e h = (l, e, h)

form_in : Linear → Result Linear TableFault → Linear
form_in l (Ok other) = other
form_in l (Err fault) = l

same_form : (l other : Linear) → ◌≡◌ {A = Result Linear TableFault} (Ok other) (Ok l) → other ≡ l
unfolding form_in
same_form l other e = ap (form_in l) e

pub unsolvable : (g : Game) (t : Table) (l : Linear) → linear_of g t ≡ Ok l → ¬ HasPlan l → ¬ IsSolvable g t
unsolvable g t l e n = λ s. n (subst HasPlan (same_form l s.0 (sym s.1 ∙ e)) s.2)

no_form_is_one : (l : Linear) (fault : TableFault) → ◌≡◌ {A = Result Linear TableFault} (Ok l) (Err fault) → ⊥
no_form_is_one l fault e = cc

pub formless : (g : Game) (t : Table) (fault : TableFault) → IsRefused (linear_of g t) (Refused fault) → ¬ IsSolvable g t
formless g t fault h = λ s. no_form_is_one s.0 fault (sym s.1 ∙ h fault refl)
