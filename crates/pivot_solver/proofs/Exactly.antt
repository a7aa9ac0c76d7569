-- Each answer comes exactly where its cause is, and when a table is settled.
use Rattle.std.specs.Prelude.{◌≡◌, ℕ, ◌+◌, ◌≤◌, ◌↔◌, List, [], ◌∷◌}
use Rattle.std.proofs.Common.{sym, subst, inl, inr}
use Rattle.linear_table.specs.System.{IsBasis}
use Rattle.linear_table.specs.Exchanged.{exchanged}
use Rattle.linear_table.specs.Trail.{Move, IsTrailFrom, first_basis, count_up}
use Rattle.linear_table.specs.Basis.{system_of}
use Rattle.linear_table.specs.Plans.{good_count, column_count, IsWellFormed}
use Rattle.linear_table.specs.Moderate.{IsModerateTable, CountsBases, CountsChoices, HasEnoughBudget}
use Rattle.linear_table.specs.Answer.{NoneWide, IsTooWideAnswer, IsOutOfBudgetAnswer, IsInfeasibleAnswer, SettlesTable, SomeGetsWide, SomeRunsOut, HasNoPlan, IsTrailOf, HasNoBasisTwice, NeverFormsWide}
use Rattle.linear_table.specs.declared.Linear.{Linear}
use Rattle.linear_table.specs.declared.SolveAnswer.{SolveAnswer}
use Rattle.linear_table.specs.declared.SolveAnswer.TheVariants.{Planned, Infeasible, TooWide, OutOfBudget}
use Rattle.linear_table.proofs.Determined.{Ends, wide_or_out, ends_or_out, ends_or_wide}
use Rattle.linear_table.proofs.Duality.{no_plan}
use Rattle.linear_table.proofs.Refusals.{never_gets_wide, never_runs_out, bases_differ}
use Rattle.linear_table.proofs.Narrow.{forms_nothing}
use Rattle.linear_table.proofs.NoRepeat.{next_is_basis}
use Rattle.linear_table.proofs.First.{first_is_basis}
use Rattle.linear_table.proofs.Settled.{system_sound}
use Rattle.linear_table.proofs.Count.{sublists, all_choices, length-all_choices}
use Rattle.pivot_solver.specs.Path.{EndsWithin, IsDone, IsProgress}
use Rattle.pivot_solver.specs.declared.path.Progress.{Progress}
use Rattle.pivot_solver.specs.declared.path.Progress.TheVariants.{Done}
use Rattle.pivot_solver.proofs.Onward.{can_next}

ends_of : (l : Linear) (budget : ℕ) (ms : List Move) → EndsWithin l budget ms → Ends l ms
ends_of l budget ms h = record { trail = h.trail; entries = h.entries; are_entries = h.are_entries; settled = h.settled; narrow = h.narrow }

not_wide : (l : Linear) (budget : ℕ) → IsWellFormed l → (ms : List Move) × EndsWithin l budget ms → ¬ SomeGetsWide l budget
not_wide l budget well e w = ends_or_wide l budget w.0 e.0 w.1 w.2 well (ends_of l budget e.0 e.1) w.3

not_out : (l : Linear) (budget : ℕ) → IsWellFormed l → (ms : List Move) × EndsWithin l budget ms → ¬ SomeRunsOut l budget
not_out l budget well e w = ends_or_out l budget w.0 e.0 well (ends_of l budget e.0 e.1) e.1.within w.1

pub wide_exactly : (l : Linear) (budget : ℕ) (a : SolveAnswer) → IsWellFormed l → IsDone l budget a → IsTooWideAnswer a ↔ SomeGetsWide l budget
wide_exactly l budget (Planned p) well d = (λ h. absurd h, λ w. not_wide l budget well d.1 w)
wide_exactly l budget (Infeasible prices) well d = (λ h. absurd h, λ w. not_wide l budget well d.1 w)
wide_exactly l budget (TooWide trail next place) well d = (λ _. (d.0.0, d.0.1, place, d.0.4), λ _. tt)
wide_exactly l budget (OutOfBudget trail) well d = (λ h. absurd h, λ w. wide_or_out l budget d.0.0 w.0 w.1 w.2 well d.0.2 w.3)

pub out_exactly : (l : Linear) (budget : ℕ) (a : SolveAnswer) → IsWellFormed l → IsDone l budget a → IsOutOfBudgetAnswer a ↔ SomeRunsOut l budget
out_exactly l budget (Planned p) well d = (λ h. absurd h, λ w. not_out l budget well d.1 w)
out_exactly l budget (Infeasible prices) well d = (λ h. absurd h, λ w. not_out l budget well d.1 w)
out_exactly l budget (TooWide trail next place) well d = (λ h. absurd h, λ w. wide_or_out l budget w.0 d.0.0 d.0.1 place well w.1 d.0.4)
out_exactly l budget (OutOfBudget trail) well d = (λ _. (d.0.0, d.0.2), λ _. tt)

pub infeasible_exactly : (l : Linear) (budget : ℕ) (a : SolveAnswer) → IsWellFormed l → IsDone l budget a → IsInfeasibleAnswer a ↔ (HasNoPlan l × (¬ SomeGetsWide l budget) × (¬ SomeRunsOut l budget))
infeasible_exactly l budget (Planned p) well d = (λ h. absurd h, λ h. h.0 p.rates d.0.0)
infeasible_exactly l budget (Infeasible prices) well d =
    (λ _. (λ rates plan. no_plan l prices rates d.0 plan, λ w. not_wide l budget well d.1 w, λ w. not_out l budget well d.1 w), λ _. tt)
infeasible_exactly l budget (TooWide trail next place) well d = (λ h. absurd h, λ h. h.1 (d.0.0, d.0.1, place, d.0.4))
infeasible_exactly l budget (OutOfBudget trail) well d = (λ h. absurd h, λ h. h.2 (d.0.0, d.0.2))

settles_counted : (l : Linear) (budget : ℕ) (a : SolveAnswer) → IsWellFormed l → IsDone l budget a → NeverFormsWide l → CountsBases l budget → SettlesTable a
settles_counted l budget (Planned p) well d narrow bases = tt
settles_counted l budget (Infeasible prices) well d narrow bases = tt
settles_counted l budget (TooWide trail next place) well d narrow bases = never_gets_wide l budget d.0.0 d.0.1 place narrow d.0.4
settles_counted l budget (OutOfBudget trail) well d narrow bases = never_runs_out l budget d.0.0 bases.0 well bases.1 bases.2 d.0.2

none_wide_from : (l : Linear) (b : List ℕ) (ms : List Move) → IsWellFormed l → IsModerateTable l → IsBasis (system_of l) b → IsTrailFrom (system_of l) b ms → NoneWide l b ms
none_wide_from l b [] well below basis t = tt
none_wide_from l b (m ∷ ms) well below basis t = (
  λ e en p. forms_nothing l b e m well below basis en (can_next (system_of l) b m e basis en t.0) p,
  none_wide_from l (exchanged m.enter m.leave b) ms well below (next_is_basis (system_of l) b m basis t.0) t.1,
)

pub moderate_never_wide : (l : Linear) → IsWellFormed l → IsModerateTable l → NeverFormsWide l
moderate_never_wide l well below ms t = none_wide_from l (first_basis (system_of l)) ms well below (first_is_basis (system_of l) (system_sound l well)) t

budget_for_bases : (l : Linear) (budget : ℕ) → CountsChoices l budget → CountsBases l budget
budget_for_bases l budget h =
    (sublists (good_count l) (count_up 0 (good_count l + column_count l)), all_choices (system_of l), subst (λ (k : ℕ). k ≤ budget) (sym (length-all_choices (system_of l))) h)

pub settles : (l : Linear) (budget : ℕ) (a : SolveAnswer) → IsWellFormed l → IsDone l budget a → NeverFormsWide l → HasEnoughBudget l budget → SettlesTable a
settles l budget a well d narrow enough =
    elim enough [
      | inl bases ↦ settles_counted l budget a well d narrow bases
      | inr choices ↦ settles_counted l budget a well d narrow (budget_for_bases l budget choices)
    ]

pub no_basis_twice : (l : Linear) (a : SolveAnswer) → IsWellFormed l → (ms : List Move) → IsTrailOf l a ms → HasNoBasisTwice l ms
no_basis_twice l (Planned p) well ms t = absurd t
no_basis_twice l (Infeasible prices) well ms t = absurd t
no_basis_twice l (TooWide trail next place) well ms t = λ i j lt le. bases_differ l ms well t.1 i j lt le
no_basis_twice l (OutOfBudget trail) well ms t = λ i j lt le. bases_differ l ms well t.1 i j lt le

pub done_of : (l : Linear) (budget n : ℕ) (p : Progress) (a : SolveAnswer) → p ≡ Done a → IsProgress l budget n p → IsDone l budget a
done_of l budget n p a e h = subst (λ (k : Progress). IsProgress l budget n k) e h
