-- Paths of the solver.
use Rattle.std.specs.Prelude.{◌≡◌, ℕ, suc, ◌<◌, ◌≤◌, List, [], ◌∷◌, ◌++◌, length, Some}
use Rattle.std.proofs.Common.{sym, ap, subst, ◌∙◌, arith, set, get_or}
use Rattle.linear_table.specs.System.{System, Entries, AreEntries}
use Rattle.linear_table.specs.Trail.{Move, IsSettled, HasValues, count_up}
use Rattle.linear_table.specs.Basis.{system_of, name_at}
use Rattle.linear_table.specs.Plans.{IsWellFormed, good_count}
use Rattle.linear_table.specs.Answer.{NamesAll, RunsOut, IsTooWide}
use Rattle.linear_table.specs.declared.Linear.{Linear}
use Rattle.linear_table.specs.declared.Exchange.{Exchange}
use Rattle.linear_table.specs.declared.Place.{Place}
use Rattle.linear_table.specs.declared.SolveAnswer.{SolveAnswer}
use Rattle.linear_table.specs.declared.SolveAnswer.TheVariants.{Planned, Infeasible, TooWide, OutOfBudget}
use Rattle.linear_table.proofs.Pivot.{CanExchange}
use Rattle.linear_table.proofs.Extend.{names_more}
use Rattle.linear_table.proofs.Settled.{system_sound}
use Rattle.linear_table.proofs.Laws.{values_on_trail}
use Rattle.number_rows.specs.Changed.{Numbers}
use Rattle.fractions.specs.Fraction.{Fraction, zero_fraction}
use Rattle.linear_table.specs.Plans.{number_at}
use Rattle.pivot_solver.specs.Rows.{row_at}
use Rattle.pivot_solver.specs.First.{width_of, first_cost, ListsNumbers, ListsRows}
use Rattle.pivot_solver.specs.Tableau.{IsTableau, IsPivoted}
use Rattle.pivot_solver.specs.Choice.{NextAt}
use Rattle.pivot_solver.specs.WideAt.{IsWideAt}
use Rattle.pivot_solver.specs.Places.{IsPlaceOf}
use Rattle.pivot_solver.specs.Path.{IsPath, EndsWithin, IsDone, IsOutWith}
use Rattle.pivot_solver.specs.declared.WideAt.{WideAt}
use Rattle.pivot_solver.specs.declared.path.Path.{Path}
use Rattle.pivot_solver.proofs.Kept.{exchange_tableau}
use Rattle.pivot_solver.proofs.Places.{nothing_wide}
use Rattle.pivot_solver.proofs.Begun.{first_tableau}
use Rattle.pivot_solver.proofs.Onward.{wide_next, can_next, trail_onward, basis_onward, narrow_onward, place_wide, gets_wide, runs_out, length-names}

pub tableau_at : {basis basis0 : List ℕ} {rows rows0 : List Numbers} {cost cost0 : List Fraction} (s : System) → basis0 ≡ basis → rows0 ≡ rows → cost0 ≡ cost → IsTableau s basis rows cost → IsTableau s basis0 rows0 cost0
tableau_at {basis0 = basis0} {rows = rows} {rows0 = rows0} {cost = cost} s eb er ec h =
    subst (λ (k : List Fraction). IsTableau s basis0 rows0 k) (sym ec)
    (subst (λ (k : List Numbers). IsTableau s basis0 k cost) (sym er) (subst (λ (k : List ℕ). IsTableau s k rows cost) (sym eb) h))

-- no basic value is below 0
pub path_values : (l : Linear) (p : Path) → IsWellFormed l → IsPath l p → HasValues (system_of l) p.basis.items
path_values l p well h =
    subst (λ (b : List ℕ). HasValues (system_of l) b) (sym h.basis_is) (values_on_trail (system_of l) h.moves (system_sound l well) h.is_trail (length h.moves))

pub values_at : (l : Linear) (p : Path) (basis0 : List ℕ) → IsWellFormed l → IsPath l p → basis0 ≡ p.basis.items → HasValues (system_of l) basis0
values_at l p basis0 well h e = subst (λ (b : List ℕ). HasValues (system_of l) b) (sym e) (path_values l p well h)

pub begin_path : (l : Linear) (p : Path) (n w : ℕ) → IsWellFormed l → n ≡ good_count l → w ≡ suc (width_of l) → p.trail.items ≡ [] → p.basis.items ≡ count_up 0 n → ListsRows l n p.rows.items → ListsNumbers w (first_cost l) p.cost.items → IsPath l p
begin_path l p n w well en ew et eb hr hc =
    record {
      moves = [];
      named = subst (λ (x : List Exchange). NamesAll l [] x) (sym et) tt;
      is_trail = tt;
      narrow = tt;
      basis_is = eb ∙ ap (λ (k : ℕ). count_up 0 k) en;
      tableau = first_tableau l n w p.basis.items p.rows.items p.cost.items well en ew eb hr hc;
    }

pub path_row : (l : Linear) (p : Path) (row enter : ℕ) → IsPath l p → NextAt (system_of l) p.basis.items row enter → row < good_count l
path_row l p row enter h n = omega (arith, n.inside, h.tableau.is_basis.size)

pub path_can : (l : Linear) (p : Path) (row enter : ℕ) (h : IsPath l p) → NextAt (system_of l) p.basis.items row enter → CanExchange (system_of l) p.basis.items h.tableau.entries enter (get_or p.basis.items row 0)
path_can l p row enter h n =
    can_next (system_of l) p.basis.items (record { enter = enter; leave = get_or p.basis.items row 0 }) h.tableau.entries h.tableau.is_basis h.tableau.are_entries n.is_next

-- the same, as the calls give them
pub pivoted_at : {old rows0 new new' : List Numbers} {old_cost cost0 new_cost new_cost' : List Fraction} (row enter : ℕ) → rows0 ≡ old → cost0 ≡ old_cost → new ≡ new' → new_cost ≡ new_cost' → IsPivoted rows0 cost0 row enter new new_cost → IsPivoted old old_cost row enter new' new_cost'
pivoted_at {old = old} {new = new} {new' = new'} {old_cost = old_cost} {cost0 = cost0} {new_cost = new_cost} row enter er ec en ek h =
    subst (λ (k : List Fraction). IsPivoted old old_cost row enter new' k) ek
    (subst (λ (k : List Numbers). IsPivoted old old_cost row enter k new_cost) en
    (subst (λ (k : List Fraction). IsPivoted old k row enter new new_cost) ec (subst (λ (k : List Numbers). IsPivoted k cost0 row enter new new_cost) er h)))

pub wide_at : {old rows0 : List Numbers} {old_cost cost0 : List Fraction} (row enter : ℕ) (at : WideAt) → rows0 ≡ old → cost0 ≡ old_cost → IsWideAt rows0 cost0 row enter at → IsWideAt old old_cost row enter at
wide_at {old = old} {cost0 = cost0} row enter at er ec h =
    subst (λ (k : List Fraction). IsWideAt old k row enter at) ec (subst (λ (k : List Numbers). IsWideAt k cost0 row enter at) er h)

-- the number that the row is divided by isn't 0
pub pivot_not_zero : (l : Linear) (p : Path) (row enter : ℕ) (rows0 : List Numbers) → IsPath l p → NextAt (system_of l) p.basis.items row enter → rows0 ≡ p.rows.items → number_at (row_at rows0 row) enter ≡ zero_fraction → ⊥
pivot_not_zero l p row enter rows0 h n same e =
    let can : CanExchange (system_of l) p.basis.items h.tableau.entries enter (get_or p.basis.items row 0) = path_can l p row enter h n in
    can.pivot (sym (h.tableau.entry_is row enter (path_row l p row enter h n) can.there) ∙ (sym (ap (λ (k : List Numbers). number_at (row_at k row) enter) same) ∙ e))

pub path_onward : (l : Linear) (p q : Path) (row enter : ℕ) (x : Exchange) → IsPath l p → NextAt (system_of l) p.basis.items row enter → IsPivoted p.rows.items p.cost.items row enter q.rows.items q.cost.items → q.basis.items ≡ set p.basis.items row enter →
    q.trail.items ≡ p.trail.items ++ x ∷ [] → name_at l enter ≡ Some x.enter → name_at l (get_or p.basis.items row 0) ≡ Some x.leave → IsPath l q
path_onward l p q row enter x h n done eb et name_enter name_leave =
    let m : Move = record { enter = enter; leave = get_or p.basis.items row 0 } in
    let can : CanExchange (system_of l) p.basis.items h.tableau.entries enter (get_or p.basis.items row 0) = path_can l p row enter h n in
    let hr : row < good_count l = path_row l p row enter h n in
    record {
      moves = h.moves ++ m ∷ [];
      named = subst (λ (k : List Exchange). NamesAll l (h.moves ++ m ∷ []) k) (sym et) (names_more l h.moves p.trail.items m x h.named (record { enter_is = name_enter; leave_is = name_leave }));
      is_trail = trail_onward l p.basis.items h.moves m h.basis_is h.is_trail n.is_next;
      narrow = narrow_onward l p.basis.items h.moves m h.tableau.entries h.basis_is h.tableau.is_basis h.tableau.are_entries h.narrow
          (nothing_wide l p.basis.items p.rows.items p.cost.items h.tableau row enter hr can q.rows.items q.cost.items done);
      basis_is = basis_onward l p.basis.items q.basis.items h.moves row enter h.basis_is h.tableau.is_basis n.inside eb;
      tableau = subst (λ (k : List ℕ). IsTableau (system_of l) k q.rows.items q.cost.items) (sym eb)
          (exchange_tableau (system_of l) p.basis.items p.rows.items q.rows.items p.cost.items q.cost.items row enter h.tableau done hr can);
    }

pub path_wide : (l : Linear) (budget : ℕ) (p : Path) (row enter : ℕ) (x : Exchange) (at : WideAt) (place : Place) (trail : List Exchange) → IsPath l p → NextAt (system_of l) p.basis.items row enter → IsWideAt p.rows.items p.cost.items row enter at → IsPlaceOf l at place →
    length p.trail.items < budget → trail ≡ p.trail.items → name_at l enter ≡ Some x.enter → name_at l (get_or p.basis.items row 0) ≡ Some x.leave → IsTooWide l budget trail x place
path_wide l budget p row enter x at place trail h n wide there fewer et name_enter name_leave =
    let m : Move = record { enter = enter; leave = get_or p.basis.items row 0 } in
    let can : CanExchange (system_of l) p.basis.items h.tableau.entries enter (get_or p.basis.items row 0) = path_can l p row enter h n in
    let hr : row < good_count l = path_row l p row enter h n in
    let count : length h.moves ≡ length p.trail.items = length-names l h.moves p.trail.items h.named in (
      h.moves,
      m,
      subst (λ (k : List Exchange). NamesAll l h.moves k) (sym et) h.named,
      record { enter_is = name_enter; leave_is = name_leave },
      gets_wide l budget p.basis.items h.moves m place h.basis_is h.tableau.is_basis h.is_trail h.narrow (omega arith)
          (wide_next l p.basis.items m h.tableau.entries place h.tableau.is_basis h.tableau.are_entries n.is_next
          (place_wide l p.basis.items p.rows.items p.cost.items h.tableau row enter hr can at place wide there)),
    )

pub path_out : (l : Linear) (budget : ℕ) (p : Path) (row enter : ℕ) (h : IsPath l p) → NextAt (system_of l) p.basis.items row enter → length p.trail.items ≡ budget → RunsOut l budget h.moves
path_out l budget p row enter h n e =
    runs_out l budget p.basis.items h.moves (record { enter = enter; leave = get_or p.basis.items row 0 }) h.basis_is h.tableau.is_basis h.is_trail h.narrow (length-names l h.moves p.trail.items h.named ∙ e) n.is_next

-- a path to a settled basis
pub ends_within : (l : Linear) (budget : ℕ) (p : Path) (h : IsPath l p) → length p.trail.items ≤ budget → (e : Entries) → AreEntries (system_of l) p.basis.items e → IsSettled (system_of l) p.basis.items e → EndsWithin l budget h.moves
ends_within l budget p h le e en done =
    record {
      trail = h.is_trail;
      entries = e;
      are_entries = subst (λ (b : List ℕ). AreEntries (system_of l) b e) h.basis_is en;
      settled = subst (λ (b : List ℕ). IsSettled (system_of l) b e) h.basis_is done;
      narrow = h.narrow;
      within = omega (arith, length-names l h.moves p.trail.items h.named);
    }

pub out_done : (l : Linear) (budget : ℕ) (p : Path) (row enter : ℕ) → IsPath l p → NextAt (system_of l) p.basis.items row enter → length p.trail.items ≡ budget → (a : SolveAnswer) → IsOutWith p.trail.items a → IsDone l budget a
out_done l budget p row enter h n e (Planned x) w = absurd w
out_done l budget p row enter h n e (Infeasible x) w = absurd w
out_done l budget p row enter h n e (TooWide x next place) w = absurd w
out_done l budget p row enter h n e (OutOfBudget x) w =
    ((h.moves, subst (λ (k : List Exchange). NamesAll l h.moves k) (sym w) h.named, path_out l budget p row enter h n e), tt)
