-- A path with one exchange more, and what an exchange that forms a wide number shows.
use Rattle.std.specs.Prelude.{◌≡◌, ℕ, suc, ◌<◌, List, [], ◌∷◌, ◌++◌, length}
use Rattle.std.proofs.Common.{refl, sym, ap, subst, ◌∙◌, set, get_or}
use Rattle.number_rows.specs.Changed.{Numbers}
use Rattle.fractions.specs.Fraction.{Fraction}
use Rattle.linear_table.specs.System.{System, IsBasis, Entries, AreEntries}
use Rattle.linear_table.specs.Exchanged.{exchanged}
use Rattle.linear_table.specs.Trail.{Move, IsChoice, IsNext, IsTrail, IsSettled, first_basis}
use Rattle.linear_table.specs.Basis.{system_of}
use Rattle.linear_table.specs.Wide.{FormsWide}
use Rattle.linear_table.specs.Answer.{NamesAll, NoneWide, last_basis, RunsOut, GetsWide}
use Rattle.linear_table.specs.declared.Linear.{Linear}
use Rattle.linear_table.specs.declared.Exchange.{Exchange}
use Rattle.linear_table.specs.declared.Place.{Place}
use Rattle.linear_table.specs.declared.Place.TheVariants.{Entry, Value, Reduced, Total}
use Rattle.linear_table.proofs.Pivot.{CanExchange}
use Rattle.linear_table.proofs.Steps.{entries_alone, choice_can}
use Rattle.linear_table.proofs.Extend.{trail_more, last_more, narrow_more}
use Rattle.pivot_solver.specs.Tableau.{IsTableau}
use Rattle.pivot_solver.specs.WideAt.{IsWideInRow, IsWideInCost, IsWideAt}
use Rattle.pivot_solver.specs.Places.{IsPlaceOf}
use Rattle.pivot_solver.specs.declared.WideAt.{WideAt}
use Rattle.pivot_solver.specs.declared.WideAt.TheVariants.{Row, Cost}
use Rattle.pivot_solver.proofs.Kept.{set_exchanged}
use Rattle.pivot_solver.proofs.Places.{wide_entry, wide_value, wide_reduced, wide_total}

-- the entries of one basis are one record
pub same_entries : (s : System) (b : List ℕ) (e f : Entries) → IsBasis s b → AreEntries s b e → AreEntries s b f → e ≡ f
same_entries s b e f basis he hf = entries_alone s b b e f basis he hf (λ c h. h)

-- the next exchange, said of these entries
pub next_with : (s : System) (b : List ℕ) (m : Move) (e : Entries) → IsBasis s b → AreEntries s b e → IsNext s b m → IsNext s b m
next_with s b m e basis en n =
    let same : n.entries ≡ e = same_entries s b n.entries e basis n.are_entries en in
    record {
      entries = e;
      are_entries = en;
      not_settled = subst (λ (k : Entries). ¬ IsSettled s b k) same n.not_settled;
      choice = subst (λ (k : Entries). IsChoice s b k m.enter m.leave) same n.choice;
    }

unsettled : (s : System) (b : List ℕ) (m : Move) → IsBasis s b → IsNext s b m → (e : Entries) → AreEntries s b e → ¬ IsSettled s b e
unsettled s b m basis n e en done = n.not_settled (subst (λ (k : Entries). IsSettled s b k) (same_entries s b e n.entries basis en n.are_entries) done)

pub can_next : (s : System) (b : List ℕ) (m : Move) (e : Entries) → IsBasis s b → AreEntries s b e → IsNext s b m → CanExchange s b e m.enter m.leave
can_next s b m e basis en n =
    let same : n.entries ≡ e = same_entries s b n.entries e basis n.are_entries en in
    choice_can s b e m.enter m.leave basis en (subst (λ (k : Entries). IsChoice s b k m.enter m.leave) same n.choice)

abbrev move_of : List ℕ → ℕ → ℕ → Move
move_of b row enter = record { enter = enter; leave = get_or b row 0 }

-- ---- one exchange more
pub trail_onward : (l : Linear) (b : List ℕ) (ms : List Move) (m : Move) → b ≡ last_basis l ms → IsTrail (system_of l) ms → IsNext (system_of l) b m → IsTrail (system_of l) (ms ++ m ∷ [])
trail_onward l b ms m e t n =
    trail_more (system_of l) (first_basis (system_of l)) ms m t (subst (λ (k : List ℕ). IsNext (system_of l) k m) e n)

pub basis_onward : (l : Linear) (b new : List ℕ) (ms : List Move) (row enter : ℕ) → b ≡ last_basis l ms → IsBasis (system_of l) b → row < length b → new ≡ set b row enter → new ≡ last_basis l (ms ++ move_of b row enter ∷ [])
basis_onward l b new ms row enter e basis h w =
    w
    ∙ (set_exchanged b row enter basis.differ h
    ∙ (ap (λ (k : List ℕ). exchanged enter (get_or b row 0) k) e ∙ sym (last_more (first_basis (system_of l)) ms (move_of b row enter))))

pub narrow_onward : (l : Linear) (b : List ℕ) (ms : List Move) (m : Move) (f : Entries) → b ≡ last_basis l ms → IsBasis (system_of l) b → AreEntries (system_of l) b f → NoneWide l (first_basis (system_of l)) ms → ((p : Place) → ¬ FormsWide l b f m p) →
    NoneWide l (first_basis (system_of l)) (ms ++ m ∷ [])
narrow_onward l b ms m f e basis en h none =
    narrow_more l (first_basis (system_of l)) ms m h
    (subst (λ (k : List ℕ). (x : Entries) → AreEntries (system_of l) k x → (p : Place) → ¬ FormsWide l k x m p) e
    (λ x hx p w. none p (subst (λ (k : Entries). FormsWide l b k m p) (same_entries (system_of l) b x f basis hx en) w)))

-- ---- an exchange that forms a wide number
pub place_wide : (l : Linear) (b : List ℕ) (rows : List Numbers) (cost : List Fraction) (t : IsTableau (system_of l) b rows cost) (row enter : ℕ) → row < (system_of l).goods → CanExchange (system_of l) b t.entries enter (get_or b row 0) →
    (at : WideAt) (place : Place) → IsWideAt rows cost row enter at → IsPlaceOf l at place → FormsWide l b t.entries (record { enter = enter; leave = get_or b row 0 }) place
place_wide l b rows cost t row enter hr can (Row s) (Entry column r) w p =
    subst (λ (k : ℕ). FormsWide l b t.entries (record { enter = enter; leave = get_or b row 0 }) (Entry column k)) (sym p.2) (wide_entry l b rows cost t row enter hr can s.row s.place column p.0 p.1 w)
place_wide l b rows cost t row enter hr can (Row s) (Value r) w p =
    subst (λ (k : ℕ). FormsWide l b t.entries (record { enter = enter; leave = get_or b row 0 }) (Value k)) (sym p.1)
    (wide_value l b rows cost t row enter hr can s.row (subst (λ (k : ℕ). IsWideInRow rows row enter s.row k) p.0 w))
place_wide l b rows cost t row enter hr can (Row s) (Reduced column) w p = absurd p
place_wide l b rows cost t row enter hr can (Row s) Total w p = absurd p
place_wide l b rows cost t row enter hr can (Cost k) (Entry column r) w p = absurd p
place_wide l b rows cost t row enter hr can (Cost k) (Value r) w p = absurd p
place_wide l b rows cost t row enter hr can (Cost k) (Reduced column) w p = wide_reduced l b rows cost t row enter hr can k column p.0 p.1 w
place_wide l b rows cost t row enter hr can (Cost k) Total w p =
    wide_total l b rows cost t row enter hr can (subst (λ (j : ℕ). IsWideInCost rows cost row enter j) p w)

-- the next exchange, with a place that it forms wide
pub record WideNext (l : Linear) (b : List ℕ) (m : Move) (place : Place) : Type 0 where
  pub next : IsNext (system_of l) b m
  pub wide : FormsWide l b next.entries m place

pub wide_next : (l : Linear) (b : List ℕ) (m : Move) (e : Entries) (place : Place) → IsBasis (system_of l) b → AreEntries (system_of l) b e → IsNext (system_of l) b m → FormsWide l b e m place → WideNext l b m place
unfolding next_with
wide_next l b m e place basis en n w = record { next = next_with (system_of l) b m e basis en n; wide = w }

pub gets_wide : (l : Linear) (budget : ℕ) (b : List ℕ) (ms : List Move) (m : Move) (place : Place) → b ≡ last_basis l ms → IsBasis (system_of l) b → IsTrail (system_of l) ms → NoneWide l (first_basis (system_of l)) ms → length ms < budget → WideNext l b m place → GetsWide l budget ms m place
gets_wide l budget b ms m place e basis t narrow fewer w =
    let there : WideNext l (last_basis l ms) m place = subst (λ (k : List ℕ). WideNext l k m place) e w in
    record {
      is_open = record {
        trail = t;
        not_settled = subst (λ (k : List ℕ). (x : Entries) → AreEntries (system_of l) k x → ¬ IsSettled (system_of l) k x) e (unsettled (system_of l) b m basis w.next);
        narrow = narrow;
      };
      fewer = fewer;
      is_next = there.next;
      wide = there.wide;
    }

-- a basis with a next exchange, after as many exchanges as the budget
pub runs_out : (l : Linear) (budget : ℕ) (b : List ℕ) (ms : List Move) (m : Move) → b ≡ last_basis l ms → IsBasis (system_of l) b → IsTrail (system_of l) ms → NoneWide l (first_basis (system_of l)) ms → length ms ≡ budget → IsNext (system_of l) b m → RunsOut l budget ms
runs_out l budget b ms m e basis t narrow count n =
    record {
      is_open = record {
        trail = t;
        not_settled = subst (λ (k : List ℕ). (x : Entries) → AreEntries (system_of l) k x → ¬ IsSettled (system_of l) k x) e (unsettled (system_of l) b m basis n);
        narrow = narrow;
      };
      count = count;
    }

pub length-names : (l : Linear) (ms : List Move) (xs : List Exchange) → NamesAll l ms xs → length ms ≡ length xs
length-names l [] [] h = refl
length-names l [] (x ∷ xs) h = absurd h
length-names l (m ∷ ms) [] h = absurd h
length-names l (m ∷ ms) (x ∷ xs) h = ap suc (length-names l ms xs h.1)
