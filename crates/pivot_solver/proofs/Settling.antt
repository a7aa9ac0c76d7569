-- The plan, and the prices, of a settled basis.
use Rattle.std.specs.Prelude.{◌≡◌, ℕ, ◌+◌, ◌<◌, List, length}
use Rattle.std.proofs.Common.{sym, ap, subst, ◌∙◌, arith, inl, inr, get_or}
use Rattle.number_rows.specs.Changed.{Numbers}
use Rattle.fractions.specs.Fraction.{Fraction, zero_fraction, negated, ◌-ʳ◌}
use Rattle.fractions.specs.Fracs.{atom, nought, ◌⊟◌, opposite, same_amount}
use Rattle.fractions.proofs.Laws.{negated-negated}
use Rattle.linear_table.specs.System.{System, Entries, one_at, total}
use Rattle.linear_table.specs.Trail.{HasValues, ShowsPlan}
use Rattle.linear_table.specs.Basis.{system_of}
use Rattle.linear_table.specs.Plans.{good_count, column_count, number_at, IsWellFormed, IsPlan, cost_of, AreLeastCostPrices, AreInfeasibilityPrices}
use Rattle.linear_table.specs.declared.Linear.{Linear}
use Rattle.linear_table.proofs.Combos.{worth}
use Rattle.linear_table.proofs.Settled.{good_prices, rates_of, shows_plan, shows_prices, shows_none, cost_of_rates, weight_at, at_unit}
use Rattle.pivot_solver.specs.Rows.{row_at}
use Rattle.pivot_solver.specs.First.{width_of}
use Rattle.pivot_solver.specs.Tableau.{IsTableau}
use Rattle.pivot_solver.specs.Choice.{PlanAt, NoneAt}
use Rattle.pivot_solver.specs.Numbers.{IsBasicValue, ListsEach}
use Rattle.pivot_solver.proofs.Chosen.{row_of}
use Rattle.pivot_solver.proofs.Each.{listed_is, each_weaker}
use Rattle.pivot_solver.proofs.Onward.{same_entries}

basic_value_is : (s : System) (b : List ℕ) (rows : List Numbers) (cost : List Fraction) (t : IsTableau s b rows cost) (c : ℕ) (x : Fraction) → IsBasicValue b rows (s.goods + s.lines) c x → x ≡ t.entries.value c
basic_value_is s b rows cost t c x h =
    elim h [
      | inl v ↦ v.3 ∙ (t.value_is v.0 (omega (arith, v.1, t.is_basis.size)) ∙ ap t.entries.value v.2)
      | inr v ↦ v.1 ∙ sym (t.are_entries.wanted.outside c (λ has. let r : (i : ℕ) × (i < length b) × (get_or b i 0 ≡ c) = row_of b c has in v.0 r.0 r.1 r.2))
    ]

turn_back : (w : Fraction) → negated (zero_fraction -ʳ w) ≡ w
turn_back w = same_amount (opposite (nought ⊟ atom w)) (atom w) (omega arith)

-- the price of a unit column is 0
unit_price : (l : Linear) (g : ℕ) → g < good_count l → (system_of l).price g ≡ zero_fraction
unit_price l g h = at_unit (good_count l) g zero_fraction _ h

pub plan_of : (l : Linear) (b : List ℕ) (rows : List Numbers) (cost : List Fraction) → IsWellFormed l → IsTableau (system_of l) b rows cost → HasValues (system_of l) b → PlanAt (system_of l) b → (rates prices : List Fraction) (sum : Fraction) →
    ListsEach (column_count l) (λ j x. IsBasicValue b rows (width_of l) (good_count l + j) x) rates → ListsEach (good_count l) (λ g x. x ≡ negated (number_at cost g)) prices → sum ≡ negated (number_at cost (width_of l)) →
    IsPlan l rates × (sum ≡ cost_of l rates) × AreLeastCostPrices l prices sum
plan_of l b rows cost well t values shown rates prices sum hr hp hs =
    let s : System = system_of l in
    let e : Entries = t.entries in
    let shows : ShowsPlan s b e = subst (λ (k : Entries). ShowsPlan s b k) (same_entries s b shown.entries e t.is_basis shown.are_entries t.are_entries) shown.shows in
    let rates_is : rates ≡ rates_of l e =
    listed_is (column_count l) (λ j. e.value (good_count l + j)) rates
    (each_weaker (column_count l) (λ j x. IsBasicValue b rows (width_of l) (good_count l + j) x) (λ j x. x ≡ e.value (good_count l + j)) rates (λ j x q v. basic_value_is s b rows cost t (good_count l + j) x v) hr) in
    let prices_is : prices ≡ good_prices l s.price e =
    listed_is (good_count l) (worth s s.price e) prices
    (each_weaker (good_count l) (λ g x. x ≡ negated (number_at cost g)) (λ g x. x ≡ worth s s.price e g) prices
    (λ g x q v. v ∙ (ap negated (t.reduced_is g (omega arith) ∙ ap (λ (k : Fraction). k -ʳ worth s s.price e g) (unit_price l g q)) ∙ turn_back (worth s s.price e g))) hp) in
    let sum_is : sum ≡ total s s.price e = hs ∙ (ap negated t.total_is ∙ negated-negated (total s s.price e)) in (
      subst (λ (k : List Fraction). IsPlan l k) (sym rates_is) (shows_plan l b e t.are_entries values shows),
      sum_is ∙ (sym (cost_of_rates l b e t.are_entries shows) ∙ ap (λ (k : List Fraction). cost_of l k) (sym rates_is)),
      subst (λ (k : List Fraction). AreLeastCostPrices l k sum) (sym prices_is) (subst (λ (k : Fraction). AreLeastCostPrices l (good_prices l s.price e) k) (sym sum_is) (shows_prices l b e well t.is_basis t.are_entries shows)),
    )

pub refusal_of : (l : Linear) (b : List ℕ) (rows : List Numbers) (cost : List Fraction) (at : ℕ) → IsWellFormed l → IsTableau (system_of l) b rows cost → NoneAt (system_of l) b at → (prices : List Fraction) → ListsEach (good_count l) (λ g x. x ≡ number_at (row_at rows at) g) prices →
    AreInfeasibilityPrices l prices
refusal_of l b rows cost at well t shown prices hp =
    let s : System = system_of l in
    let e : Entries = shown.entries in
    let a : ℕ = shown.shows.row in
    let same : t.entries ≡ e = same_entries s b t.entries e t.is_basis t.are_entries shown.are_entries in
    let in_range : a < s.goods + s.lines = t.is_basis.known a shown.shows.inside in
    let prices_is : prices ≡ good_prices l (one_at a) e =
    listed_is (good_count l) (worth s (one_at a) e) prices
    (each_weaker (good_count l) (λ g x. x ≡ number_at (row_at rows at) g) (λ g x. x ≡ worth s (one_at a) e g) prices
    (λ g x q v.
    v
    ∙ (t.entry_is at g (omega (arith, shown.inside, t.is_basis.size)) (omega arith)
    ∙ (ap (λ (k : Entries). k.entry g (get_or b at 0)) same ∙ (ap (λ (k : ℕ). e.entry g k) (sym shown.row_is) ∙ sym (weight_at (s.goods + s.lines) a (e.entry g) in_range))))) hp) in
    subst (λ (k : List Fraction). AreInfeasibilityPrices l k) (sym prices_is) (shows_none l b e well t.is_basis shown.are_entries shown.shows)

-- ---- the lists, as the calls give them
pub rates_at : {b b0 : List ℕ} {rows rows0 : List Numbers} {w w0 n n0 k k0 : ℕ} {xs xs0 : List Fraction} → b0 ≡ b → rows0 ≡ rows → w0 ≡ w → n0 ≡ n → k0 ≡ k → xs ≡ xs0 →
    ListsEach k0 (λ j x. IsBasicValue b0 rows0 w0 (n0 + j) x) xs0 → ListsEach k (λ j x. IsBasicValue b rows w (n + j) x) xs
rates_at {b = b} {rows = rows} {rows0 = rows0} {w = w} {w0 = w0} {n = n} {n0 = n0} {k = k} {k0 = k0} {xs0 = xs0} eb er ew en ek ex h =
    subst (λ (z : List Fraction). ListsEach k (λ j x. IsBasicValue b rows w (n + j) x) z) (sym ex)
    (subst (λ (z : ℕ). ListsEach z (λ j x. IsBasicValue b rows w (n + j) x) xs0) ek
    (subst (λ (z : ℕ). ListsEach k0 (λ j x. IsBasicValue b rows w (z + j) x) xs0) en
    (subst (λ (z : ℕ). ListsEach k0 (λ j x. IsBasicValue b rows z (n0 + j) x) xs0) ew
    (subst (λ (z : List Numbers). ListsEach k0 (λ j x. IsBasicValue b z w0 (n0 + j) x) xs0) er
    (subst (λ (z : List ℕ). ListsEach k0 (λ j x. IsBasicValue z rows0 w0 (n0 + j) x) xs0) eb h)))))

pub prices_at : {row row0 : List Fraction} {n n0 : ℕ} {xs xs0 : List Fraction} (f : Fraction → Fraction) → row0 ≡ row → n0 ≡ n → xs ≡ xs0 → ListsEach n0 (λ g x. x ≡ f (number_at row0 g)) xs0 → ListsEach n (λ g x. x ≡ f (number_at row g)) xs
prices_at {row = row} {n = n} {n0 = n0} {xs0 = xs0} f er en ex h =
    subst (λ (z : List Fraction). ListsEach n (λ g x. x ≡ f (number_at row g)) z) (sym ex)
    (subst (λ (z : ℕ). ListsEach z (λ g x. x ≡ f (number_at row g)) xs0) en
    (subst (λ (z : List Fraction). ListsEach n0 (λ g x. x ≡ f (number_at z g)) xs0) er h))
